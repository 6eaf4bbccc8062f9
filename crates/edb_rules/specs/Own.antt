-- A console's own processes, told from a journal's entries alone.

use Rattle.std.specs.Prelude.{ℕ, if◌then◌else◌, nat_eq, List, [], ◌∷◌, ◌++◌}
use Rattle.std.specs.List.{fold}
use Rattle.edb_event.specs.declared.reply.Reply.TheVariants as reply
use Rattle.edb_event.specs.declared.entry.Entry.{Entry}
use Rattle.edb_event.specs.declared.entry.Entry.TheVariants as entry

-- a Start of console c makes a process of its own, behind those that it has
abbrev pub starts_with : ℕ → List ℕ → Entry → List ℕ
starts_with c ps (entry.Start d p m n args) = if nat_eq d c then ps ++ p ∷ [] else ps
starts_with c ps _ = ps

-- the processes that the starts of console c made, in order
abbrev pub starts_of : ℕ → List Entry → List ℕ
starts_of c journal = fold (starts_with c) [] journal

-- an await of console c that was answered by a status is its last so far
abbrev pub last_with : ℕ → ℕ → Entry → ℕ
last_with c q (entry.Served d x (reply.Status p s)) = if nat_eq d c then p else q
last_with c q _ = q

-- the process of the last await of console c that was answered by a status, 0 if none was
abbrev pub last_of : ℕ → List Entry → ℕ
last_of c journal = fold (last_with c) 0 journal
