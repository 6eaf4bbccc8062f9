-- Whether a meta process interprets a process, told from a journal's entries alone.

use Rattle.std.specs.Prelude.{ℕ, Bool, true, false, if◌then◌else◌, ◌&&◌, nat_eq, List, Some}
use Rattle.std.specs.List.{fold}
use Rattle.edb_lang.specs.declared.act.ActKind.{ActKind}
use Rattle.edb_lang.specs.declared.act.ActKind.TheVariants as kind
use Rattle.edb_event.specs.declared.entry.Entry.{Entry}
use Rattle.edb_event.specs.declared.entry.Entry.TheVariants as entry

abbrev pub is_end : ActKind → Bool
is_end kind.End = true
is_end _ = false

-- one does from an Enter of the process on, until the process leaves or ends: by itself, by a signal, or by a `kill`
abbrev pub inside_with : ℕ → Bool → Entry → Bool
inside_with p b (entry.Enter q m n a) = if nat_eq q p then true else b
inside_with p b (entry.Leave q) = if nat_eq q p then false else b
inside_with p b (entry.Did q k v bytes) = if nat_eq q p && is_end k then false else b
inside_with p b (entry.Signal q (Some r)) = if nat_eq q p then false else b
inside_with p b (entry.Kill c q) = if nat_eq q p then false else b
inside_with p b _ = b

abbrev pub is_inside_by : ℕ → List Entry → Bool
is_inside_by p journal = fold (inside_with p) false journal
