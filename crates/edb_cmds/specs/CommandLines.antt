-- The lines of a script: which are blank, and which give a command.

use Rattle.std.specs.Prelude.{◌≡◌, ◌⊎◌, ℕ, List, [], ◌∷◌, ◌++◌, codes}
use Rattle.edb_event.specs.declared.call.Call.{Call}
use Rattle.edb_event.specs.declared.call.Call.TheVariants as call
use Rattle.edb_event.specs.declared.call.Command.{Command}
use Rattle.edb_event.specs.declared.call.Word.{Word}
use Rattle.edb_event.specs.declared.call.Word.TheVariants.{Absent}
use Rattle.edb_cmds.specs.Fields.{Field, atom, line, process, status, AreFields}
use Rattle.edb_cmds.specs.Script.{spaces, IsStart}

-- spaces or none up to the line's end, or up to a comment
abbrev pub IsBlankLine : List ℕ → Type 0
IsBlankLine text = (count : ℕ) × ((text ≡ spaces count) ⊎ ((comment : List ℕ) × (text ≡ spaces count ++ (37 ∷ comment))))

-- spaces or none, this word, and these fields up to the line's end
pub record IsLineOf (text first : List ℕ) (fields : List Field) : Type 0 where
  pub before : ℕ
  pub rest : List ℕ
  pub cut : text ≡ spaces before ++ (first ++ rest)
  pub behind : AreFields rest fields

-- the line of a command about the process that a word names, which has no number yet
pub record IsProcessLine (text first : List ℕ) (pid : ℕ) (w : Word) (fields : List Field) : Type 0 where
  pub open_pid : pid ≡ 0
  pub names : IsLineOf text first (process w ∷ fields)

-- the line gives this call, and the word says its process
abbrev pub IsCallLine : List ℕ → Call → Word → Type 0
IsCallLine text (call.Start m f args) w = (w ≡ Absent) × IsStart text (record { home = m; name = f; args = args })
IsCallLine text (call.Ii m) w = (w ≡ Absent) × IsLineOf text (codes "ii") (atom m ∷ [])
IsCallLine text (call.Ib m l) w = (w ≡ Absent) × IsLineOf text (codes "ib") (atom m ∷ line l ∷ [])
IsCallLine text (call.Await pid s) w = IsProcessLine text (codes "await") pid w (status s ∷ [])
IsCallLine text (call.Ia pid) w = IsProcessLine text (codes "ia") pid w []
IsCallLine text (call.Bindings pid) w = IsProcessLine text (codes "bindings") pid w []
IsCallLine text (call.Continue pid) w = IsProcessLine text (codes "continue") pid w []
IsCallLine text _ w = ⊥

-- the line gives this command
abbrev pub IsCommandLine : List ℕ → Command → Type 0
IsCommandLine text command = IsCallLine text command.call command.word
