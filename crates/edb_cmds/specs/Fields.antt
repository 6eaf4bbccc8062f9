-- What stands behind the first word of a command: an atom, a line, a process, a status.

use Rattle.std.specs.Prelude.{◌≡◌, ℕ, ◌+◌, List, [], ◌∷◌, ◌++◌, Some}
use Rattle.edb_event.specs.declared.call.ProcStatus.{ProcStatus}
use Rattle.edb_event.specs.declared.call.Word.{Word}
use Rattle.edb_event.specs.declared.call.Word.TheVariants as word
use Rattle.edb_scan.specs.declared.lexeme.Token.TheVariants.{Atom}
use Rattle.edb_scan.specs.Lexis.{Begins, Fits}
use Rattle.edb_words.specs.Words.{status_word}
use Rattle.edb_cmds.specs.Numbers.{WritesNumber, WritesLine}
use Rattle.edb_cmds.specs.Script.{spaces}

pub data Field : Type 0 where
  atom : List ℕ → Field
  line : ℕ → Field
  process : Word → Field
  status : ProcStatus → Field

-- a process: its number, or `$` and the number of a start of this console
abbrev pub WritesProcess : List ℕ → Word → Type 0
WritesProcess text (word.Number n) = WritesNumber text n
WritesProcess text (word.Own k) = (digits : List ℕ) × (text ≡ 36 ∷ digits) × WritesNumber digits k
WritesProcess text _ = ⊥

-- the text begins with this field, and the rest comes behind it
abbrev pub BeginsField : List ℕ → Field → List ℕ → Type 0
BeginsField text (atom name) rest = Begins text rest (Some (Atom name)) × Fits (Some (Atom name))
BeginsField text (line n) rest = (digits : List ℕ) × (text ≡ digits ++ rest) × WritesLine digits n
BeginsField text (process w) rest = (own : List ℕ) × (text ≡ own ++ rest) × WritesProcess own w
BeginsField text (status s) rest = text ≡ status_word s ++ rest

-- these fields, each behind one space or more, and then spaces or none up to the text's end
pub data AreFields : List ℕ → List Field → Type 0 where
  end : (text : List ℕ) (count : ℕ) → text ≡ spaces count → AreFields text []
  next : (text from rest : List ℕ) (gap : ℕ) (f : Field) (fs : List Field) → text ≡ spaces (gap + 1) ++ from
      → BeginsField from f rest → AreFields rest fs → AreFields text (f ∷ fs)
