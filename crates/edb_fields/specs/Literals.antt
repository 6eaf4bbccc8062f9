-- Literal terms as fields.

use Rattle.std.specs.Prelude.{◌≡◌, ℕ, ◌+◌, ◌≤◌, IsUtf8}
use Rattle.edb_lang.specs.Terms.{Datum, Datums, height, size}
use Rattle.edb_lang.specs.Terms as term
use Rattle.edb_event.specs.Ranges.{IsLiteral, IsList}

-- The atoms of a literal are UTF-8, as those of every term that code holds.
abbrev mutual
  pub HasText : Datum → Type 0
  HasText (term.atom a) = IsUtf8 a
  HasText (term.tuple ts) = HaveText ts
  HasText (term.cons h t) = HasText h × HasText t
  HasText _ = Unit {0}

  pub HaveText : Datums → Type 0
  HaveText term.none = Unit {0}
  HaveText (term.more t ts) = HasText t × HaveText ts

-- a literal term, no higher than `levels` and no larger than `room`
pub record IsPlain (levels room : ℕ) (t : Datum) : Type 0 where
  pub literal : IsLiteral t
  pub names : HasText t
  pub low : height t ≤ levels
  pub small : size t ≤ room

-- the list of a start
abbrev pub IsPlainList : Datum → Type 0
IsPlainList t = IsList t × HasText t

-- a literal term that was read, and how much room it left
pub record Fits (levels room : ℕ) (t : Datum) (left : ℕ) : Type 0 where
  pub literal : IsLiteral t
  pub names : HasText t
  pub low : height t ≤ levels
  pub small : size t + left ≡ room
