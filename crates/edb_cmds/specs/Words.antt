-- The words of a line, one behind the other.

use Rattle.std.specs.Prelude.{◌≡◌, ℕ, ◌+◌, List, ◌∷◌, ◌++◌, codes, map, Some}
use Rattle.edb_lang.specs.Terms.{Datum, IsWithin}
use Rattle.edb_scan.specs.declared.lexeme.Placed.{Placed}
use Rattle.edb_scan.specs.declared.lexeme.Token.TheVariants.{Atom}
use Rattle.edb_scan.specs.Lexis.{Begins, Fits}
use Rattle.edb_scan.specs.Parting.{AreTokens}
use Rattle.edb_cmds.specs.Integers.{ReadsList}
use Rattle.edb_cmds.specs.Script.{spaces}

-- the text goes on with no space
abbrev pub NoSpace : List ℕ → Type 0
NoSpace text = (rest : List ℕ) → text ≡ 32 ∷ rest → ⊥

-- the spaces at the head of a text, all of them, and the rest
pub record SplitsSpaces (text rest : List ℕ) : Type 0 where
  pub count : ℕ
  pub cut : text ≡ spaces count ++ rest
  pub all : NoSpace rest

-- one space or more, all of them, and the rest
pub record SplitsGap (text rest : List ℕ) : Type 0 where
  pub gap : ℕ
  pub cut : text ≡ spaces (gap + 1) ++ rest
  pub all : NoSpace rest

-- spaces or none, the word `start`, and the rest
pub record SplitsStart (line rest : List ℕ) : Type 0 where
  pub before : ℕ
  pub cut : line ≡ spaces before ++ (codes "start" ++ rest)

-- one space or more, a word that is this atom, and the rest
pub record SplitsAtom (text name rest : List ℕ) : Type 0 where
  pub gap : ℕ
  pub word : List ℕ
  pub cut : text ≡ spaces (gap + 1) ++ word
  pub begins : Begins word rest (Some (Atom name))
  pub fits : Fits (Some (Atom name))

-- a literal list of integers, up to the text's end
pub record IsList (text : List ℕ) (list : Datum) : Type 0 where
  pub tokens : List Placed
  pub scanned : AreTokens text tokens
  pub reads : ReadsList (map (λ p. p.token) tokens) list
  pub within : IsWithin list

-- one space or more, and the list
pub record SplitsList (text : List ℕ) (list : Datum) : Type 0 where
  pub gap : ℕ
  pub list_text : List ℕ
  pub cut : text ≡ spaces (gap + 1) ++ list_text
  pub is : IsList list_text list
