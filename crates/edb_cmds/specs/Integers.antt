-- Literal lists of integers, as a command gives them: `[1,-2,$a]`, `"abc"`, `[1|[2]]`, `[]`.

use Rattle.std.specs.Prelude.{ℕ, ℤ, pos, neg_ℤ, List, [], ◌∷◌, ◌++◌}
use Rattle.edb_lang.specs.Terms as term
use Rattle.edb_lang.specs.Terms.{Datum}
use Rattle.edb_scan.specs.declared.lexeme.Mark.TheVariants as mark
use Rattle.edb_scan.specs.declared.lexeme.Token.{Token}
use Rattle.edb_scan.specs.declared.lexeme.Token.TheVariants as token

-- an integer, a negative one, or a character
pub data ReadsInteger : List Token → ℤ → Type 0 where
  plain : (n : ℕ) → ReadsInteger (token.Int n ∷ []) (pos n)
  negative : (n : ℕ) → ReadsInteger (token.Mark mark.Minus ∷ (token.Int n ∷ [])) (neg_ℤ (pos n))
  character : (c : ℕ) → ReadsInteger (token.Char c ∷ []) (pos c)

-- one or more strings in a row: all of their characters
pub data ReadsStrings : List Token → List ℕ → Type 0 where
  one : (cs : List ℕ) → ReadsStrings (token.Str cs ∷ []) cs
  further : (cs ds : List ℕ) (ts : List Token) → ReadsStrings ts ds → ReadsStrings (token.Str cs ∷ ts) (cs ++ ds)

-- the list of these characters
abbrev pub string_term : List ℕ → Datum
string_term [] = term.nil
string_term (c ∷ cs) = term.cons (term.int (pos c)) (string_term cs)

-- integers parted by commas, before what the list ends in
pub data ReadsItems : List Token → Datum → Datum → Type 0 where
  last : (ts : List Token) (i : ℤ) (end : Datum) → ReadsInteger ts i → ReadsItems ts end (term.cons (term.int i) end)
  next : (ts us : List Token) (i : ℤ) (end d : Datum) → ReadsInteger ts i → ReadsItems us end d
      → ReadsItems (ts ++ (token.Mark mark.Comma ∷ us)) end (term.cons (term.int i) d)

-- a list: empty, of characters, of items, or of items and a further list behind `|`
pub data ReadsList : List Token → Datum → Type 0 where
  empty : ReadsList (token.Mark mark.BracketOpen ∷ (token.Mark mark.BracketClose ∷ [])) term.nil
  string : (ts : List Token) (cs : List ℕ) → ReadsStrings ts cs → ReadsList ts (string_term cs)
  items : (ts : List Token) (d : Datum) → ReadsItems ts term.nil d
      → ReadsList (token.Mark mark.BracketOpen ∷ (ts ++ (token.Mark mark.BracketClose ∷ []))) d
  tailed : (ts us : List Token) (end d : Datum) → ReadsList us end → ReadsItems ts end d
      → ReadsList (token.Mark mark.BracketOpen ∷ (ts ++ (token.Mark mark.Bar ∷ (us ++ (token.Mark mark.BracketClose ∷ []))))) d
