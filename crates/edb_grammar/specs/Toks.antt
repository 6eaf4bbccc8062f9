-- Tokens as the grammar sees them: each at its place.

use Rattle.std.specs.Prelude.{ℕ, ◌+◌, ◌-◌, max, List, [], ◌∷◌}
use Rattle.edb_scan.specs.declared.lexeme.Mark.{Mark}
use Rattle.edb_scan.specs.declared.lexeme.Mark.TheVariants as mark
use Rattle.edb_scan.specs.declared.lexeme.Token.{Token}
use Rattle.edb_scan.specs.declared.lexeme.Token.TheVariants as token
use Rattle.edb_scan.specs.declared.lexeme.Placed.{Placed}

-- where a token stands: its line, and how many `fun`s stand before it in the functions of the module
pub record Place : Type 0 where
  pub line : ℕ
  pub funs : ℕ

pub data Tok : Type 0 where
  tok : Place → Token → Tok

-- a mark or a reserved word
abbrev pub word : Place → Mark → Tok
word s m = tok s (token.Mark m)

-- the greatest integer: integers have 128 bits, one of them for the sign
abbrev pub most_integer : ℕ
most_integer = 170141183460469231731687303715884105727

-- the line of the first token; 1 where there is none
abbrev pub line_at : List Tok → ℕ
line_at [] = 1
line_at (tok s t ∷ ts) = s.line

-- how many `fun`s stand up to this token, it included, where so many stand before it
abbrev pub funs_with : ℕ → Token → ℕ
funs_with n (token.Mark mark.Fun) = n + 1
funs_with n _ = n

-- tokens at their places, where so many `fun`s stand before the first
abbrev pub places : ℕ → List Placed → List Tok
places n [] = []
places n (t ∷ ts) = tok (record { line = t.line; funs = n }) t.token ∷ places (funs_with n t.token) ts

-- how many `fun`s stand before what comes behind these tokens
abbrev pub funs_behind : ℕ → List Placed → ℕ
funs_behind n [] = n
funs_behind n (t ∷ ts) = funs_behind (funs_with n t.token) ts

-- How many round brackets are open behind a token, where n are open before it: `(` opens one, and `)` closes one
-- where one is open.
abbrev pub open_behind : ℕ → Tok → ℕ
open_behind n (tok s (token.Mark mark.ParenOpen)) = n + 1
open_behind n (tok s (token.Mark mark.ParenClose)) = n - 1
open_behind n _ = n

-- the most round brackets that are open at once among these tokens, where n are open before them
abbrev pub most_open : ℕ → List Tok → ℕ
most_open n [] = n
most_open n (t ∷ ts) = max n (most_open (open_behind n t) ts)
