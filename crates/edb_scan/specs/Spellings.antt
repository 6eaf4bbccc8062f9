-- The marks and the reserved words, each with its spelling.
use Rattle.std.specs.Prelude.{◌≡◌, ◌⊎◌, ℕ, List, [], ◌∷◌, map}
use Rattle.edb_scan.specs.MarkText.{mark_text}
use Rattle.edb_scan.specs.declared.lexeme.Mark.{Mark}
use Rattle.edb_scan.specs.declared.lexeme.Mark.TheVariants as mark

-- the marks made of signs, the longest first
abbrev pub signs : List Mark
signs =
    mark.Ellipsis ∷ mark.ExactlyEqual ∷ mark.ExactlyUnequal ∷ mark.BinaryOpen ∷ mark.BinaryClose ∷ mark.Arrow ∷
    mark.From ∷ mark.FromBinary ∷ mark.MapsTo ∷ mark.Updates ∷ mark.Equal ∷ mark.Unequal ∷ mark.AtMost ∷
    mark.AtLeast ∷ mark.PlusPlus ∷ mark.MinusMinus ∷ mark.BarBar ∷ mark.ColonColon ∷ mark.PointPoint ∷
    mark.ParenOpen ∷ mark.ParenClose ∷ mark.BracketOpen ∷ mark.BracketClose ∷ mark.BraceOpen ∷ mark.BraceClose ∷
    mark.Comma ∷ mark.Semicolon ∷ mark.Colon ∷ mark.Bar ∷ mark.Hash ∷ mark.Question ∷ mark.Bang ∷ mark.Match ∷
    mark.LessThan ∷ mark.GreaterThan ∷ mark.Plus ∷ mark.Minus ∷ mark.Star ∷ mark.Slash ∷ mark.Point ∷ []

-- the reserved words
abbrev pub words : List Mark
words =
    mark.After ∷ mark.And ∷ mark.AndAlso ∷ mark.BitAnd ∷ mark.Begin ∷ mark.BitNot ∷ mark.BitOr ∷ mark.ShiftLeft ∷
    mark.ShiftRight ∷ mark.BitXor ∷ mark.Case ∷ mark.Catch ∷ mark.Cond ∷ mark.Div ∷ mark.Else ∷ mark.End ∷
    mark.Fun ∷ mark.If ∷ mark.Let ∷ mark.Maybe ∷ mark.Not ∷ mark.Of ∷ mark.Or ∷ mark.OrElse ∷ mark.Receive ∷
    mark.Rem ∷ mark.Try ∷ mark.When ∷ mark.Xor ∷ []

-- a row for each mark: its spelling, and the mark
abbrev pub rows_of : List Mark → List (List ℕ × Mark)
rows_of marks = map (λ m. (mark_text m, m)) marks

abbrev pub mark_rows : List (List ℕ × Mark)
mark_rows = rows_of signs

abbrev pub word_rows : List (List ℕ × Mark)
word_rows = rows_of words

-- some row has this text and this mark
abbrev pub Lists : List (List ℕ × Mark) → List ℕ → Mark → Type 0
Lists [] text m = ⊥
Lists (row ∷ rows) text m = ((row.0 ≡ text) × (row.1 ≡ m)) ⊎ Lists rows text m

unfoldable pub IsMark : List ℕ → Mark → Type 0
IsMark text m = Lists mark_rows text m

unfoldable pub IsWord : List ℕ → Mark → Type 0
IsWord text m = Lists word_rows text m
