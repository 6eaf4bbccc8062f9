-- Two marks with one number are one mark.

use Rattle.std.proofs.Common.{◌≡◌, ℕ, zero, suc, true, List, [], ◌∷◌, refl, sym, ◌∙◌, ap, arith}
use Rattle.std.proofs.lemmas.Bool.Decides.{nat_tests}
use Rattle.edb_scan.specs.declared.lexeme.Mark.{Mark}
use Rattle.edb_scan.specs.declared.lexeme.Mark.TheVariants as mark
use Rattle.edb_grammar.specs.Marks.{number, same_mark}

abbrev marks : List Mark
marks =
    mark.Ellipsis ∷ mark.ExactlyEqual ∷ mark.ExactlyUnequal ∷ mark.BinaryOpen ∷ mark.BinaryClose ∷ mark.Arrow ∷ mark.From ∷ mark.FromBinary ∷ mark.MapsTo ∷ mark.Updates ∷ mark.Equal ∷ mark.Unequal ∷ mark.AtMost ∷ mark.AtLeast ∷ mark.PlusPlus ∷ mark.MinusMinus ∷ mark.BarBar ∷ mark.ColonColon ∷ mark.PointPoint ∷ mark.ParenOpen ∷ mark.ParenClose ∷ mark.BracketOpen ∷ mark.BracketClose ∷ mark.BraceOpen ∷ mark.BraceClose ∷ mark.Comma ∷ mark.Semicolon ∷ mark.Colon ∷ mark.Bar ∷ mark.Hash ∷ mark.Question ∷ mark.Bang ∷ mark.Match ∷ mark.LessThan ∷ mark.GreaterThan ∷ mark.Plus ∷ mark.Minus ∷ mark.Star ∷ mark.Slash ∷ mark.Point ∷ mark.After ∷ mark.And ∷ mark.AndAlso ∷ mark.BitAnd ∷ mark.Begin ∷ mark.BitNot ∷ mark.BitOr ∷ mark.ShiftLeft ∷ mark.ShiftRight ∷ mark.BitXor ∷ mark.Case ∷ mark.Catch ∷ mark.Cond ∷ mark.Div ∷ mark.Else ∷ mark.End ∷ mark.Fun ∷ mark.If ∷ mark.Let ∷ mark.Maybe ∷ mark.Not ∷ mark.Of ∷ mark.Or ∷ mark.OrElse ∷ mark.Receive ∷ mark.Rem ∷ mark.Try ∷ mark.When ∷ mark.Xor ∷ []

abbrev nth : List Mark → ℕ → Mark
nth [] k = mark.Xor
nth (x ∷ xs) zero = x
nth (x ∷ xs) (suc k) = nth xs k

abbrev mark_at : ℕ → Mark
mark_at k = nth marks k

mark_back : (x : Mark) → mark_at (number x) ≡ x
mark_back mark.Ellipsis = refl
mark_back mark.ExactlyEqual = refl
mark_back mark.ExactlyUnequal = refl
mark_back mark.BinaryOpen = refl
mark_back mark.BinaryClose = refl
mark_back mark.Arrow = refl
mark_back mark.From = refl
mark_back mark.FromBinary = refl
mark_back mark.MapsTo = refl
mark_back mark.Updates = refl
mark_back mark.Equal = refl
mark_back mark.Unequal = refl
mark_back mark.AtMost = refl
mark_back mark.AtLeast = refl
mark_back mark.PlusPlus = refl
mark_back mark.MinusMinus = refl
mark_back mark.BarBar = refl
mark_back mark.ColonColon = refl
mark_back mark.PointPoint = refl
mark_back mark.ParenOpen = refl
mark_back mark.ParenClose = refl
mark_back mark.BracketOpen = refl
mark_back mark.BracketClose = refl
mark_back mark.BraceOpen = refl
mark_back mark.BraceClose = refl
mark_back mark.Comma = refl
mark_back mark.Semicolon = refl
mark_back mark.Colon = refl
mark_back mark.Bar = refl
mark_back mark.Hash = refl
mark_back mark.Question = refl
mark_back mark.Bang = refl
mark_back mark.Match = refl
mark_back mark.LessThan = refl
mark_back mark.GreaterThan = refl
mark_back mark.Plus = refl
mark_back mark.Minus = refl
mark_back mark.Star = refl
mark_back mark.Slash = refl
mark_back mark.Point = refl
mark_back mark.After = refl
mark_back mark.And = refl
mark_back mark.AndAlso = refl
mark_back mark.BitAnd = refl
mark_back mark.Begin = refl
mark_back mark.BitNot = refl
mark_back mark.BitOr = refl
mark_back mark.ShiftLeft = refl
mark_back mark.ShiftRight = refl
mark_back mark.BitXor = refl
mark_back mark.Case = refl
mark_back mark.Catch = refl
mark_back mark.Cond = refl
mark_back mark.Div = refl
mark_back mark.Else = refl
mark_back mark.End = refl
mark_back mark.Fun = refl
mark_back mark.If = refl
mark_back mark.Let = refl
mark_back mark.Maybe = refl
mark_back mark.Not = refl
mark_back mark.Of = refl
mark_back mark.Or = refl
mark_back mark.OrElse = refl
mark_back mark.Receive = refl
mark_back mark.Rem = refl
mark_back mark.Try = refl
mark_back mark.When = refl
mark_back mark.Xor = refl

pub number_apart : (x y : Mark) → number x ≡ number y → x ≡ y
number_apart x y h = sym (mark_back x) ∙ (ap mark_at h ∙ mark_back y)

pub same_mark_is : (x y : Mark) → same_mark x y ≡ true → x ≡ y
same_mark_is x y h = number_apart x y (grind (arith, nat_tests, h))
