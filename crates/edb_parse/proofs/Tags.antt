-- Marks by their tags, by which the code compares two.

use Rattle.std.proofs.Common.{◌≡◌, true, if◌then◌else◌, ◌∷◌, List, None, Some, refl, ap, sym, ◌∙◌, arith}
use Rattle.std.proofs.lemmas.Bool.Decides.{nat_tests}
use denote.Enum.Declared.{tag_of}
use Rattle.edb_scan.specs.contracts.lexeme.Mark as the_mark
use Rattle.edb_scan.specs.declared.lexeme.Mark.{Mark}
use Rattle.edb_scan.specs.declared.lexeme.Mark.TheVariants as mark
use Rattle.edb_scan.specs.declared.lexeme.Token.{Token}
use Rattle.edb_scan.specs.declared.lexeme.Token.TheVariants as token
use Rattle.edb_grammar.specs.Marks.{number, same_mark}
use Rattle.edb_grammar.specs.Reading.{behind}
use Rattle.edb_grammar.specs.Toks.{Place, Tok, tok}

tag_is : (x : Mark) → tag_of the_mark.the_type x ≡ number x
tag_is mark.Ellipsis = refl
tag_is mark.ExactlyEqual = refl
tag_is mark.ExactlyUnequal = refl
tag_is mark.BinaryOpen = refl
tag_is mark.BinaryClose = refl
tag_is mark.Arrow = refl
tag_is mark.From = refl
tag_is mark.FromBinary = refl
tag_is mark.MapsTo = refl
tag_is mark.Updates = refl
tag_is mark.Equal = refl
tag_is mark.Unequal = refl
tag_is mark.AtMost = refl
tag_is mark.AtLeast = refl
tag_is mark.PlusPlus = refl
tag_is mark.MinusMinus = refl
tag_is mark.BarBar = refl
tag_is mark.ColonColon = refl
tag_is mark.PointPoint = refl
tag_is mark.ParenOpen = refl
tag_is mark.ParenClose = refl
tag_is mark.BracketOpen = refl
tag_is mark.BracketClose = refl
tag_is mark.BraceOpen = refl
tag_is mark.BraceClose = refl
tag_is mark.Comma = refl
tag_is mark.Semicolon = refl
tag_is mark.Colon = refl
tag_is mark.Bar = refl
tag_is mark.Hash = refl
tag_is mark.Question = refl
tag_is mark.Bang = refl
tag_is mark.Match = refl
tag_is mark.LessThan = refl
tag_is mark.GreaterThan = refl
tag_is mark.Plus = refl
tag_is mark.Minus = refl
tag_is mark.Star = refl
tag_is mark.Slash = refl
tag_is mark.Point = refl
tag_is mark.After = refl
tag_is mark.And = refl
tag_is mark.AndAlso = refl
tag_is mark.BitAnd = refl
tag_is mark.Begin = refl
tag_is mark.BitNot = refl
tag_is mark.BitOr = refl
tag_is mark.ShiftLeft = refl
tag_is mark.ShiftRight = refl
tag_is mark.BitXor = refl
tag_is mark.Case = refl
tag_is mark.Catch = refl
tag_is mark.Cond = refl
tag_is mark.Div = refl
tag_is mark.Else = refl
tag_is mark.End = refl
tag_is mark.Fun = refl
tag_is mark.If = refl
tag_is mark.Let = refl
tag_is mark.Maybe = refl
tag_is mark.Not = refl
tag_is mark.Of = refl
tag_is mark.Or = refl
tag_is mark.OrElse = refl
tag_is mark.Receive = refl
tag_is mark.Rem = refl
tag_is mark.Try = refl
tag_is mark.When = refl
tag_is mark.Xor = refl

same_of : (x y : Mark) → tag_of the_mark.the_type x ≡ tag_of the_mark.the_type y → same_mark x y ≡ true
same_of x y e = let n = sym (tag_is x) ∙ (e ∙ tag_is y) in grind (arith, nat_tests, n)

pub behind_here : (x y : Mark) (s : Place) (t : Token) (ts us : List Tok) → us ≡ tok s t ∷ ts → t ≡ token.Mark y
    → tag_of the_mark.the_type x ≡ tag_of the_mark.the_type y → behind x us ≡ Some ts
behind_here x y s t ts us e is same =
    ap (behind x) (e ∙ ap (λ v. tok s v ∷ ts) is) ∙ ap (λ b. if b then Some ts else None) (same_of x y same)
