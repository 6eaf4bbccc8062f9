-- The marks by number, by which two are compared.

use Rattle.std.specs.Prelude.{ℕ, Bool, ◌==◌}
use Rattle.edb_scan.specs.declared.lexeme.Mark.{Mark}
use Rattle.edb_scan.specs.declared.lexeme.Mark.TheVariants as mark

abbrev pub number : Mark → ℕ
number mark.Ellipsis = 0
number mark.ExactlyEqual = 1
number mark.ExactlyUnequal = 2
number mark.BinaryOpen = 3
number mark.BinaryClose = 4
number mark.Arrow = 5
number mark.From = 6
number mark.FromBinary = 7
number mark.MapsTo = 8
number mark.Updates = 9
number mark.Equal = 10
number mark.Unequal = 11
number mark.AtMost = 12
number mark.AtLeast = 13
number mark.PlusPlus = 14
number mark.MinusMinus = 15
number mark.BarBar = 16
number mark.ColonColon = 17
number mark.PointPoint = 18
number mark.ParenOpen = 19
number mark.ParenClose = 20
number mark.BracketOpen = 21
number mark.BracketClose = 22
number mark.BraceOpen = 23
number mark.BraceClose = 24
number mark.Comma = 25
number mark.Semicolon = 26
number mark.Colon = 27
number mark.Bar = 28
number mark.Hash = 29
number mark.Question = 30
number mark.Bang = 31
number mark.Match = 32
number mark.LessThan = 33
number mark.GreaterThan = 34
number mark.Plus = 35
number mark.Minus = 36
number mark.Star = 37
number mark.Slash = 38
number mark.Point = 39
number mark.After = 40
number mark.And = 41
number mark.AndAlso = 42
number mark.BitAnd = 43
number mark.Begin = 44
number mark.BitNot = 45
number mark.BitOr = 46
number mark.ShiftLeft = 47
number mark.ShiftRight = 48
number mark.BitXor = 49
number mark.Case = 50
number mark.Catch = 51
number mark.Cond = 52
number mark.Div = 53
number mark.Else = 54
number mark.End = 55
number mark.Fun = 56
number mark.If = 57
number mark.Let = 58
number mark.Maybe = 59
number mark.Not = 60
number mark.Of = 61
number mark.Or = 62
number mark.OrElse = 63
number mark.Receive = 64
number mark.Rem = 65
number mark.Try = 66
number mark.When = 67
number mark.Xor = 68

abbrev pub same_mark : Mark → Mark → Bool
same_mark x y = number x == number y
