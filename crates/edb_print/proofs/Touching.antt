-- Tokens that may stand side by side with nothing between them: read from left to right, each is read as it is.

use Rattle.std.specs.Prelude.{◌≡◌, Bool, true, false, not, ◌&&◌, ◌||◌, List, [], ◌∷◌}
use Rattle.edb_scan.specs.declared.lexeme.Mark.TheVariants as mark
use Rattle.edb_scan.specs.declared.lexeme.Token.{Token}
use Rattle.edb_scan.specs.declared.lexeme.Token.TheVariants as token
use Rattle.edb_scan.specs.declared.lexeme.Token.TheVariants.{Int, Float, Char, Atom, Var, Str, Dot}
use Rattle.edb_grammar.specs.Files.{is_dot}
use Rattle.edb_print.specs.Pieces.{tight, Piece}

-- the layout has no character, and no `.` that isn't a dot
abbrev pub is_laid : Token → Bool
is_laid (Char c) = false
is_laid (token.Mark mark.Point) = false
is_laid _ = true

-- what may stand directly after each token but a dot
abbrev pub is_free : Token → Bool
is_free (token.Mark mark.ParenOpen) = true
is_free (token.Mark mark.ParenClose) = true
is_free (token.Mark mark.BracketClose) = true
is_free (token.Mark mark.BraceClose) = true
is_free (token.Mark mark.Comma) = true
is_free (token.Mark mark.Semicolon) = true
is_free _ = false

-- what stands directly after the end of an expression or a pattern only
abbrev pub is_behind : Token → Bool
is_behind (token.Mark mark.Colon) = true
is_behind (token.Mark mark.Slash) = true
is_behind Dot = true
is_behind _ = false

-- with what an expression or a pattern ends
abbrev pub is_last : Token → Bool
is_last (Int n) = true
is_last Float = true
is_last (Atom a) = true
is_last (Var x) = true
is_last (Str cs) = true
is_last (token.Mark mark.ParenClose) = true
is_last (token.Mark mark.BracketClose) = true
is_last (token.Mark mark.BraceClose) = true
is_last (token.Mark mark.End) = true
is_last _ = false

-- with what an operand begins: never with `-`
abbrev pub is_first : Token → Bool
is_first (Int n) = true
is_first Float = true
is_first (Atom a) = true
is_first (Var x) = true
is_first (Str cs) = true
is_first (token.Mark mark.BracketOpen) = true
is_first (token.Mark mark.BraceOpen) = true
is_first (token.Mark mark.Begin) = true
is_first (token.Mark mark.Case) = true
is_first (token.Mark mark.If) = true
is_first (token.Mark mark.Receive) = true
is_first (token.Mark mark.Try) = true
is_first (token.Mark mark.Fun) = true
is_first _ = false

abbrev pub is_minus : Token → Bool
is_minus (token.Mark mark.Minus) = true
is_minus _ = false

-- after which each token but those of `is_behind` may stand
abbrev pub is_bracket : Token → Bool
is_bracket (token.Mark mark.ParenOpen) = true
is_bracket (token.Mark mark.BracketOpen) = true
is_bracket (token.Mark mark.BraceOpen) = true
is_bracket _ = false

-- after which what an operand begins with may stand
abbrev pub joins : Token → Token → Bool
joins (token.Mark mark.Minus) u = is_first u
joins (token.Mark mark.Plus) u = is_first u
joins (token.Mark mark.Slash) u = is_first u
joins (token.Mark mark.Colon) u = is_first u || is_minus u
joins _ u = false

-- whether the second token may stand directly after the first
abbrev pub touches : Token → Token → Bool
touches t u =
    (is_free u && not (is_dot t)) || ((is_behind u && is_last t) || ((is_bracket t && not (is_behind u)) || joins t u))

-- what stands between this token and the next, which may be nothing
abbrev pub Stands : Token → Piece → Type 0
Stands t p = p.gap ≡ tight → touches t p.token ≡ true

-- each piece is one of the layout, and may stand where it is, after the one before it, the first one after the
-- token t
abbrev pub Behind : Token → List Piece → Type 0
Behind t [] = Unit {0}
Behind t (p ∷ ps) = (is_laid p.token ≡ true) × Stands t p × Behind p.token ps
