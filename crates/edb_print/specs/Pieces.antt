-- Pieces of a printed text: each is a token and the gap before it. The text is what they spell, one after the other.

use Rattle.std.specs.Prelude.{ℕ, ◌+◌, List, [], ◌∷◌, ◌++◌, map, if◌then◌else◌, replicate, codes, encode_utf8_all}
use lib.Utf8.{scalar}
use Rattle.std.specs.List.{flat_map}
use Rattle.std.specs.Fmt.{decimal}
use Rattle.edb_lang.specs.TermText.{atom_text, escaped, quoted}
use Rattle.edb_scan.specs.declared.lexeme.Mark.{Mark}
use Rattle.edb_scan.specs.declared.lexeme.Token.{Token}
use Rattle.edb_scan.specs.declared.lexeme.Token.TheVariants as token
use Rattle.edb_scan.specs.declared.lexeme.Token.TheVariants.{Int, Float, Char, Atom, Var, Str, Dot}
use Rattle.edb_scan.specs.declared.lexeme.Placed.{Placed}
use Rattle.edb_scan.specs.MarkText.{mark_text}

-- What comes before a token: nothing; a space; or the end of a line, and the next line's spaces up to the token.
pub data Gap : Type 0 where
  tight : Gap
  blank : Gap
  line : ℕ → Gap

pub record Piece : Type 0 where
  pub gap : Gap
  pub token : Token

abbrev pub piece : Gap → Token → Piece
piece g t = record { gap = g; token = t }

-- a piece that is a mark or a reserved word
abbrev pub sign : Gap → Mark → Piece
sign g x = piece g (token.Mark x)

-- a code point as a character: what isn't one is written as U+FFFD
abbrev pub shown : ℕ → ℕ
shown c = if scalar c then c else 65533

-- How a token is spelled. A float is one that the reader accepts: which one isn't known, since its value isn't kept.
-- A character has the escapes of a quoted atom.
abbrev pub spelling : Token → List ℕ
spelling (Int n) = decimal n
spelling Float = codes "0.0"
spelling (Char c) = 36 ∷ flat_map (escaped 39) (encode_utf8_all (shown c ∷ []))
spelling (Atom a) = atom_text a
spelling (Var x) = x
spelling (Str cs) = quoted 34 (encode_utf8_all (map shown cs))
spelling (token.Mark x) = mark_text x
spelling Dot = codes "."

abbrev pub gap_text : Gap → List ℕ
gap_text tight = []
gap_text blank = 32 ∷ []
gap_text (line d) = 10 ∷ replicate d 32

abbrev pub piece_text : Piece → List ℕ
piece_text p = gap_text p.gap ++ spelling p.token

-- the text of pieces one after the other
abbrev pub bytes_of : List Piece → List ℕ
bytes_of ps = flat_map piece_text ps

-- the line of a token after this gap, if the one before it is on line l
abbrev pub line_behind : ℕ → Gap → ℕ
line_behind l tight = l
line_behind l blank = l
line_behind l (line d) = l + 1

-- the tokens of pieces, each on its line, if what is before them ends on line l
abbrev pub tokens_of : ℕ → List Piece → List Placed
tokens_of l [] = []
tokens_of l (p ∷ ps) = record { line = line_behind l p.gap; token = p.token } ∷ tokens_of (line_behind l p.gap) ps
