-- Lists as they are laid out from some item on: when it is the first one, and when it follows others.

use Rattle.std.specs.Prelude.{ℕ, Bool, true, false, List, [], ◌∷◌, ◌++◌, ◌+◌}
use Rattle.edb_scan.specs.declared.lexeme.Token.TheVariants.{Atom, Dot}
use Rattle.edb_syntax.specs.declared.modules.Export.{Export}
use Rattle.edb_syntax.specs.Patterns.{Pats}
use Rattle.edb_scan.specs.declared.lexeme.Mark.{Mark}
use Rattle.edb_scan.specs.declared.lexeme.Mark.TheVariants as mark
use Rattle.edb_syntax.specs.Syntax.{Exp, Exps, Guards, Clauses, Catches, Qualifiers, none, more, no_catches, more_catches}
use Rattle.edb_print.specs.Pieces.{Gap, tight, blank, line, Piece, piece, sign}
use Rattle.edb_print.specs.Layout.{is_operator, grouped, Opening, lay, lay_to_tail, lay_patterns, lay_more_patterns, lay_all, lay_more, lay_guard, lay_alternatives, lay_clauses, lay_more_clauses, lay_handler, lay_more_handlers, lay_qualifiers, lay_more_qualifiers, lay_entry, lay_more_entries}

abbrev pub patterns_left : Bool → Gap → Pats → List Piece
patterns_left true g ps = lay_patterns g ps
patterns_left false g ps = lay_more_patterns ps

abbrev pub all_left : Bool → Gap → Gap → ℕ → Exps → List Piece
all_left true g h d es = lay_all g h d es
all_left false g h d es = lay_more h d es

-- one of them, the first or another one
abbrev pub lay_item : Bool → Gap → Gap → ℕ → Exp → List Piece
lay_item true g h d e = lay g d e
lay_item false g h d e = sign tight mark.Comma ∷ lay h d e

-- the elements of a list with a tail, and the tail
abbrev pub tail_left : Bool → ℕ → Exps → List Piece
tail_left true d none = []
tail_left true d (more e es) = lay tight d e ++ lay_to_tail d es
tail_left false d es = lay_to_tail d es

-- one of them: the first element, the tail, or another element
abbrev pub lay_tail_item : Bool → Bool → ℕ → Exp → List Piece
lay_tail_item true last d e = lay tight d e
lay_tail_item false true d e = sign blank mark.Bar ∷ lay blank d e
lay_tail_item false false d e = sign tight mark.Comma ∷ lay blank d e

-- an operator and the operand after it
abbrev pub lay_behind : ℕ → Mark → Exp → List Piece
lay_behind d x b = sign blank x ∷ grouped (is_operator b) (λ h. lay h d b) blank

-- expressions in braces
abbrev pub lay_braces : Gap → ℕ → Exps → List Piece
lay_braces g d es = sign g mark.BraceOpen ∷ (lay_all tight blank d es ++ sign tight mark.BraceClose ∷ [])

-- the first two of operands with an operator between them; in braces if there are fewer
abbrev pub lay_infix : Gap → ℕ → Mark → Exps → List Piece
lay_infix g d x (more a (more b es)) =
    grouped (is_operator a) (λ h. lay h d a) g ++ lay_behind d x b
lay_infix g d x es = lay_braces g d es

-- arguments in parentheses
abbrev pub lay_arguments : ℕ → Exps → List Piece
lay_arguments d es = sign tight mark.ParenOpen ∷ (lay_all tight blank d es ++ sign tight mark.ParenClose ∷ [])

-- clauses four deeper than the line, each on lines of its own
abbrev pub lay_block : Opening → ℕ → Clauses → List Piece
lay_block o d cs = lay_clauses o (line (d + 4)) (d + 4) (d + 4) cs

-- entries of an export with `, ` between them, and from some one on
abbrev pub lay_entries : List Export → List Piece
lay_entries [] = []
lay_entries (x ∷ xs) = lay_entry tight x ++ lay_more_entries xs

abbrev pub entries_left : Bool → List Export → List Piece
entries_left true xs = lay_entries xs
entries_left false xs = lay_more_entries xs

-- the beginning of an attribute, and its end
abbrev pub lay_attribute : Gap → List ℕ → List Piece
lay_attribute g a = sign g mark.Minus ∷ piece tight (Atom a) ∷ sign tight mark.ParenOpen ∷ []

abbrev pub attribute_end : List Piece
attribute_end = sign tight mark.ParenClose ∷ piece tight Dot ∷ []

abbrev pub guard_left : Bool → Gap → ℕ → Guards → List Piece
guard_left true g d gs = lay_guard g d gs
guard_left false g d gs = lay_alternatives d gs

abbrev pub clauses_left : Bool → Opening → Gap → ℕ → ℕ → Clauses → List Piece
clauses_left true o g d e cs = lay_clauses o g d e cs
clauses_left false o g d e cs = lay_more_clauses o e cs

-- clauses after `catch` from the first one on
abbrev pub lay_handlers : ℕ → Catches → List Piece
lay_handlers d no_catches = []
lay_handlers d (more_catches h hs) = lay_handler d h ++ lay_more_handlers d hs

abbrev pub handlers_left : Bool → ℕ → Catches → List Piece
handlers_left true d hs = lay_handlers d hs
handlers_left false d hs = lay_more_handlers d hs

abbrev pub qualifiers_left : Bool → ℕ → Qualifiers → List Piece
qualifiers_left true d qs = lay_qualifiers d qs
qualifiers_left false d qs = lay_more_qualifiers d qs
