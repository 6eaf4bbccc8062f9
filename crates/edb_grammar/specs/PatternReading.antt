-- Reading patterns, at most so deep.

use Rattle.std.specs.Prelude.{ℕ, zero, suc, pos, neg_ℤ, if◌then◌else◌, nat_le, List, ◌∷◌, ◌++◌, length, Option, None, Some}
use Rattle.edb_scan.specs.declared.lexeme.Mark.{Mark}
use Rattle.edb_scan.specs.declared.lexeme.Mark.TheVariants as mark
use Rattle.edb_scan.specs.declared.lexeme.Token.TheVariants as token
use Rattle.edb_scan.specs.declared.lexeme.Token.TheVariants.{Int, Char, Atom, Var, Str}
use Rattle.edb_syntax.specs.Patterns.{Pat, Pats, int, atom, string, variable, any, tuple, list, list_with_tail, both, none, more, pattern_line}
use Rattle.edb_syntax.specs.Depths.{pattern_depth}
use Rattle.edb_grammar.specs.Toks.{Place, Tok, tok, most_integer}
use Rattle.edb_grammar.specs.Reading.{Read, behind, closed, items, provided, more_text, behind_text, is_blank}

abbrev pub variable_pattern : ℕ → List ℕ → Pat
variable_pattern l x = if is_blank x then any l else variable l x

abbrev pub read_pats : Read Pat → Read Pats
read_pats part ts = items more none mark.Comma part (length ts) ts

-- `-` was read, and an integer has to follow
abbrev pub negative_at : Place → Read Pat
negative_at s (tok t (Int n) ∷ ts) = provided (nat_le n most_integer) (λ us. Some (int s.line (neg_ℤ (pos n)), us)) ts
negative_at s _ = None

-- the elements of a tuple, and its closing brace
abbrev pub tuple_of : Place → Option (Pats × List Tok) → Option (Pat × List Tok)
tuple_of s (Some q) = Some (tuple s.line q.0, q.1)
tuple_of s None = None

abbrev pub tuple_at : Read Pat → Place → List Tok → Option (List Tok) → Option (Pat × List Tok)
tuple_at part s ts (Some us) = Some (tuple s.line none, us)
tuple_at part s ts None = tuple_of s (closed mark.BraceClose (read_pats part ts))

-- the tail of a list, and its closing bracket
abbrev pub tail_of : Place → Pats → Option (Pat × List Tok) → Option (Pat × List Tok)
tail_of s ps (Some q) = Some (list_with_tail s.line ps q.0, q.1)
tail_of s ps None = None

abbrev pub tail_at : Read Pat → Place → Pats → Option (List Tok) → Option (Pat × List Tok)
tail_at part s ps (Some us) = tail_of s ps (closed mark.BracketClose (part us))
tail_at part s ps None = None

abbrev pub end_at : Read Pat → Place → Pats → List Tok → Option (List Tok) → Option (Pat × List Tok)
end_at part s ps ts (Some us) = Some (list s.line ps, us)
end_at part s ps ts None = tail_at part s ps (behind mark.Bar ts)

abbrev pub elements_at : Read Pat → Place → Option (Pats × List Tok) → Option (Pat × List Tok)
elements_at part s (Some q) = end_at part s q.0 q.1 (behind mark.BracketClose q.1)
elements_at part s None = None

abbrev pub list_at : Read Pat → Place → List Tok → Option (List Tok) → Option (Pat × List Tok)
list_at part s ts (Some us) = Some (list s.line none, us)
list_at part s ts None = elements_at part s (read_pats part ts)

abbrev pub marked_pat : Read Pat → Place → Mark → Read Pat
marked_pat part s mark.Minus ts = negative_at s ts
marked_pat part s mark.BraceOpen ts = tuple_at part s ts (behind mark.BraceClose ts)
marked_pat part s mark.BracketOpen ts = list_at part s ts (behind mark.BracketClose ts)
marked_pat part s _ ts = None

-- a pattern without `=` at its top, whose parts are read so
abbrev pub single_pat : Read Pat → Read Pat
single_pat part (tok s (Var x) ∷ ts) = Some (variable_pattern s.line x, ts)
single_pat part (tok s (Int n) ∷ ts) = provided (nat_le n most_integer) (λ us. Some (int s.line (pos n), us)) ts
single_pat part (tok s (Char c) ∷ ts) = Some (int s.line (pos c), ts)
single_pat part (tok s (Atom a) ∷ ts) = Some (atom s.line a, ts)
single_pat part (tok s (Str cs) ∷ ts) = Some (string s.line (cs ++ more_text ts), behind_text ts)
single_pat part (tok s (token.Mark x) ∷ ts) = marked_pat part s x ts
single_pat part _ = None

-- what stands behind the first `=`
abbrev pub both_of : Pat → Option (Pat × List Tok) → Option (Pat × List Tok)
both_of p (Some q) = Some (both (pattern_line p) p q.0, q.1)
both_of p None = None

abbrev pub both_at : ℕ → Read Pat → Pat → List Tok → Option (List Tok) → Option (Pat × List Tok)
both_at n part p ts (Some us) = if nat_le (pattern_depth p) n then both_of p (part us) else None
both_at n part p ts None = Some (p, ts)

abbrev pub joined_pats : ℕ → Read Pat → Option (Pat × List Tok) → Option (Pat × List Tok)
joined_pats n part (Some q) = both_at n part q.0 q.1 (behind mark.Match q.1)
joined_pats n part None = None

-- a pattern at most n deep
abbrev pub read_pat : ℕ → Read Pat
read_pat zero ts = None
read_pat (suc n) ts = joined_pats n (read_pat n) (single_pat (read_pat n) ts)

-- one without `=` at its top
abbrev pub read_single : ℕ → Read Pat
read_single zero ts = None
read_single (suc n) ts = single_pat (read_pat n) ts
