-- Reading literal terms, in which at most so many brackets and braces stand in one another. Each string, tuple and list
-- is tested as soon as it has been read, so no term past the limits is ever a part of another.

use Rattle.std.specs.Prelude.{ℕ, zero, suc, ◌+◌, pos, neg_ℤ, if◌then◌else◌, List, [], ◌∷◌, ◌++◌, nat_le, length, Option, Some, None}
use Rattle.edb_scan.specs.declared.lexeme.Mark.{Mark}
use Rattle.edb_scan.specs.declared.lexeme.Mark.TheVariants as mark
use Rattle.edb_scan.specs.declared.lexeme.Token.TheVariants as token
use Rattle.edb_scan.specs.declared.lexeme.Token.TheVariants.{Int, Char, Atom, Str}
use Rattle.edb_lang.specs.Terms.{Datum, int, atom, tuple, nil, Datums, none, more, most_high, is_within}
use Rattle.edb_grammar.specs.Toks.{Tok, tok, most_integer}
use Rattle.edb_grammar.specs.Literals.{text_term, list_term}
use Rattle.edb_grammar.specs.Reading.{Read, behind, closed, items, made, onward, fork, refuse, provided, more_text, behind_text}

abbrev pub read_terms : Read Datum → Read Datums
read_terms part ts = items more none mark.Comma part (length ts) ts

-- `-` was read, and an integer has to follow
abbrev pub read_negative : Read Datum
read_negative (tok t (Int n) ∷ ts) = provided (nat_le n most_integer) (λ us. Some (int (neg_ℤ (pos n)), us)) ts
read_negative _ = None

abbrev pub read_tuple : Read Datum → Read Datum
read_tuple part ts =
    fork (behind mark.BraceClose ts) (λ us. Some (tuple none, us)) (λ us. made tuple (closed mark.BraceClose (read_terms part us))) ts

-- the end of a list behind its elements: the bracket, or a tail and the bracket
abbrev pub with_tail : Datums → Datum → Datum
with_tail ds t = list_term ds t

abbrev pub read_end : Read Datum → Datums → Read Datum
read_end part ds ts =
    fork (behind mark.BracketClose ts) (λ us. Some (list_term ds nil, us))
    (λ us. fork (behind mark.Bar us) (λ vs. made (with_tail ds) (closed mark.BracketClose (part vs))) refuse us) ts

abbrev pub read_list_term : Read Datum → Read Datum
read_list_term part ts =
    fork (behind mark.BracketClose ts) (λ us. Some (nil, us)) (λ us. onward (read_terms part us) (read_end part)) ts

-- a term that was read, where it is within the limits
abbrev pub kept : Option (Datum × List Tok) → Option (Datum × List Tok)
kept (Some q) = if is_within q.0 then Some q else None
kept None = None

abbrev pub marked_term : Read Datum → Mark → Read Datum
marked_term part mark.Minus ts = read_negative ts
marked_term part mark.BraceOpen ts = kept (read_tuple part ts)
marked_term part mark.BracketOpen ts = kept (read_list_term part ts)
marked_term part _ ts = None

abbrev pub term_at : Read Datum → Read Datum
term_at part (tok s (Int n) ∷ ts) = provided (nat_le n most_integer) (λ us. Some (int (pos n), us)) ts
term_at part (tok s (Char c) ∷ ts) = Some (int (pos c), ts)
term_at part (tok s (Atom a) ∷ ts) = Some (atom a, ts)
term_at part (tok s (Str cs) ∷ ts) = kept (Some (text_term (cs ++ more_text ts), behind_text ts))
term_at part (tok s (token.Mark x) ∷ ts) = marked_term part x ts
term_at part _ = None

abbrev pub read_term : ℕ → Read Datum
read_term zero ts = None
read_term (suc n) ts = term_at (read_term n) ts

-- Brackets and braces in one another make a term higher, a list's tail too, and what stands innermost is one more: so
-- each term within the limits is read, and no smaller number would do (an atom in as many braces as a term may be high).
abbrev pub deepest_term : ℕ
deepest_term = most_high + 1

-- a term behind which nothing is left over
abbrev pub literal_at : Datum → List Tok → Option Datum
literal_at t [] = Some t
literal_at t _ = None

abbrev pub literal_of : Option (Datum × List Tok) → Option Datum
literal_of (Some q) = literal_at q.0 q.1
literal_of None = None

abbrev pub read_literal : List Tok → Option Datum
read_literal ts = literal_of (read_term deepest_term ts)
