use Rattle.std.proofs.Common.{◌≡◌, drop}
use Rattle.edb_moves.specs.Matching.{all_matched, cells_matched}
use Rattle.edb_syntax.specs.Patterns.{pats_of}
use Rattle.edb_match.specs.Views.{known_pairs, with_lent}
use Rattle.edb_match.proofs.matching.+matching.Given as goal

-- what is left, under what is bound so far, is all under what was bound
abbrev pub invariant-match_terms-loop-pattern : goal.invariant-match_terms-loop-pattern
invariant-match_terms-loop-pattern l = all_matched (pats_of (drop l.pattern-index l.patterns)) l.rest (with_lent l.lent.items (known_pairs l.known)) ≡ all_matched (pats_of l.patterns) l.terms (with_lent l.fn.lent.items (known_pairs l.known))

abbrev pub invariant-match_cells-loop-pattern : goal.invariant-match_cells-loop-pattern
invariant-match_cells-loop-pattern l = cells_matched (pats_of (drop l.pattern-index l.patterns)) l.rest (with_lent l.lent.items (known_pairs l.known)) ≡ cells_matched (pats_of l.patterns) l.term (with_lent l.fn.lent.items (known_pairs l.known))
