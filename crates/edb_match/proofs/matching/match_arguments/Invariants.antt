use Rattle.std.proofs.Common.{◌≡◌, drop, map}
use Rattle.edb_moves.specs.Matching.{all_matched}
use Rattle.edb_syntax.specs.Patterns.{pats_of}
use Rattle.edb_match.specs.Views.{known_pairs, with_lent}
use Rattle.edb_match.proofs.matching.match_arguments.Given as goal

-- what is left, under what is bound so far, is all under what was bound
abbrev pub invariant-loop-index : goal.invariant-loop-index
invariant-loop-index l = all_matched (pats_of (drop l.index l.patterns)) (map (λ t. t.now) (drop l.index l.terms)) (with_lent l.lent.items (known_pairs l.known)) ≡ all_matched (pats_of l.patterns) (map (λ t. t.now) l.terms) (with_lent l.fn.lent.items (known_pairs l.known))
