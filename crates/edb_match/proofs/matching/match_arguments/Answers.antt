use Rattle.std.proofs.Common.{map, ◌∙◌}
use Rattle.std.proofs.lemmas.List.{length-map}
use Rattle.edb_match.specs.Views.{known_pairs, with_lent}
use Rattle.edb_match.proofs.Lists.{uneven}
use Rattle.edb_match.proofs.matching.match_arguments.Goals as goal

-- there aren't as many of both
pub returns-then-patterns-terms : goal.returns-then-patterns-terms
returns-then-patterns-terms c =
    uneven c.args.patterns.now (map (λ t. t.now) c.args.terms.now) (with_lent c.args.lent.now.items (known_pairs c.args.known.now)) (λ e. c.if-patterns-terms.true (e ∙ length-map c.args.terms.now (λ t. t.now)))
