use Rattle.std.proofs.Common.{ap, ◌∙◌, ◌∷◌}
use Rattle.edb_variables.specs.PairStacks.{PairStack, newest_first}
use Rattle.edb_variables.proofs.Stacks.{newest_first-push}
use Rattle.edb_variables.proofs.variables.Variables.push.Goals as goal

pub returns-clause-pairs : goal.returns-clause-pairs
returns-clause-pairs c =
    ap newest_first c.push_reserved.ensures.items
    ∙ newest_first-push c.self.inside.items.items (record { name = c.args.name; value = c.args.value })
    ∙ ap (λ (s : PairStack). (c.args.name, c.args.value) ∷ s.pairs) c.self.view_is
