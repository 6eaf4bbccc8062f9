use Rattle.std.proofs.Common.{ap, ◌∙◌}
use Rattle.edb_variables.specs.PairStacks.{PairStack, newest_first, oldest}
use Rattle.edb_variables.proofs.Stacks.{newest_first-take}
use Rattle.edb_variables.proofs.variables.Variables.cut.Goals as goal

pub returns-clause-pairs : goal.returns-clause-pairs
returns-clause-pairs c =
    ap newest_first c.truncate.ensures.items ∙ newest_first-take c.args.mark c.self.inside.items.items ∙ ap (λ (s : PairStack). oldest c.args.mark s.pairs) c.self.view_is
