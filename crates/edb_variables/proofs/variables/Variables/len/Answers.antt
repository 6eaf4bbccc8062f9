use Rattle.std.proofs.Common.{ap, sym, ◌∙◌, length}
use Rattle.edb_variables.specs.PairStacks.{PairStack}
use Rattle.edb_variables.proofs.Stacks.{length-newest_first}
use Rattle.edb_variables.proofs.variables.Variables.len.Goals as goal

pub returns : goal.returns
returns c = c.len.ensures ∙ c.self.inside.items.ok.0 ∙ sym (length-newest_first c.self.inside.items.items) ∙ ap (λ (s : PairStack). length s.pairs) c.self.view_is
