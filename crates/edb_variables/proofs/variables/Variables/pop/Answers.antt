use Rattle.std.proofs.Common.{subst, ◌≡◌, ◌∷◌, [], MatchOption}
use Rattle.edb_variables.specs.PairStacks.{PairStack, newest_first}
use Rattle.edb_variables.proofs.Stacks.{last_pair}
use Rattle.edb_variables.proofs.variables.Variables.pop.Goals as goal

pub returns-clause-pairs : goal.returns-clause-pairs
returns-clause-pairs c =
    subst (λ (s : PairStack). MatchOption c.pop.result ((s.pairs ≡ []) × (newest_first c.pop.new.self.items ≡ [])) (λ pair. s.pairs ≡ (pair.name, pair.value) ∷ newest_first c.pop.new.self.items)) c.self.view_is
    (last_pair c.self.inside.items.items c.pop.new.self.items c.pop.result _ _ c.self.inside.items.ok.0 c.pop.new.self.ok.0 c.pop.ensures.items c.pop.ensures.cases)
