use Rattle.edb_lang.proofs.PairsLaws.{ascends-bindings_of, bound-bindings_of}
use Rattle.edb_lang.proofs.laws.first_pair_counts.Goals as goal

pub returns-clause-ascending : goal.returns-clause-ascending
returns-clause-ascending c = λ ps. ascends-bindings_of ps

pub returns-clause-first : goal.returns-clause-first
returns-clause-first c = λ x ps. bound-bindings_of x ps
