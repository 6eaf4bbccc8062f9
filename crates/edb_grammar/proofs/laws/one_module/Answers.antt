use Rattle.edb_grammar.proofs.FileComplete as files
use Rattle.edb_grammar.proofs.laws.one_module.Goals as goal

pub returns-clause-tree : goal.returns-clause-tree
returns-clause-tree c = files.one_module

pub returns-clause-fault : goal.returns-clause-fault
returns-clause-fault c = files.one_fault

pub returns-clause-never_both : goal.returns-clause-never_both
returns-clause-never_both c = files.never_both

pub returns-clause-one_of_both : goal.returns-clause-one_of_both
returns-clause-one_of_both c = files.module_or_fault
