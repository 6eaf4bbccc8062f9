use Rattle.edb_verdict.proofs.OneVerdict.{each_module, each_fault}
use Rattle.edb_verdict.proofs.top.verdict.Goals as goal

pub returns-clause-each_module : goal.returns-clause-each_module
returns-clause-each_module c = each_module c.args.text.now c.judge.result c.judge.ensures

pub returns-clause-each_fault : goal.returns-clause-each_fault
returns-clause-each_fault c = each_fault c.args.text.now c.judge.result c.judge.ensures
