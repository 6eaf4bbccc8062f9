use Rattle.std.proofs.Common.{sym}
use Rattle.edb_eval.proofs.InnermostLaws.{innermost-opening}
use Rattle.edb_eval.proofs.machine.Machine.innermost.Goals as goal

pub returns-in-Opening : goal.returns-in-Opening
returns-in-Opening c =
    let o = c.in-Opening in
    rw o.is (sym (innermost-opening o.«module» o.name o.args))
