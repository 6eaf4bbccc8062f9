use Rattle.edb_eval.proofs.InnermostLaws.{bodies-opening, bodies-value, bodies-raised}
use Rattle.edb_eval.proofs.machine.Machine.is_inside.Goals as goal

pub returns-in-Opening : goal.returns-in-Opening
returns-in-Opening c =
    let o = c.in-Opening in
    rw (o.is, bodies-opening o.«module» o.name o.args)

pub returns-in-Value : goal.returns-in-Value
returns-in-Value c = rw (c.in-Value.is, bodies-value c.in-Value.field-0)

pub returns-in-Raised : goal.returns-in-Raised
returns-in-Raised c = rw (c.in-Raised.is, bodies-raised c.in-Raised.class c.in-Raised.reason)
