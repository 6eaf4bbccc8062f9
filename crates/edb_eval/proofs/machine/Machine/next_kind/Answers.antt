use Rattle.std.proofs.Common.{sym}
use Rattle.edb_eval.proofs.Stays.{opening_prints, opening_moves, next-value, next-raised}
use Rattle.edb_eval.proofs.machine.Machine.next_kind.Goals as goal

pub returns-in-Some : goal.returns-in-Some
returns-in-Some c =
    let o = c.in-Opening in
    rw o.is (sym (opening_prints o.«module» o.name o.args (rw (← c.as_slice.ensures) c.in-Some.ensures.1)))

pub returns-in-None : goal.returns-in-None
returns-in-None c =
    let o = c.in-Opening in
    rw o.is (sym (opening_moves o.«module» o.name o.args (rw (← c.as_slice.ensures) c.in-None.ensures)))

pub returns-in-Value : goal.returns-in-Value
returns-in-Value c = rw c.in-Value.is (sym (next-value c.in-Value.field-0))

pub returns-in-Raised : goal.returns-in-Raised
returns-in-Raised c = rw c.in-Raised.is (sym (next-raised c.in-Raised.class c.in-Raised.reason))
