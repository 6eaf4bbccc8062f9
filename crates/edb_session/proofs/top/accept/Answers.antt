use Rattle.std.proofs.Common.{ℕ, List, subst}
use Rattle.edb_cmds.specs.Listing.{IsScriptFault}
use Rattle.edb_session.proofs.top.accept.Goals as goal

pub returns-in-Ok-Err-clause-err : goal.returns-in-Ok-Err-clause-err
returns-in-Ok-Err-clause-err c =
    let bad : IsScriptFault c.as_slice.result.now c.in-Ok-Err.fault.line = rw c.in-Ok-Err.field-0-is at c.in-Ok-Err.ensures.answer in
    ((c.in-Ok.code, c.in-Ok.ensures.ok), subst (λ (bytes : List ℕ). IsScriptFault bytes c.in-Ok-Err.fault.line) c.as_slice.ensures bad)
