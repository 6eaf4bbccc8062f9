use Rattle.std.proofs.Common.{ℕ, List, subst, arith}
use Rattle.edb_verdict.specs.Verdicts.{HasFault, IsAccepted}
use Rattle.edb_tools.proofs.VerdictLaws.{accepted_more, first_at}
use Rattle.edb_tools.proofs.sources.check_all.Goals as goal

pub returns-in-Ok-Err-clause-err : goal.returns-in-Ok-Err-clause-err
returns-in-Ok-Err-clause-err c =
    let is : HasFault c.as_slice.result.now c.in-Ok-Err.fault = (rw c.in-Ok-Err.field-0-is at c.in-Ok-Err.ensures).refused in
    first_at c.args.texts.now c.loop-file.file c.index-texts-file.result c.in-Ok-Err.fault (omega arith) c.index-texts-file.is c.loop-file.invariant
    (subst (λ (text : List ℕ). HasFault text c.in-Ok-Err.fault) c.as_slice.ensures is)

pub loop-file-preserved : goal.loop-file-preserved
loop-file-preserved c =
    let is : IsAccepted c.as_slice.result.now c.in-Ok-Ok._checked.«module» = (rw c.in-Ok-Ok.field-0-is at c.in-Ok-Ok.ensures).accepted in
    accepted_more c.args.texts.now c.loop-file.file c.index-texts-file.result (omega arith) c.index-texts-file.is c.loop-file.invariant
    (c.in-Ok-Ok._checked.«module», subst (λ (text : List ℕ). IsAccepted text c.in-Ok-Ok._checked.«module») c.as_slice.ensures is)
