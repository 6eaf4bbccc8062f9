use Rattle.std.proofs.Common.{◌+◌, [], sym, ap, ◌∙◌, arith, drop}
use Rattle.edb_check.specs.Modules.{functions_faults}
use Rattle.edb_check.specs.Rules.{heads_faults}
use Rattle.edb_check.specs.Walking.{least}
use Rattle.edb_check.proofs.Going.{item_first}
use Rattle.edb_check.proofs.Walking.{least-append}
use Rattle.edb_check.proofs.walk.Walk.functions.Goals as goal

pub loop-function-preserved : goal.loop-function-preserved
loop-function-preserved c =
    let keys = c.args.known.now in
    let fs = c.args.functions.now in
    let f = c.function-item.result in
    let rest = functions_faults keys (drop (c.loop-function.function-index + 1) fs) in
    let now = c.loop-function.self.first in
    ap (λ o. least o rest) c.in_ok-function.ensures
    ∙ sym (least-append now (heads_faults keys [] f.clauses) rest)
    ∙ ap (λ gs. least now (functions_faults keys gs)) (sym (item_first fs c.loop-function.function-index f c.function-item.is (omega arith)))
    ∙ c.loop-function.invariant
