use Rattle.std.proofs.Common.{◌-◌, ap, ◌∙◌, arith}
use Rattle.edb_check.proofs.Bindings.{weakened, weakened_none, weakened_step, weakened_all}
use Rattle.edb_check.specs.Views.{scope_of}
use Rattle.edb_check.proofs.scope.weaken.Goals as goal

pub loop-i-init : goal.loop-i-init
loop-i-init c = weakened_none c.args.mark c.args.bindings.now ∙ ap (λ n. weakened c.args.mark n c.args.bindings.now) (omega arith)

pub loop-i-preserved : goal.loop-i-preserved
loop-i-preserved c = weakened_step c.args.mark c.loop-i.i c.index-bindings-i.result c.args.bindings.now c.loop-i.bindings (omega arith) (omega arith) c.loop-i.invariant

pub returns : goal.returns
returns c = ap scope_of c.loop-i.invariant ∙ weakened_all c.args.mark (c.loop-i.i - c.args.mark) c.args.bindings.now (omega arith)
