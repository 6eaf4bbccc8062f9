use Rattle.std.proofs.Common.{◌≡◌, ◌-◌, sym, ◌∙◌, arith, true, false}
use Rattle.edb_lang.specs.TermText.{same_name}
use Rattle.edb_check.proofs.Bindings.{lookup-take}
use Rattle.edb_check.proofs.scope.find.Goals as goal

pub returns-then-same : goal.returns-then-same
returns-then-same c =
    let b = c.index-bindings-end.result in
    let same : same_name b.name.now c.args.name.now ≡ true = sym c.same.ensures.test ∙ c.if-same.true in
    let last = rw same at (lookup-take c.args.name.now c.args.bindings.now (c.loop-end.end - 1) c.loop-end.end b (omega arith) c.loop-end.invariant.within c.index-bindings-end.is) in
    sym last ∙ c.loop-end.invariant.seen

pub loop-end-preserved : goal.loop-end-preserved
loop-end-preserved c =
    let b = c.index-bindings-end.result in
    let other : same_name b.name.now c.args.name.now ≡ false = sym c.same.ensures.test ∙ c.if-same.false in
    let last = rw other at (lookup-take c.args.name.now c.args.bindings.now (c.loop-end.end - 1) c.loop-end.end b (omega arith) c.loop-end.invariant.within c.index-bindings-end.is) in
    record { within = omega arith; seen = sym last ∙ c.loop-end.invariant.seen }
