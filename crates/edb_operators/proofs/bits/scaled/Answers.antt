use Rattle.std.proofs.Common.{◌*ℤ◌, FitsSigned, SomeIff, refl, subst, sym, ◌∙◌}
use Rattle.std.specs.Int.{w128}
use Rattle.edb_operators.proofs.Scaling.{halves, passed, in_steps, first_fits}
use Rattle.edb_operators.proofs.bits.scaled.Goals as goal

-- the first step is out of the range
pub returns-in_err-part : goal.returns-in_err-part
returns-in_err-part c =
    let value = passed c.args.value c.args.value c.ranges.value refl in
    let power = passed c.power.result _ (record { sfits = c.power.type_inv }) c.power.ensures in
    rw c.from_residual.ensures (λ f. (rw (value, power) at c.in_err-part.ensures) (first_fits c.args.value _ _ c.args.places (halves c.args.places) f))

pub returns : goal.returns
returns c =
    let value = passed c.args.value c.args.value c.ranges.value refl in
    let power = passed c.power.result _ (record { sfits = c.power.type_inv }) c.power.ensures in
    let part = rw (value, power) at c.in_ok-part.ensures in
    let first = passed c.in_ok-part.part _ (subst (λ z. FitsSigned w128 z) (sym part.1) part.0) part.1 in
    let second = passed c.power-2.result _ (record { sfits = c.power-2.type_inv }) c.power-2.ensures in
    let whole = (λ k. first k *ℤ second k) ∙ in_steps c.args.value _ _ c.args.places (halves c.args.places) in
    subst (λ z. SomeIff c.checked_mul-2.result (FitsSigned w128 z) z) whole c.checked_mul-2.ensures
