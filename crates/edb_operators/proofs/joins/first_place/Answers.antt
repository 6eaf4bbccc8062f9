use Rattle.std.proofs.Common.{◌≡◌, true, false, sym, ap, ◌∙◌, add-one}
use Rattle.std.specs.Ordering.{is_eq}
use Rattle.edb_pure.specs.Truths.{same_term}
use Rattle.edb_operators.proofs.Removal.{nows, parted, found, missed}
use Rattle.edb_operators.proofs.joins.first_place.Goals as goal

pub returns-then-is_eq-clause-first : goal.returns-then-is_eq-clause-first
returns-then-is_eq-clause-first c =
    let element = c.index-items-place in
    let same : same_term c.args.item.now element.result.now ≡ true = sym (c.is_eq.ensures ∙ ap is_eq c.cmp.ensures) ∙ c.if-is_eq.true in
    c.loop-place.invariant ∙ found c.args.item.now (nows c.args.items.now) c.loop-place.place element.result.now (parted c.args.items.now c.loop-place.place element.result c.loop-place-test.true element.is) same

pub loop-place-preserved : goal.loop-place-preserved
loop-place-preserved c =
    let element = c.index-items-place in
    let other : same_term c.args.item.now element.result.now ≡ false = sym (c.is_eq.ensures ∙ ap is_eq c.cmp.ensures) ∙ c.if-is_eq.false in
    rw add-one (c.loop-place.invariant ∙ missed c.args.item.now (nows c.args.items.now) c.loop-place.place element.result.now (parted c.args.items.now c.loop-place.place element.result c.loop-place-test.true element.is) other)
