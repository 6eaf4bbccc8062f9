use Rattle.std.proofs.Common.{◌∙◌, ap, sym, arith}
use Rattle.std.specs.Option.{option_map}
use Rattle.edb_lists.proofs.OrderWalks.{keyed_none, keyed_more, keyed_all}
use Rattle.edb_lists.proofs.order.keyed.Goals as goal

-- src/order.rt: this element has no key
pub returns-in_default : goal.returns-in_default
returns-in_default c =
    keyed_none c.args.place c.args.items.now c.loop-at.at c.loop-at.pairs.items c.loop-at.invariant c.index-items-at.result (omega arith) c.index-items-at.is (ap (option_map (λ t. t.now)) (sym c.in_default.is) ∙ c.element.ensures)

-- it has one
pub loop-at-preserved : goal.loop-at-preserved
loop-at-preserved c =
    keyed_more c.args.place c.args.items.now c.loop-at.at c.loop-at.pairs.items c.loop-at.invariant c.index-items-at.result c.in-Some.key _ (omega arith) c.index-items-at.is
    (ap (option_map (λ t. t.now)) (sym c.in-Some.is) ∙ c.element.ensures) c.in_ok-push.ensures.items

-- all were read
pub returns : goal.returns
returns c = keyed_all c.args.place c.args.items.now c.loop-at.at c.loop-at.pairs.items c.loop-at.invariant (omega arith)
