use Rattle.std.proofs.Common.{◌≡◌, ◌-◌, sym, ap, ◌∙◌, arith, true, false}
use Rattle.std.specs.Ordering.{is_eq, nat_cmp}
use Rattle.std.specs.Cmp.Lexicographic.{slice_cmp}
use Rattle.edb_match.specs.Views.{known_pairs}
use Rattle.edb_match.proofs.Lists.{bound-with_lent, by_order-same, by_order-other}
use Rattle.edb_match.proofs.lent.find.Goals as goal

-- the last pair is the one
pub returns-then-is_eq : goal.returns-then-is_eq
returns-then-is_eq c =
    let b = c.index-lent-end.result in
    let last = bound-with_lent c.args.name.now c.args.lent.now (known_pairs c.args.known.now) (c.loop-end.end - 1) c.loop-end.end b (omega arith) c.loop-end.invariant.within c.index-lent-end.is in
    let same : is_eq (slice_cmp nat_cmp c.args.name.now b.name.now) ≡ true = ap is_eq (sym c.cmp.ensures) ∙ sym c.is_eq.ensures ∙ c.if-is_eq.true in
    sym (by_order-same _ _ _ same) ∙ (sym last ∙ c.loop-end.invariant.seen)

-- it isn't
pub loop-end-preserved : goal.loop-end-preserved
loop-end-preserved c =
    let b = c.index-lent-end.result in
    let last = bound-with_lent c.args.name.now c.args.lent.now (known_pairs c.args.known.now) (c.loop-end.end - 1) c.loop-end.end b (omega arith) c.loop-end.invariant.within c.index-lent-end.is in
    let other : is_eq (slice_cmp nat_cmp c.args.name.now b.name.now) ≡ false = ap is_eq (sym c.cmp.ensures) ∙ sym c.is_eq.ensures ∙ c.if-is_eq.false in
    record { within = omega arith; seen = sym (by_order-other _ _ _ other) ∙ (sym last ∙ c.loop-end.invariant.seen) }
