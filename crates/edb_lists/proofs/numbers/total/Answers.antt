use Rattle.std.proofs.Common.{◌≡◌, ◌∙◌, map, ap, sym, arith, rules, Bor, ◌+ℤ◌, FitsSigned, to_z, of_z}
use Rattle.std.specs.Int.{w128}
use Rattle.std.proofs.lemmas.Int.{to_z-of_z}
use Rattle.std.specs.List.{fold}
use Rattle.std.proofs.lemmas.List.{length-map}
use Rattle.edb_lang.specs.declared.term.Term.{Term}
use Rattle.edb_pure.specs.Integers.{integer_of}
use Rattle.edb_lists.specs.Totals.{total_of}
use Rattle.edb_lists.proofs.Places.{read_value}
use Rattle.edb_lists.proofs.Walks.{each_none, each_more, each_all}
use Rattle.edb_lists.proofs.numbers.total.Goals as goal

pub returns-in_default : goal.returns-in_default
returns-in_default c =
    let v = (λ (t : Bor Term). t.now) in
    let t = c.loop-place.total in
    each_none integer_of (map v c.args.items.now) c.loop-place.place (fold ◌+ℤ◌ (total_of t.value t.over t.under)) _ c.loop-place.invariant.sum
    c.index-items-place.result.now (simp length-map (omega arith)) (read_value v c.args.items.now c.loop-place.place c.index-items-place.result (omega arith) c.index-items-place.is)
    (sym c.in_default.is ∙ c.integer.ensures)

pub loop-place-preserved : goal.loop-place-preserved
loop-place-preserved c =
    let v = (λ (t : Bor Term). t.now) in
    let t = c.loop-place.total in
    let next = c.plus-total.result in
    let fits : FitsSigned w128 c.in-Some.more = search rules in
    let more : to_z w128 (of_z w128 c.in-Some.more) ≡ c.in-Some.more = to_z-of_z w128 c.in-Some.more fits in
    record {
      sum = each_more integer_of (map v c.args.items.now) c.loop-place.place (fold ◌+ℤ◌ (total_of t.value t.over t.under)) _ c.loop-place.invariant.sum
          c.index-items-place.result.now (simp length-map (omega arith)) (read_value v c.args.items.now c.loop-place.place c.index-items-place.result (omega arith) c.index-items-place.is)
          c.in-Some.more (fold ◌+ℤ◌ (total_of next.value next.over next.under)) (sym c.in-Some.is ∙ c.integer.ensures)
          (λ is. ap (λ n. fold ◌+ℤ◌ n is) (c.plus-total.ensures.sum ∙ ap (λ z. total_of t.value t.over t.under +ℤ z) more));
      over = omega arith;
      under = omega arith;
    }

pub returns : goal.returns
returns c =
    let v = (λ (t : Bor Term). t.now) in
    let t = c.loop-place.total in
    each_all integer_of (map v c.args.items.now) c.loop-place.place (fold ◌+ℤ◌ (total_of t.value t.over t.under)) _ c.loop-place.invariant.sum (simp length-map (omega arith))
