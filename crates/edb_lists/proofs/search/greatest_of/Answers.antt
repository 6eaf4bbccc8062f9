use Rattle.std.proofs.Common.{◌∙◌, map, sym, arith, Bor}
use Rattle.std.specs.Ordering.{ord_max}
use Rattle.std.proofs.lemmas.List.{length-map}
use Rattle.edb_lang.specs.Order.{term_cmp}
use Rattle.edb_lang.specs.declared.term.Term.{Term}
use Rattle.edb_lists.proofs.Places.{read_value}
use Rattle.edb_lists.proofs.Walks.{nonempty, first_best, next_best, last_best}
use Rattle.edb_lists.proofs.search.greatest_of.Goals as goal

pub loop-place-init : goal.loop-place-init
loop-place-init c =
    let v = (λ (t : Bor Term). t.now) in
    let h = nonempty c.args.items.now (sym c.is_empty.ensures ∙ c.if-is_empty.false) in
    first_best (ord_max term_cmp) (map v c.args.items.now) c.index-items-0.result.now (simp length-map h) (read_value v c.args.items.now 0 c.index-items-0.result h c.index-items-0.is)

pub loop-place-preserved : goal.loop-place-preserved
loop-place-preserved c =
    let v = (λ (t : Bor Term). t.now) in
    next_best (ord_max term_cmp) (map v c.args.items.now) c.loop-place.place _ _ c.index-items-place.result.now _ (simp length-map (omega arith))
    (read_value v c.args.items.now c.loop-place.place c.index-items-place.result (omega arith) c.index-items-place.is) c.greater-best.ensures c.loop-place.invariant

pub returns : goal.returns
returns c =
    let v = (λ (t : Bor Term). t.now) in
    last_best (ord_max term_cmp) (map v c.args.items.now) c.loop-place.place _ _ (simp length-map (omega arith)) c.loop-place.invariant
