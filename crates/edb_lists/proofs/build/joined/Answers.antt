use Rattle.std.proofs.Common.{◌∙◌, ◌++◌, map, ap, sym, arith, Bor}
use Rattle.std.specs.Option.{option_map}
use Rattle.std.proofs.lemmas.List.{length-map, map-append}
use Rattle.edb_lang.specs.declared.term.Term.{Term}
use Rattle.edb_lists.proofs.Places.{read_value}
use Rattle.edb_lists.proofs.Walks.{joined_none, joined_more}
use Rattle.edb_lists.proofs.build.joined.Goals as goal

pub returns-in_default : goal.returns-in_default
returns-in_default c =
    let v = (λ (t : Bor Term). t.now) in
    joined_none (map v c.args.lists.now) c.loop-place.place c.index-lists-place.result.now (map v c.loop-place.all.items) _ (simp length-map (omega arith))
    (read_value v c.args.lists.now c.loop-place.place c.index-lists-place.result (omega arith) c.index-lists-place.is) c.loop-place.invariant
    (ap (option_map (λ items. map v items.items)) (sym c.in_default.is) ∙ c.in_ok-items.ensures)

pub loop-place-preserved : goal.loop-place-preserved
loop-place-preserved c =
    let v = (λ (t : Bor Term). t.now) in
    joined_more (map v c.args.lists.now) c.loop-place.place c.index-lists-place.result.now (map v c.loop-place.all.items) _ (simp length-map (omega arith))
    (read_value v c.args.lists.now c.loop-place.place c.index-lists-place.result (omega arith) c.index-lists-place.is) c.loop-place.invariant
    (map v c.in-Some.items.items) _ (ap (option_map (λ items. map v items.items)) (sym c.in-Some.is) ∙ c.in_ok-items.ensures)
    (ap (map v) c.in_ok-extend_from_slice.ensures.items ∙ map-append v c.loop-place.all.items c.deref.result.now ∙ ap (λ xs. map v c.loop-place.all.items ++ map v xs) c.deref.ensures.value)
