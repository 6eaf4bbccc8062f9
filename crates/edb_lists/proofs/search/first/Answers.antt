use Rattle.std.proofs.Common.{map, sym, ◌∙◌, ap, arith}
use Rattle.std.proofs.lemmas.List.{length-map}
use Rattle.edb_pure.specs.Truths.{same_term}
use Rattle.edb_lang.specs.declared.term.Term.{Term}
use Rattle.std.proofs.Common.{Bor}
use Rattle.std.specs.Ordering.{is_eq}
use Rattle.edb_lists.proofs.Places.{read_value, place_here, place_later, place_nowhere}
use Rattle.edb_lists.proofs.search.first.Goals as goal

-- src/search.rt: this element is the one
pub returns-then-is_eq : goal.returns-then-is_eq
returns-then-is_eq c =
    let v = (λ (t : Bor Term). t.now) in
    let xs = c.args.items.now in
    place_here (same_term c.args.wanted.now) (map v xs) c.loop-place.place c.index-items-place.result.now
    (simp length-map (omega arith)) (read_value v xs c.loop-place.place c.index-items-place.result (omega arith) c.index-items-place.is)
    (ap is_eq (sym c.cmp.ensures) ∙ sym c.is_eq.ensures ∙ c.if-is_eq.true) c.loop-place.invariant

-- it isn't
pub loop-place-preserved : goal.loop-place-preserved
loop-place-preserved c =
    let v = (λ (t : Bor Term). t.now) in
    let xs = c.args.items.now in
    place_later (same_term c.args.wanted.now) (map v xs) c.loop-place.place c.index-items-place.result.now
    (simp length-map (omega arith)) (read_value v xs c.loop-place.place c.index-items-place.result (omega arith) c.index-items-place.is)
    (ap is_eq (sym c.cmp.ensures) ∙ sym c.is_eq.ensures ∙ c.if-is_eq.false) c.loop-place.invariant

-- all were read
pub returns : goal.returns
returns c =
    let v = (λ (t : Bor Term). t.now) in
    place_nowhere (same_term c.args.wanted.now) (map v c.args.items.now) c.loop-place.place (simp length-map (omega arith)) c.loop-place.invariant
