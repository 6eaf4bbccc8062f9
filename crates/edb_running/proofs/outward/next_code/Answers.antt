use Rattle.std.proofs.Common.{rules, ◌≡◌, ◌+◌, ◌∷◌, drop, slice_get, Some, ap, sym, ◌∙◌}
use Rattle.edb_running.specs.Rising.{next_code}
use Rattle.edb_running.proofs.Scans.{at_place, search_ends}
use Rattle.edb_running.proofs.outward.next_code.Goals as goal

pub returns-in-Operands : goal.returns-in-Operands
returns-in-Operands c =
    let at : slice_get c.args.layers.now.0 c.loop-place.place ≡ Some c.in-Some.layer.now = search rules in
    c.next.ensures
    ∙ ap (λ l. next_code (l ∷ drop (c.loop-place.place + 1) c.args.layers.now.0)) (sym c.in-Operands.is)
    ∙ ap next_code (sym (at_place c.loop-place.place c.args.layers.now.0 c.in-Some.layer.now at).0) ∙ c.loop-place.invariant

pub returns-in_default-layer : goal.returns-in_default-layer
returns-in_default-layer c =
    let at : slice_get c.args.layers.now.0 c.loop-place.place ≡ Some c.in-Some.layer.now = search rules in
    sym (search_ends c.in-Some.layer.now (drop (c.loop-place.place + 1) c.args.layers.now.0) c.in_default-layer.not-Operands c.in_default-layer.not-Body)
    ∙ ap next_code (sym (at_place c.loop-place.place c.args.layers.now.0 c.in-Some.layer.now at).0) ∙ c.loop-place.invariant

pub loop-place-preserved : goal.loop-place-preserved
loop-place-preserved c =
    let at : slice_get c.args.layers.now.0 c.loop-place.place ≡ Some c.in-Some.layer.now = search rules in
    ap (λ l. next_code (l ∷ drop (c.loop-place.place + 1) c.args.layers.now.0)) (sym c.in-Body.is)
    ∙ ap next_code (sym (at_place c.loop-place.place c.args.layers.now.0 c.in-Some.layer.now at).0) ∙ c.loop-place.invariant
