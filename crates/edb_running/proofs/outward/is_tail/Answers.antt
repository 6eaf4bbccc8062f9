use Rattle.std.proofs.Common.{rules, ◌≡◌, ◌+◌, Some, drop, slice_get, unwrap_or, ap, sym, ◌∙◌}
use Rattle.edb_stack.specs.Views.{layers_of}
use Rattle.edb_running.specs.Tails.{is_last}
use Rattle.edb_running.proofs.Scans.{at_place}
use Rattle.edb_running.proofs.outward.is_tail.Goals as goal

pub returns-in-Some-passes_tail : goal.returns-in-Some-passes_tail
returns-in-Some-passes_tail c =
    let at : slice_get c.args.layers.now.0 c.loop-place.place ≡ Some c.in-Some.layer.now = search rules in
    let behind = drop (c.loop-place.place + 1) c.args.layers.now.0 in
    sym (ap (λ o. unwrap_or o (is_last (layers_of behind))) c.in-Some-passes_tail.is) ∙ sym (c.passes_tail.ensures (layers_of behind))
    ∙ ap (λ ls. is_last (layers_of ls)) (sym (at_place c.loop-place.place c.args.layers.now.0 c.in-Some.layer.now at).0) ∙ c.loop-place.invariant

pub loop-place-preserved : goal.loop-place-preserved
loop-place-preserved c =
    let at : slice_get c.args.layers.now.0 c.loop-place.place ≡ Some c.in-Some.layer.now = search rules in
    let behind = drop (c.loop-place.place + 1) c.args.layers.now.0 in
    sym (ap (λ o. unwrap_or o (is_last (layers_of behind))) c.in-None.is) ∙ sym (c.passes_tail.ensures (layers_of behind))
    ∙ ap (λ ls. is_last (layers_of ls)) (sym (at_place c.loop-place.place c.args.layers.now.0 c.in-Some.layer.now at).0) ∙ c.loop-place.invariant
