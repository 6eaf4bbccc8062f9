use Rattle.std.proofs.Common.{◌≡◌, ◌∙◌, ap, ◌++◌, ◌∷◌, [], ◌+◌, take, drop, sym}
use Rattle.edb_values.proofs.TupleLemmas.{set_between, take_rest}
use Rattle.edb_values.proofs.tuples.with_item.Goals as goal

-- src/tuples.rt: what is before the place, the value, and what is after
pub returns : goal.returns
returns c =
    let after = drop (c.args.place + 1) c.args.items.now in
    let whole : c.copy_onto-2.new.copies.items ≡ c.push.new.self.items ++ after = rw (sym (take_rest (c.args.place + 1) c.args.items.now)) c.in_ok-copy_onto-2.ensures in
    let before : c.copy_onto.new.copies.items ≡ take c.args.place c.args.items.now = c.in_ok-copy_onto.ensures ∙ ap (λ ts. ts ++ take c.args.place c.args.items.now) c.new-changed.ensures.items in
    let copied : c.in_ok-copy.field-0 ≡ c.args.value.now = c.in_ok-copy.ensures in
    let changed : c.push.new.self.items ≡ take c.args.place c.args.items.now ++ c.args.value.now ∷ [] = c.in_ok-push.ensures.items ∙ (λ j. before j ++ copied j ∷ []) in
    whole ∙ ap (λ ts. ts ++ after) changed ∙ set_between c.args.items.now c.args.place c.args.value.now c.requires
