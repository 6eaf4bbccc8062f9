use Rattle.std.proofs.Common.{◌≡◌, List, [], ◌∷◌, ◌++◌, Option, None, Some, replicate, slice_set, ◌∙◌, ap, ap₂, rules}
use Rattle.edb_rules.specs.Seen.{Seen, new_seen}
use Rattle.edb_iserver.proofs.Placing.{filled, padded}
use Rattle.edb_iserver.proofs.news.place_seen.Goals as goal

pub returns-then-place-len-clause-ok : goal.returns-then-place-len-clause-ok
returns-then-place-len-clause-ok c =
    ap (λ (x : Seen). slice_set c.args.seen.now.items c.args.place (Some x)) c.new.ensures ∙ filled c.args.seen.now.items c.args.place _ (search rules) c.requires.free

pub returns-clause-ok : goal.returns-clause-ok
returns-clause-ok c =
    let xs = c.args.seen.now.items in
    let base : c.reserve.new.self.items ≡ xs = search rules in
    let pushed : c.push_reserved-2.new.self.items ≡ c.loop-gap.seen.items ++ Some c.new-2.result ∷ [] = search rules in
    let gaps : c.loop-gap.seen.items ++ Some c.new-2.result ∷ [] ≡ (c.reserve.new.self.items ++ replicate c.loop-gap.gap None) ++ Some new_seen ∷ []
    = ap₂ (λ (ys : List (Option Seen)) (x : Seen). ys ++ Some x ∷ []) c.loop-gap.invariant.items c.new-2.ensures in
    pushed ∙ (gaps ∙ (ap (λ (ys : List (Option Seen)). (ys ++ replicate c.loop-gap.gap None) ++ Some new_seen ∷ []) base ∙ padded xs c.args.place c.loop-gap.gap new_seen (search rules)))
