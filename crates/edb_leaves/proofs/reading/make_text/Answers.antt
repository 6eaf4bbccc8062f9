use Rattle.std.proofs.Common.{map, pos, ap, ◌∙◌}
use Rattle.edb_lang.specs.Limits.{limited}
use Rattle.edb_lang.specs.ListTerms.{list_of, string_of}
use Rattle.edb_lang.specs.Terms.{int}
use Rattle.edb_guards.proofs.Lists.{list_of_points}
use Rattle.edb_leaves.proofs.reading.make_text.Goals as goal

pub returns-clause-effect : goal.returns-clause-effect
returns-clause-effect c = λ p v.
    let items = ap (λ is. limited (list_of is c.nil.result)) c.in_ok-items.ensures in
    let end = ap (λ t. limited (list_of (map (λ k. int (pos k)) c.args.points.now) t)) c.nil.ensures in
    let text = ap limited (list_of_points c.args.points.now) in
    c.give_limited.ensures.effect p v (string_of c.args.points.now) (c.in_ok-list.ensures ∙ items ∙ end ∙ text)
