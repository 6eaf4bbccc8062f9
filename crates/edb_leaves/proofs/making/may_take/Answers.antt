use Rattle.std.proofs.Common.{is_ok, ap, ◌∙◌}
use Rattle.edb_lang.specs.Terms.{tuple, of_list, is_within}
use Rattle.edb_leaves.proofs.FunLaws.{made_within, within_same}
use Rattle.edb_leaves.proofs.making.may_take.Goals as goal

pub returns : goal.returns
returns c = λ m k i a.
    c.is_ok.ensures.value
    ∙ ap is_ok c.in_ok-tuple.ensures
    ∙ made_within (tuple (of_list c.in_ok-values.values.items))
    ∙ ap (λ vs. is_within (tuple (of_list vs))) c.in_ok-values.ensures
    ∙ within_same m k i a c.args.captured.now
