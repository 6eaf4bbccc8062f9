use Rattle.std.proofs.Common.{◌≡◌, IfOk, sym, subst, ◌∙◌}
use Rattle.edb_lang.specs.Terms.{is_within}
use Rattle.edb_path.specs.Plans.{effect}
use Rattle.edb_leaves.proofs.Given.{refused}
use Rattle.edb_leaves.proofs.reading.give_limited.Goals as goal

pub returns-in-Err-clause-effect : goal.returns-in-Err-clause-effect
returns-in-Err-clause-effect c = λ p v t e.
    subst (λ x. IfOk c.failing.result (λ plan. effect p v plan ≡ x)) (sym (refused p t (is_within t) c.in-Err.field-0 (sym e ∙ c.in-Err.is))) (c.failing.ensures.effect p v)
