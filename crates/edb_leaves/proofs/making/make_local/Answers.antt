use Rattle.std.proofs.Common.{◌≡◌, IfOk, subst}
use Rattle.edb_lang.specs.TermViews.{pairs_of}
use Rattle.edb_moves.specs.Moves.{made_in}
use Rattle.edb_path.specs.Plans.{effect}
use Rattle.edb_leaves.proofs.making.make_local.Goals as goal

pub returns-clause-effect : goal.returns-clause-effect
returns-clause-effect c = λ p v h.
    subst (λ cs. IfOk c.make_form.result (λ plan. effect p v plan ≡ made_in p p.bodies c.args.index c.args.arity (pairs_of cs))) c.new.ensures.items (c.make_form.ensures.effect p v h)
