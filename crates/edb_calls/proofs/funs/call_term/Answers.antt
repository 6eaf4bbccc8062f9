use Rattle.std.proofs.Common.{◌≡◌, IfOk, map, subst}
use Rattle.edb_path.specs.Plans.{effect}
use Rattle.edb_calls.specs.Sites.{spot}
use Rattle.edb_calls.proofs.FunLaws.{no_fun}
use Rattle.edb_calls.proofs.funs.call_term.Goals as goal

pub returns-in_default : goal.returns-in_default
returns-in_default c =
    let place = spot c.args.site.now in
    record {
      effect = λ v. subst (λ e. IfOk c.not_a_fun.result (λ plan. effect place v plan ≡ e))
          (no_fun c.args.program.now place c.fun.inside.node c.args.fun.now (map (λ t. t.now) c.args.args.now) c.fun.view_is c.in_default.not-Fun)
          (c.not_a_fun.ensures.effect place v);
      suits = c.not_a_fun.ensures.suits;
      alone = c.not_a_fun.ensures.alone;
    }
