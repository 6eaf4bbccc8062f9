use Rattle.std.proofs.Common.{◌≡◌, MatchOption, Option, subst}
use Rattle.edb_stack.specs.Landings.{landing}
use Rattle.edb_running.specs.Landed.{IsLanding}
use Rattle.edb_running.specs.Vacant.{code_behind, round_hole, hole_in}
use Rattle.edb_running.proofs.CommitLaws.{behind_layers}
use Rattle.edb_running.proofs.UnwindLaws.{nowhere_out}
use Rattle.edb_running.proofs.running.Running.raise.Goals as goal

pub returns-in_default-clause-effect : goal.returns-in_default-clause-effect
returns-in_default-clause-effect c p same =
    let r = c.args.self.now in
    nowhere_out p c.args.me c.args.raise (round_hole r) (code_behind r.layers.0 r.redex) (hole_in r) (behind_layers r.layers.0 r.redex)
    (subst (IsLanding c.args.raise (round_hole r) (landing c.args.me (round_hole r) (hole_in r) c.args.raise.class c.args.raise.reason)) c.in_default.is c.in_ok-landing.ensures.lands) same
