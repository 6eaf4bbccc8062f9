use Rattle.std.proofs.Common.{arith}
use Rattle.edb_world.proofs.Turning.{weighed}
use Rattle.edb_world.proofs.Ends.{within_budget}
use Rattle.edb_rules.specs.Facts.{debuggee_at}
use Rattle.edb_rules.specs.Slices.{after_moves}
use Rattle.edb_world.proofs.Running.{some_budget, light_budget, low_enough, ran_weight, ran_moves, ran_ending, ended_went}
use Rattle.edb_world.specs.declared.world.World.{World}
use Rattle.edb_world.proofs.world.World.run.Goals as goal

pub run-requires-clause-versions : goal.run-requires-clause-versions
run-requires-clause-versions c = c.requires.leased.versions

pub run-requires-clause-some : goal.run-requires-clause-some
run-requires-clause-some c = some_budget c.args.self.now c.args.pid c.requires.plan c.requires.leased

pub run-requires-clause-room : goal.run-requires-clause-room
run-requires-clause-room c = λ t lives.
    let low = low_enough c.args.self.now c.args.pid t c.requires.leased lives in
    let most = light_budget c.args.self.now c.args.pid c.requires.leased in
    omega (arith, low, most, c.requires.plan.bound)

pub run-requires-clause-fits : goal.run-requires-clause-fits
run-requires-clause-fits c =
    let most = light_budget c.args.self.now c.args.pid c.requires.leased in
    omega (arith, most, c.requires.plan.bound)

pub push-requires-clause-light : goal.push-requires-clause-light
push-requires-clause-light c =
    let w = c.args.self.now in
    let f = w.state.facts in
    let heavy = weighed w.state.plan w.journal.entries f c.requires.leased.keeps.kept in
    let most = light_budget w c.args.pid c.requires.leased in
    let so = c.in_ok-slice.ensures in
    let moves = within_budget w.state.plan.code (debuggee_at f c.args.pid).handout c.args.pid so.running c.in_ok-slice.slice.moves 0 so.end
    (some_budget w c.args.pid c.requires.plan c.requires.leased) so.slice in
    omega (arith, c.requires.leased.light, heavy, most, moves, c.requires.plan.bound)

pub end-requires-clause-bound : goal.end-requires-clause-bound
end-requires-clause-bound c =
    let w = c.args.self.now in
    let new : World = record { state = c.run.new.self; journal = c.push.new.self } in
    let most = light_budget w c.args.pid c.requires.leased in
    let moves = ran_moves w new c.args.pid c.in_ok-slice.slice c.requires.leased c.in_ok-slice.ensures c.in_ok-push.ensures.ok c.requires.plan in
    let is = ran_weight w new c.args.pid c.in_ok-slice.slice c.requires.leased c.in_ok-slice.ensures c.in_ok-push.ensures.ok in
    omega (arith, most, moves, is, c.requires.leased.light, c.requires.plan.bound)

pub end-requires-clause-ending : goal.end-requires-clause-ending
end-requires-clause-ending c =
    let w = c.args.self.now in (
      after_moves w.state.plan.code (debuggee_at w.state.facts c.args.pid).handout.versions c.in_ok-slice.slice.moves c.in_ok-slice.ensures.running,
      ran_ending w (record { state = c.run.new.self; journal = c.push.new.self }) c.args.pid c.in_ok-slice.slice c.requires.leased c.in_ok-slice.ensures c.in_ok-push.ensures.ok,
    )

pub returns : goal.returns
returns c =
    ended_went c.args.self.now (record { state = c.run.new.self; journal = c.push.new.self }) c.args.pid c.in_ok-slice.slice c.requires.leased c.in_ok-slice.ensures
    c.in_ok-push.ensures.ok c.end.new.self c.in_ok-end.ensures
