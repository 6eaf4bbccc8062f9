use Rattle.std.proofs.Common.{arith}
use Rattle.edb_world.specs.Turns.{act_entry}
use Rattle.edb_world.proofs.Turning.{weighed, stands_range, stands_one, stands_went}
use Rattle.edb_world.proofs.Standing.{act_stands}
use Rattle.edb_world.proofs.world.World.act.Goals as goal

pub push-requires-clause-range : goal.push-requires-clause-range
push-requires-clause-range c =
    let w = c.args.self.now in
    let acting = c.requires.acting in
    stands_range w c.in_ok-entry.entry (act_entry c.args.pid acting.act) c.requires.plan c.requires.going.keeps
    (act_stands w c.args.pid c.args.kind acting c.requires.at c.requires.first) (c.in_ok-entry.ensures.entry acting.act acting.turn)

pub push-requires-clause-light : goal.push-requires-clause-light
push-requires-clause-light c =
    let w = c.args.self.now in
    let acting = c.requires.acting in
    let heavy = weighed w.state.plan w.journal.entries w.state.facts c.requires.going.keeps.kept in
    let one = stands_one w c.in_ok-entry.entry (act_entry c.args.pid acting.act)
    (act_stands w c.args.pid c.args.kind acting c.requires.at c.requires.first) (c.in_ok-entry.ensures.entry acting.act acting.turn) in
    omega (arith, heavy, one, c.requires.at.at.at.begin.light, c.requires.plan.bound)

pub returns : goal.returns
returns c =
    let w = c.args.self.now in
    let acting = c.requires.acting in
    stands_went w (record { state = c.act.new.self; journal = c.push.new.self }) c.in_ok-entry.entry (act_entry c.args.pid acting.act)
    c.requires.going c.requires.at.at.at.begin.light
    (act_stands w c.args.pid c.args.kind acting c.requires.at c.requires.first) (c.in_ok-entry.ensures.entry acting.act acting.turn)
    c.in_ok-entry.ensures.state c.in_ok-push.ensures.ok
