use Rattle.std.proofs.Common.{arith}
use Rattle.edb_world.proofs.Turning.{begins, weighed, stands_range, stands_one, stands_went}
use Rattle.edb_world.proofs.Standing.{trigger_stands, owing_made, owes_enable}
use Rattle.edb_world.proofs.world.World.trigger.Goals as goal

pub trigger-requires-clause-few : goal.trigger-requires-clause-few
trigger-requires-clause-few c = owing_made c.args.self.now c.args.pid c.requires.going.keeps c.requires.owes

pub trigger-requires-clause-enable : goal.trigger-requires-clause-enable
trigger-requires-clause-enable c = owes_enable c.args.self.now c.requires.going.keeps c.args.pid

pub push-requires-clause-range : goal.push-requires-clause-range
push-requires-clause-range c =
    let w = c.args.self.now in
    let owes = c.requires.owes in
    stands_range w c.in_ok-entry.entry _ c.requires.plan c.requires.going.keeps
    (trigger_stands w c.args.pid owes (begins w c.requires.going.keeps c.requires.light)) (c.in_ok-entry.ensures.entry owes.trigger owes.owed)

pub push-requires-clause-light : goal.push-requires-clause-light
push-requires-clause-light c =
    let w = c.args.self.now in
    let owes = c.requires.owes in
    let heavy = weighed w.state.plan w.journal.entries w.state.facts c.requires.going.keeps.kept in
    let one = stands_one w c.in_ok-entry.entry _ (trigger_stands w c.args.pid owes (begins w c.requires.going.keeps c.requires.light))
    (c.in_ok-entry.ensures.entry owes.trigger owes.owed) in
    omega (arith, heavy, one, c.requires.light, c.requires.plan.bound)

pub returns : goal.returns
returns c =
    let w = c.args.self.now in
    let owes = c.requires.owes in
    stands_went w (record { state = c.trigger.new.self; journal = c.push.new.self }) c.in_ok-entry.entry _ c.requires.going c.requires.light
    (trigger_stands w c.args.pid owes (begins w c.requires.going.keeps c.requires.light)) (c.in_ok-entry.ensures.entry owes.trigger owes.owed)
    c.in_ok-entry.ensures.state c.in_ok-push.ensures.ok
