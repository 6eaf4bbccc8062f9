use Rattle.std.proofs.Common.{arith}
use Rattle.edb_world.specs.Known.{command_entry}
use Rattle.edb_world.proofs.Turning.{weighed, stands_range, stands_one, stands_went}
use Rattle.edb_world.proofs.Standing.{made_so, few, next_known, command_stands}
use Rattle.edb_world.proofs.world.World.serve.Goals as goal

pub answer-requires-clause-known : goal.answer-requires-clause-known
answer-requires-clause-known c =
    next_known c.args.self.now.state.plan c.args.self.now.state.facts c.args.call c.requires.plan.known c.requires.next.call

pub answer-requires-clause-left : goal.answer-requires-clause-left
answer-requires-clause-left c = few c.args.self.now.state.plan c.args.self.now.state.facts c.args.call c.requires.next.call

pub answer-requires-clause-tied : goal.answer-requires-clause-tied
answer-requires-clause-tied c = made_so c.args.self.now c.requires.going.keeps

pub push-requires-clause-range : goal.push-requires-clause-range
push-requires-clause-range c =
    let w = c.args.self.now in
    let known = next_known w.state.plan w.state.facts c.args.call c.requires.plan.known c.requires.next.call in
    stands_range w c.in_ok-entry.entry (command_entry w.state c.args.call) c.requires.plan c.requires.going.keeps
    (command_stands w c.args.call c.requires.going.keeps c.requires.at c.requires.next known c.requires.enabled) c.in_ok-entry.ensures.entry

pub push-requires-clause-light : goal.push-requires-clause-light
push-requires-clause-light c =
    let w = c.args.self.now in
    let known = next_known w.state.plan w.state.facts c.args.call c.requires.plan.known c.requires.next.call in
    let heavy = weighed w.state.plan w.journal.entries w.state.facts c.requires.going.keeps.kept in
    let one = stands_one w c.in_ok-entry.entry (command_entry w.state c.args.call)
    (command_stands w c.args.call c.requires.going.keeps c.requires.at c.requires.next known c.requires.enabled) c.in_ok-entry.ensures.entry in
    omega (arith, heavy, one, c.requires.at.begin.light, c.requires.plan.bound)

pub returns : goal.returns
returns c =
    let w = c.args.self.now in
    let known = next_known w.state.plan w.state.facts c.args.call c.requires.plan.known c.requires.next.call in
    stands_went w (record { state = c.answer.new.self; journal = c.push.new.self }) c.in_ok-entry.entry (command_entry w.state c.args.call)
    c.requires.going c.requires.at.begin.light
    (command_stands w c.args.call c.requires.going.keeps c.requires.at c.requires.next known c.requires.enabled) c.in_ok-entry.ensures.entry
    c.in_ok-entry.ensures.state c.in_ok-push.ensures.ok
