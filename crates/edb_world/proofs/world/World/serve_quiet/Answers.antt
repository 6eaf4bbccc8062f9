use Rattle.std.proofs.Common.{arith}
use Rattle.edb_event.specs.declared.entry.Entry.TheVariants as entry
use Rattle.edb_event.specs.declared.reply.Reply.TheVariants as reply
use Rattle.edb_world.proofs.Turning.{calm_here, weighed, stands_range, stands_one, stands_went}
use Rattle.edb_world.proofs.Ranking.{at_quiet}
use Rattle.edb_world.proofs.Standing.{few, next_known, quiet_stands}
use Rattle.edb_world.proofs.world.World.serve_quiet.Goals as goal

pub answer_quiet-entry-requires-clause-known : goal.answer_quiet-entry-requires-clause-known
answer_quiet-entry-requires-clause-known c =
    next_known c.args.self.now.state.plan c.args.self.now.state.facts c.args.call c.requires.plan.known c.requires.next

pub answer_quiet-entry-requires-clause-left : goal.answer_quiet-entry-requires-clause-left
answer_quiet-entry-requires-clause-left c = few c.args.self.now.state.plan c.args.self.now.state.facts c.args.call c.requires.next

pub push-requires-clause-range : goal.push-requires-clause-range
push-requires-clause-range c =
    let w = c.args.self.now in
    let quiet = at_quiet w.state.plan w.state.facts (calm_here w c.requires.going.keeps) c.requires.at c.requires.still (c.requires.going.free c.requires.at.at.at.begin.light) in
    let known = next_known w.state.plan w.state.facts c.args.call c.requires.plan.known c.requires.next in
    stands_range w c.answer_quiet-entry.result (entry.Served 1 c.args.call reply.Quiet) c.requires.plan c.requires.going.keeps
    (quiet_stands w c.args.call quiet c.requires.next known) c.answer_quiet-entry.ensures.entry

pub push-requires-clause-light : goal.push-requires-clause-light
push-requires-clause-light c =
    let w = c.args.self.now in
    let quiet = at_quiet w.state.plan w.state.facts (calm_here w c.requires.going.keeps) c.requires.at c.requires.still (c.requires.going.free c.requires.at.at.at.begin.light) in
    let known = next_known w.state.plan w.state.facts c.args.call c.requires.plan.known c.requires.next in
    let heavy = weighed w.state.plan w.journal.entries w.state.facts c.requires.going.keeps.kept in
    let one = stands_one w c.answer_quiet-entry.result (entry.Served 1 c.args.call reply.Quiet)
    (quiet_stands w c.args.call quiet c.requires.next known) c.answer_quiet-entry.ensures.entry in
    omega (arith, heavy, one, c.requires.at.at.at.begin.light, c.requires.plan.bound)

pub returns : goal.returns
returns c =
    let w = c.args.self.now in
    let quiet = at_quiet w.state.plan w.state.facts (calm_here w c.requires.going.keeps) c.requires.at c.requires.still (c.requires.going.free c.requires.at.at.at.begin.light) in
    let known = next_known w.state.plan w.state.facts c.args.call c.requires.plan.known c.requires.next in
    stands_went w (record { state = c.answer_quiet-entry.new.self; journal = c.push.new.self }) c.answer_quiet-entry.result (entry.Served 1 c.args.call reply.Quiet)
    c.requires.going c.requires.at.at.at.begin.light
    (quiet_stands w c.args.call quiet c.requires.next known) c.answer_quiet-entry.ensures.entry
    c.answer_quiet-entry.ensures.state c.in_ok-push.ensures.ok
