use Rattle.std.proofs.Common.{◌≡◌, subst, ap, arith}
use Rattle.edb_event.specs.declared.entry.Entry.{Entry}
use Rattle.edb_event.specs.declared.entry.Entry.TheVariants as entry
use Rattle.edb_event.specs.Weights.{weight_of}
use Rattle.edb_world.specs.Known.{running_at}
use Rattle.edb_world.specs.Turns.{IsEndNoted}
use Rattle.edb_world.proofs.PlaceLaws.{is_some_here}
use Rattle.edb_world.proofs.Ending.{leave_is, end_weighed, ended_one, keeps_one}
use Rattle.edb_world.proofs.world.World.leave.Goals as goal

pub leave-entry-requires-clause-lives : goal.leave-entry-requires-clause-lives
leave-entry-requires-clause-lives c =
    let n = c.requires.next in is_some_here (running_at c.args.self.now.state c.args.pid) n.0 n.2.lives

pub push-requires-clause-light : goal.push-requires-clause-light
push-requires-clause-light c =
    let n = c.requires.next in
    let heavy = end_weighed c.args.self.now c.args.pid n.0 (entry.Leave c.args.pid) n.1 n.2 (leave_is c.args.pid) in
    let one : weight_of c.leave-entry.result ≡ 1 = ap weight_of c.leave-entry.ensures.entry in
    omega (arith, heavy, one, c.requires.bound)

pub returns : goal.returns
returns c = λ t rest ending.
    ended_one c.args.self.now c.args.pid t (entry.Leave c.args.pid) rest ending (leave_is c.args.pid)
    (record { state = c.leave-entry.new.self; journal = c.push.new.self })
    (subst (λ (e : Entry). IsEndNoted c.args.self.now.state c.leave-entry.new.self e) c.leave-entry.ensures.entry c.leave-entry.ensures.state)
    (keeps_one c.args.self.now.journal.entries c.push.new.self.entries c.leave-entry.result (entry.Leave c.args.pid) c.in_ok-push.ensures.ok c.leave-entry.ensures.entry)
