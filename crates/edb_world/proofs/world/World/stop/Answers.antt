use Rattle.std.proofs.Common.{◌≡◌, sym, subst, ap, arith}
use Rattle.edb_event.specs.declared.entry.Entry.{Entry}
use Rattle.edb_event.specs.Ranges.{IsEntry}
use Rattle.edb_event.specs.Weights.{weight_of}
use Rattle.edb_world.specs.Known.{running_at}
use Rattle.edb_world.specs.Turns.{IsEndNoted, stopped_by}
use Rattle.edb_world.proofs.PlaceLaws.{is_some_here}
use Rattle.edb_world.proofs.Ending.{stop_is, end_range, end_weighed, ended_one, keeps_one}
use Rattle.edb_world.proofs.world.World.stop.Goals as goal

pub stop-requires-clause-lives : goal.stop-requires-clause-lives
stop-requires-clause-lives c =
    let n = c.requires.next in is_some_here (running_at c.args.self.now.state c.args.pid) n.0 n.2.lives

pub push-requires-clause-range : goal.push-requires-clause-range
push-requires-clause-range c =
    let n = c.requires.next in
    subst (λ (e : Entry). IsEntry e) (sym (c.in_ok-entry.ensures.entry n.0 n.2.lives))
    (end_range c.args.self.now c.args.pid n.0 (stopped_by c.args.pid c.args.by n.0) n.1 n.2 (stop_is c.args.pid c.args.by n.0) c.requires.plan)

pub push-requires-clause-light : goal.push-requires-clause-light
push-requires-clause-light c =
    let n = c.requires.next in
    let heavy = end_weighed c.args.self.now c.args.pid n.0 (stopped_by c.args.pid c.args.by n.0) n.1 n.2 (stop_is c.args.pid c.args.by n.0) in
    let one : weight_of c.in_ok-entry.entry ≡ 1 = ap weight_of (c.in_ok-entry.ensures.entry n.0 n.2.lives) in
    omega (arith, heavy, one, c.requires.bound)

pub returns : goal.returns
returns c = λ t rest ending.
    let is = c.in_ok-entry.ensures.entry t ending.lives in
    ended_one c.args.self.now c.args.pid t (stopped_by c.args.pid c.args.by t) rest ending (stop_is c.args.pid c.args.by t)
    (record { state = c.stop.new.self; journal = c.push.new.self })
    (subst (λ (e : Entry). IsEndNoted c.args.self.now.state c.stop.new.self e) is c.in_ok-entry.ensures.state)
    (keeps_one c.args.self.now.journal.entries c.push.new.self.entries c.in_ok-entry.entry (stopped_by c.args.pid c.args.by t) c.in_ok-push.ensures.ok is)
