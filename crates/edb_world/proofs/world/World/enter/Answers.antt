use Rattle.std.proofs.Common.{◌≡◌, ◌∙◌, sym, subst, ap, arith}
use Rattle.edb_model.specs.Plain as model
use Rattle.edb_event.specs.declared.entry.Entry.{Entry}
use Rattle.edb_event.specs.Ranges.{IsEntry}
use Rattle.edb_event.specs.Weights.{weight_of}
use Rattle.edb_rules.specs.Facts.{Facts}
use Rattle.edb_rules.specs.SliceEnds.{enter_entry}
use Rattle.edb_rules.proofs.Bounds.{innermost_bounded}
use Rattle.edb_world.specs.Known.{running_at}
use Rattle.edb_world.specs.Turns.{IsEndNoted}
use Rattle.edb_world.proofs.PlaceLaws.{is_some_here}
use Rattle.edb_world.proofs.Ending.{enter_is, end_range, end_weighed, ended_one, keeps_one}
use Rattle.edb_world.proofs.world.World.enter.Goals as goal

pub enter-requires-clause-lives : goal.enter-requires-clause-lives
enter-requires-clause-lives c =
    let n = c.requires.next in is_some_here (running_at c.args.self.now.state c.args.pid) n.0 n.2.lives

pub enter-requires-clause-arity : goal.enter-requires-clause-arity
enter-requires-clause-arity c = λ t i lives is.
    let kept = c.requires.next.2.awaits.kept in
    (innermost_bounded c.args.self.now.state.plan c.args.self.now.journal.entries c.args.pid t i c.requires.plan.bounds kept.legal
    (ap (λ (f : Facts). (model.running_at f.plain c.args.pid)) kept.facts ∙ lives) is).2

pub push-requires-clause-range : goal.push-requires-clause-range
push-requires-clause-range c =
    let n = c.requires.next in
    subst (λ (e : Entry). IsEntry e) (sym (c.in_ok-entry.ensures.entry n.0 n.2.lives))
    (end_range c.args.self.now c.args.pid n.0 (enter_entry c.args.pid n.0) n.1 n.2 (enter_is c.args.pid n.0) c.requires.plan)

pub push-requires-clause-light : goal.push-requires-clause-light
push-requires-clause-light c =
    let n = c.requires.next in
    let heavy = end_weighed c.args.self.now c.args.pid n.0 (enter_entry c.args.pid n.0) n.1 n.2 (enter_is c.args.pid n.0) in
    let one : weight_of c.in_ok-entry.entry ≡ 1 = ap weight_of (c.in_ok-entry.ensures.entry n.0 n.2.lives) in
    omega (arith, heavy, one, c.requires.bound)

pub returns : goal.returns
returns c = λ t rest ending.
    let is = c.in_ok-entry.ensures.entry t ending.lives in
    ended_one c.args.self.now c.args.pid t (enter_entry c.args.pid t) rest ending (enter_is c.args.pid t)
    (record { state = c.enter.new.self; journal = c.push.new.self })
    (subst (λ (e : Entry). IsEndNoted c.args.self.now.state c.enter.new.self e) is c.in_ok-entry.ensures.state)
    (keeps_one c.args.self.now.journal.entries c.push.new.self.entries c.in_ok-entry.entry (enter_entry c.args.pid t) c.in_ok-push.ensures.ok is)
