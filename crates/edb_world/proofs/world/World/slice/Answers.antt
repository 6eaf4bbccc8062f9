use Rattle.std.proofs.Common.{rules, [], ◌∷◌, ◌++◌, sym, ◌∙◌, ap, subst, arith}
use Rattle.edb_event.specs.declared.entry.Entry.{Entry}
use Rattle.edb_event.specs.Ranges.{IsEntry}
use Rattle.edb_event.specs.Weights.{weight_of}
use Rattle.edb_world.specs.Known.{noted}
use Rattle.edb_world.proofs.Turning.{weighed}
use Rattle.edb_world.proofs.Leasing.{lease_may, lease_lives}
use Rattle.edb_world.proofs.Running.{lease_leased, lease_went}
use Rattle.edb_world.proofs.world.World.slice.Goals as goal

pub lease-requires-clause-lives : goal.lease-requires-clause-lives
lease-requires-clause-lives c = lease_lives c.args.self.now.state.facts c.args.pid c.requires.turn

pub push-requires-clause-range : goal.push-requires-clause-range
push-requires-clause-range c = subst (λ (e : Entry). IsEntry e) (sym c.in_ok-entry.ensures.entry) tt

pub push-requires-clause-light : goal.push-requires-clause-light
push-requires-clause-light c =
    let w = c.args.self.now in
    let heavy = weighed w.state.plan w.journal.entries w.state.facts c.requires.going.keeps.kept in
    let one = ap weight_of c.in_ok-entry.ensures.entry in
    omega (arith, heavy, one, c.requires.at.at.at.begin.light, c.requires.plan.bound)

pub run-requires-clause-leased : goal.run-requires-clause-leased
run-requires-clause-leased c =
    let w = c.args.self.now in
    lease_leased w (record { state = c.lease.new.self; journal = c.push.new.self }) c.args.pid c.requires.turn c.requires.going.keeps
    (c.requires.going.free c.requires.at.at.at.begin.light)
    (lease_may w.state c.args.pid c.requires.at c.requires.first c.requires.turn)
    (c.in_ok-entry.ensures.state ∙ ap (λ (e : Entry). noted w.state e) c.in_ok-entry.ensures.entry)
    (c.in_ok-push.ensures.ok ∙ ap (λ (e : Entry). w.journal.entries ++ e ∷ []) c.in_ok-entry.ensures.entry)
    (search rules)

pub returns : goal.returns
returns c =
    let w = c.args.self.now in
    lease_went w (record { state = c.lease.new.self; journal = c.push.new.self }) c.args.pid c.requires.turn c.requires.going.keeps
    (c.requires.going.free c.requires.at.at.at.begin.light)
    (lease_may w.state c.args.pid c.requires.at c.requires.first c.requires.turn)
    (c.in_ok-entry.ensures.state ∙ ap (λ (e : Entry). noted w.state e) c.in_ok-entry.ensures.entry)
    (c.in_ok-push.ensures.ok ∙ ap (λ (e : Entry). w.journal.entries ++ e ∷ []) c.in_ok-entry.ensures.entry)
    (search rules)
