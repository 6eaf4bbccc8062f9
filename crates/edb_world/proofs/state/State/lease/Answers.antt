use Rattle.std.proofs.Common.{◌≡◌, rules}
use Rattle.edb_rules.specs.Facts.{debuggee_at}
use Rattle.edb_world.proofs.PlaceLaws.{known_at, lives_within_some}
use Rattle.edb_world.proofs.Leasing.{lease_noted}
use Rattle.edb_world.proofs.state.State.lease.Goals as goal

-- src/slices.rt: the process at this place has a lease
pub returns-clause-state : goal.returns-clause-state
returns-clause-state c =
    let k = c.args.self.now in
    let p = c.args.pid in
    let d = c.index_mut.result.now in
    let within = lives_within_some k.facts p c.requires.lives in
    let known : debuggee_at k.facts p ≡ d = known_at k.facts p d within.0 (search rules) (search rules) in
    lease_noted k _ p c.min-budget.result d c.lease.new.self c.in_ok-handout.handout within.0 known c.in_ok-handout.ensures c.lease.ensures (search rules) (search rules)
