use Rattle.std.proofs.Common.{◌≡◌, ◌-◌}
use Rattle.edb_world.specs.Worlds.{IsGoing}
use Rattle.edb_world.proofs.world.World.go.Given as goal

-- the world goes on, by the same plan
abbrev pub invariant-loop-self : goal.invariant-loop-self
invariant-loop-self l = record { going : IsGoing l.self; plan : l.self.state.plan ≡ l.fn.self.state.plan }

-- what is left of the weight
abbrev pub decreases-loop-self : goal.decreases-loop-self
decreases-loop-self l = l.self.state.plan.weight_limit - l.self.state.facts.weight
