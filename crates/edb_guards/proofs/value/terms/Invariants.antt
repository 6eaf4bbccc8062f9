use Rattle.std.proofs.Common.{◌≡◌, map, take}
use Rattle.edb_guards.specs.Views.{value_of}
use Rattle.edb_guards.proofs.value.terms.Given as goal

abbrev pub invariant-loop-value : goal.invariant-loop-value
invariant-loop-value l = map (λ t. t.now) l.terms.items ≡ map value_of (take l.value-index l.values)
