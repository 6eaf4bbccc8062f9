use Rattle.std.proofs.Common.{◌≡◌, map, take}
use Rattle.edb_stack.specs.declared.item.Item.TheVariants.{Value}
use Rattle.edb_calls.proofs.becomes.values.Given as goal

abbrev pub invariant-loop-term : goal.invariant-loop-term
invariant-loop-term l = l.items.items ≡ map Value (map (λ t. t.now) (take l.term-index l.terms))
