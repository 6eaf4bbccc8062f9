use Rattle.std.proofs.Common.{◌≡◌, map, take}
use Rattle.edb_guards.specs.Views.{value_of}
use Rattle.edb_stack.specs.Redexes.{values_in}
use Rattle.edb_path.proofs.seen.see_all.Given as goal

abbrev pub invariant-loop-item : goal.invariant-loop-item
invariant-loop-item l = map value_of l.seen.items ≡ values_in l.fn.variables.pairs (take l.item-index l.items)
