use Rattle.std.proofs.Common.{◌≡◌, replicate}
use Rattle.edb_lists.proofs.build.repeated.Given as goal

abbrev pub invariant-loop : goal.invariant-loop
invariant-loop l = l.made.items ≡ replicate l.counter l.item
