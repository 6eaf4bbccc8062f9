use Rattle.std.proofs.Common.{◌≡◌, map, take}
use Rattle.edb_calls.proofs.terms.copies.Given as goal

abbrev pub invariant-loop-term : goal.invariant-loop-term
invariant-loop-term l = l.copies.items ≡ map (λ t. t.now) (take l.term-index l.terms)
