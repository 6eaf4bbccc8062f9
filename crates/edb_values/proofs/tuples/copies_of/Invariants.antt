use Rattle.std.proofs.Common.{◌≡◌, map, take}
use Rattle.edb_values.proofs.tuples.copies_of.Given as goal

-- the copies so far are those of the terms so far
abbrev pub invariant-loop-term : goal.invariant-loop-term
invariant-loop-term l = l.copies.items ≡ map (λ t. t.now) (take l.term-index l.terms)
