use Rattle.std.proofs.Common.{◌≡◌, ◌++◌, take}
use Rattle.edb_values.proofs.tuples.copy_onto.Given as goal

-- the terms so far are put
abbrev pub invariant-loop-term : goal.invariant-loop-term
invariant-loop-term l = l.copies.items ≡ l.fn.copies.items ++ take l.term-index l.terms
