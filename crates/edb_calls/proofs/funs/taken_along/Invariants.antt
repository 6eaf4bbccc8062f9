use Rattle.std.proofs.Common.{◌≡◌, take}
use Rattle.edb_calls.proofs.funs.taken_along.Given as goal

-- those before are copied
abbrev pub invariant-loop-pair : goal.invariant-loop-pair
invariant-loop-pair l = l.pairs.items ≡ take l.pair-index l.captured
