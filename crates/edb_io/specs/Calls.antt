-- The numbers of the calls of a file or a sink in memory.
use Rattle.std.specs.Prelude.{ℕ, ◌+◌, ◌-◌, ◌^◌, min, List, [], ◌∷◌}

-- The number of the call that follows so many calls: one more, and from 2^64 - 1 on always that.
abbrev pub next_call : ℕ → ℕ
next_call calls = min (calls + 1) (2 ^ 64 - 1)

-- How many calls there were once this piece was written: a write of no bytes isn't counted.
abbrev pub calls_after : ℕ → List ℕ → ℕ
calls_after calls [] = calls
calls_after calls (_ ∷ _) = next_call calls
