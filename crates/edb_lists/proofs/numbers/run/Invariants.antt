use Rattle.std.proofs.Common.{◌≡◌, map}
use Rattle.std.specs.Prelude.{pos, ◌+ℤ◌}
use Rattle.std.specs.List.{range_with_len}
use Rattle.edb_lang.specs.Terms.{int}
use Rattle.edb_lists.proofs.numbers.run.Given as goal

-- those so far
abbrev pub invariant-loop-step : goal.invariant-loop-step
invariant-loop-step l = l.made.items ≡ map (λ n. int (l.from +ℤ pos n)) (range_with_len 0 l.step)
