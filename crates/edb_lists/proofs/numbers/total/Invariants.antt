use Rattle.std.proofs.Common.{◌≡◌, ◌≤◌, map, drop}
use Rattle.std.specs.Prelude.{pos, ◌+ℤ◌}
use Rattle.std.specs.List.{fold}
use Rattle.std.specs.Option.{option_map}
use Rattle.edb_pure.specs.Integers.{integer_of}
use Rattle.edb_pure.specs.Lists.{each}
use Rattle.edb_lists.specs.Totals.{total_of}
use Rattle.edb_lists.proofs.numbers.total.Given as goal

-- the sum so far and the integers that are left make the total; the range was left at most once for each that was read
abbrev pub invariant-loop-place : goal.invariant-loop-place
invariant-loop-place l = record {
  sum : option_map (fold ◌+ℤ◌ (total_of l.total.value l.total.over l.total.under)) (each integer_of (drop l.place (map (λ t. t.now) l.items))) ≡ option_map (fold ◌+ℤ◌ (pos 0)) (each integer_of (map (λ t. t.now) l.items));
  over : l.total.over ≤ l.place;
  under : l.total.under ≤ l.place;
}
