use Rattle.std.proofs.Common.{◌≡◌, ◌++◌, List, ℕ, length}
use Rattle.std.specs.Char.{is_digit}
use Rattle.edb_scan.specs.Numerals.{Digits}
use Rattle.edb_scan.proofs.numerals.digits.Given as goal

abbrev pub invariant-loop-after : goal.invariant-loop-after
invariant-loop-after l = (run : List ℕ) × (l.bytes ≡ run ++ l.rest) × Digits (λ c. is_digit c l.base) run

abbrev pub decreases-loop-after : goal.decreases-loop-after
decreases-loop-after l = length l.rest
