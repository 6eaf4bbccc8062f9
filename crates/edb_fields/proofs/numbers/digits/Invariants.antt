use Rattle.std.proofs.Common.{◌≡◌, ◌≤◌, length}
use Rattle.edb_fields.specs.Numerals.{digits_at}
use Rattle.edb_fields.proofs.numbers.digits.Given as goal

-- what the digits that are left give is what all give
abbrev pub invariant-loop-digit : goal.invariant-loop-digit
invariant-loop-digit l = record { read : digits_at l.most l.number l.rest ≡ digits_at l.most 0 l.fn.bytes; bound : l.number ≤ l.most }

abbrev pub decreases-loop-digit : goal.decreases-loop-digit
decreases-loop-digit l = length l.rest
