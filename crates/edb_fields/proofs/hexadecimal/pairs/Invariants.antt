use Rattle.std.proofs.Common.{◌≡◌, [], length}
use Rattle.edb_fields.specs.Hexadecimal.{pairs_at}
use Rattle.edb_fields.proofs.hexadecimal.pairs.Given as goal

-- what the bytes that are left give is what all give
abbrev pub invariant-loop-byte : goal.invariant-loop-byte
invariant-loop-byte l = pairs_at l.found.items l.rest ≡ pairs_at [] l.fn.bytes

abbrev pub decreases-loop-byte : goal.decreases-loop-byte
decreases-loop-byte l = length l.rest
