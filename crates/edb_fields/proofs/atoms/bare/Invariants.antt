use Rattle.std.proofs.Common.{◌≡◌, [], length}
use Rattle.edb_fields.specs.Atoms.{bare_at}
use Rattle.edb_fields.proofs.atoms.bare.Given as goal

-- what the bytes that are left give is what all give
abbrev pub invariant-loop-byte : goal.invariant-loop-byte
invariant-loop-byte l = bare_at l.name.items l.rest ≡ bare_at [] l.fn.bytes

abbrev pub decreases-loop-byte : goal.decreases-loop-byte
decreases-loop-byte l = length l.rest
