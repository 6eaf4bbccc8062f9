use Rattle.std.proofs.Common.{◌≡◌, [], length}
use Rattle.edb_fields.specs.Atoms.{unquoted_at}
use Rattle.edb_fields.specs.declared.atoms.Quote.TheVariants.{Plain}
use Rattle.edb_fields.proofs.atoms.unquoted.Given as goal

-- what the bytes that are left give is what all give
abbrev pub invariant-loop-byte : goal.invariant-loop-byte
invariant-loop-byte l = unquoted_at l.quote l.name.items l.rest ≡ unquoted_at Plain [] l.fn.bytes

abbrev pub decreases-loop-byte : goal.decreases-loop-byte
decreases-loop-byte l = length l.rest
