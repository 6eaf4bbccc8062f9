use Rattle.std.proofs.Common.{codes}
use Rattle.edb_fields.specs.Reading.{space_at}
use Rattle.edb_fields.proofs.Told.{follows_told, not_follows_told}
use Rattle.edb_fields.proofs.Follows.{byte_follows}
use Rattle.edb_fields.proofs.front.read_space.Goals as goal

pub returns-clause-found : goal.returns-clause-found
returns-clause-found c = follows_told (codes " ") c.args.bytes.now (λ x. x.now) (space_at c.args.bytes.now) (byte_follows 32 c.args.bytes.now) c.after_byte.result c.after_byte.ensures.read

pub returns-clause-none : goal.returns-clause-none
returns-clause-none c = not_follows_told (codes " ") c.args.bytes.now (λ x. x.now) (space_at c.args.bytes.now) (byte_follows 32 c.args.bytes.now) c.after_byte.result c.after_byte.ensures.read
