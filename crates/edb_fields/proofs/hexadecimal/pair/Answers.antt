use Rattle.std.proofs.Common.{sym}
use Rattle.edb_fields.proofs.HexLaws.{pair_read}
use Rattle.edb_fields.proofs.hexadecimal.pair.Goals as goal

pub returns-clause-pairs : goal.returns-clause-pairs
returns-clause-pairs c =
    λ found. pair_read found c.args.bytes.now c.in_ok-high.after.now c.in_ok-low.rest.now c.in_ok-high.high.now c.in_ok-low.low.now c.in_ok-byte.byte
    c.in_ok-high.ensures.cases.0 c.in_ok-low.ensures.cases.0 (sym c.in_ok-byte.ensures)
