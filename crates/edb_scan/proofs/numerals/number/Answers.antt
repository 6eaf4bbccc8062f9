use Rattle.std.proofs.Common.{◌^◌}
use Rattle.edb_scan.proofs.NumeralLemmas.{number_too_large}
use Rattle.edb_scan.proofs.numerals.number.Goals as goal

pub returns-in-None : goal.returns-in-None
returns-in-None c = number_too_large c.args.base c.loop-byte.number (2 ^ 127) c.args.text.now c.loop-byte.byte-index c.requires c.loop-byte-test.true c.if-byte-ne95.true c.loop-byte.invariant.so_far c.in-None.ensures
