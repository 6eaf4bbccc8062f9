use Rattle.std.proofs.Common.{◌^◌}
use Rattle.edb_values.proofs.TextLemmas.{number_too_large}
use Rattle.edb_values.proofs.texts.number_of.Goals as goal

-- src/texts.rt: the digits so far are too large
pub returns-in-None : goal.returns-in-None
returns-in-None c = number_too_large (2 ^ 128) c.loop-c.number c.c-item.result c.args.digits.now c.loop-c.c-index c.loop-c-test.true c.loop-c.invariant c.c-item.is c.in-None.ensures
