use Rattle.std.proofs.Common.{◌<◌, arith}
use Rattle.edb_check.proofs.Keys.{no_auto}
use Rattle.edb_check.proofs.known.is_imported.Goals as goal

pub returns-in-Err : goal.returns-in-Err
returns-in-Err c = let over : c.args.arity < 256 → ⊥ = c.in-Err.ensures in no_auto c.args.name.now c.args.arity (omega (arith, over))
