use Rattle.std.proofs.Common.{◌<◌, arith}
use Rattle.edb_check.proofs.Keys.{no_guard_test}
use Rattle.edb_check.proofs.guards.is_test.Goals as goal

pub returns-in-Err : goal.returns-in-Err
returns-in-Err c = let over : c.args.arity < 256 → ⊥ = c.in-Err.ensures in no_guard_test c.args.home.now c.args.name.now c.args.arity (omega (arith, over))
