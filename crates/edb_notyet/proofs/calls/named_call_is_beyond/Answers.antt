use Rattle.std.proofs.Common.{◌<◌, sym, arith}
use Rattle.edb_notyet.proofs.Arities.{no_built_in}
use Rattle.edb_notyet.proofs.calls.named_call_is_beyond.Goals as goal

pub returns-in-Err : goal.returns-in-Err
returns-in-Err c = let over : c.args.arity < 256 → ⊥ = c.in-Err.ensures in sym (no_built_in c.args.home.now c.args.name.now c.args.arity (omega (arith, over)))
