use Rattle.std.proofs.Common.{◌<◌, sym, arith}
use Rattle.edb_notyet.proofs.Arities.{no_imported}
use Rattle.edb_notyet.proofs.calls.local_call_is_beyond.Goals as goal

pub returns-in-Err : goal.returns-in-Err
returns-in-Err c = let over : c.args.arity < 256 → ⊥ = c.in-Err.ensures in sym (no_imported _ _ c.args.name.now c.args.arity (omega (arith, over)))
