use Rattle.std.proofs.Common.{arith}
use Rattle.edb_lang.proofs.Lists.{most-size_le-made}
use Rattle.edb_lang.proofs.term.+walk.Goals as goal

pub FunValue::walk-walk_captured-requires : goal.FunValue::walk-walk_captured-requires
FunValue::walk-walk_captured-requires t c =
    (omega (arith, most-size_le-made c.in-Made.is c.deref.ensures.value), tt)
