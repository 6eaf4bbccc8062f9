use Rattle.std.proofs.Common.{arith}
use Rattle.edb_lang.proofs.Lists.{most-size_le-made}
use Rattle.edb_lang.proofs.term.+copy_term.Goals as goal

pub FunValue::copy-copy_captured-requires : goal.FunValue::copy-copy_captured-requires
FunValue::copy-copy_captured-requires t c =
    (omega (arith, most-size_le-made c.in-Made.is c.deref.ensures.value), tt)
