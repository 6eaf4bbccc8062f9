use Rattle.std.proofs.Common.{◌≡◌, take}
use Rattle.edb_syntax.proofs.modules.copy_exports.Given as goal

abbrev pub invariant-loop-export : goal.invariant-loop-export
invariant-loop-export l = l.copies.items ≡ take l.export-index l.exports
