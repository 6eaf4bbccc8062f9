use Rattle.std.proofs.Common.{◌≡◌, take}
use Rattle.edb_syntax.proofs.modules.copy_functions.Given as goal

abbrev pub invariant-loop-function : goal.invariant-loop-function
invariant-loop-function l = l.copies.items ≡ take l.function-index l.functions
