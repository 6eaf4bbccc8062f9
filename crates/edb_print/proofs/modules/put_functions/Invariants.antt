use Rattle.std.proofs.Common.{◌≡◌, ◌++◌, drop}
use Rattle.edb_print.specs.Pieces.{bytes_of}
use Rattle.edb_print.specs.Layout.{lay_functions}
use Rattle.edb_print.proofs.modules.put_functions.Given as goal

-- what was put and what is left are all
abbrev pub invariant-loop-function : goal.invariant-loop-function
invariant-loop-function l =
    l.out.items ++ bytes_of (lay_functions (drop l.function-index l.functions)) ≡ l.fn.out.items ++ bytes_of (lay_functions l.functions)
