use Rattle.std.proofs.Common.{◌≡◌, None, option_copied}
use Rattle.edb_values.specs.Found.{found_from}
use Rattle.edb_values.proofs.bindings.lookup.Given as goal

-- what was found so far, and what is left
abbrev pub invariant-loop-rest : goal.invariant-loop-rest
invariant-loop-rest l = found_from (option_copied l.found) l.name l.rest ≡ found_from None l.name l.list
