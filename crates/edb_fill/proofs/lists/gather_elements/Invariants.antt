use Rattle.std.proofs.Common.{◌≡◌, ◌++◌}
use Rattle.edb_lang.specs.Terms.{elements}
use Rattle.edb_fill.proofs.lists.gather_elements.Given as goal

abbrev pub invariant-loop-rest : goal.invariant-loop-rest
invariant-loop-rest l = l.gathered.items ++ elements l.rest ≡ l.fn.gathered.items ++ elements l.fn.list
