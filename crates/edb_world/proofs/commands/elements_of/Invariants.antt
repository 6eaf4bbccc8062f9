use Rattle.std.proofs.Common.{◌≡◌, ◌++◌}
use Rattle.edb_lang.specs.Terms.{elements}
use Rattle.edb_world.proofs.commands.elements_of.Given as goal

-- what was copied and what is left are all
abbrev pub invariant-loop-at : goal.invariant-loop-at
invariant-loop-at l = l.items.items ++ elements l.at ≡ elements l.list
