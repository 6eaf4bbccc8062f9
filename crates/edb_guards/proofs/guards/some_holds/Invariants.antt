use Rattle.std.proofs.Common.{◌≡◌, drop}
use Rattle.edb_syntax.specs.Syntax.{guards_of}
use Rattle.edb_moves.specs.Guards.{some_holds}
use Rattle.edb_guards.specs.Views.{scope_pairs}
use Rattle.edb_guards.proofs.guards.some_holds.Given as goal

-- whether one of those that are left holds is whether one of all does
abbrev pub invariant-loop-alternative : goal.invariant-loop-alternative
invariant-loop-alternative l = some_holds l.me (scope_pairs l.scope) (guards_of (drop l.alternative-index l.alternatives)) ≡ some_holds l.me (scope_pairs l.scope) (guards_of l.alternatives)
