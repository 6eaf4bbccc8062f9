use Rattle.std.proofs.Common.{◌≡◌, ◌++◌, drop}
use Rattle.edb_check.specs.Scopes.{outer}
use Rattle.edb_check.specs.Views.{names_of}
use Rattle.edb_check.proofs.names.add_outer.Given as goal

abbrev pub invariant-loop-name : goal.invariant-loop-name
invariant-loop-name l = names_of l.names.items ++ outer (drop l.from l.scope) (names_of (drop l.name-index l.more)) ≡ names_of l.initial.names.items ++ outer (drop l.from l.scope) (names_of l.more)
