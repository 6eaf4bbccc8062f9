use Rattle.std.proofs.Common.{sym, ◌∙◌}
use Rattle.edb_check.specs.Views.{names_of}
use Rattle.edb_check.proofs.Bindings.{meets_none}
use Rattle.edb_check.proofs.scope.meets.Goals as goal

pub returns-then-is_empty : goal.returns-then-is_empty
returns-then-is_empty c = meets_none c.args.bindings.now (names_of c.args.names.now) (sym c.is_empty.ensures ∙ c.if-is_empty.true)
