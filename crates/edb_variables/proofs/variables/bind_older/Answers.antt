use Rattle.std.proofs.Common.{sym}
use Rattle.edb_variables.proofs.Stacks.{with_pair-bound}
use Rattle.edb_variables.proofs.variables.bind_older.Goals as goal

pub returns-in-Some : goal.returns-in-Some
returns-in-Some c = let h = c.in-Some.ensures in sym (with_pair-bound c.args.pair.now.name c.args.pair.now.value c.args.bindings.now c.requires (λ e. absurd (cc)))
