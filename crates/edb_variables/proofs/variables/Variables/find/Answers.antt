use Rattle.std.proofs.Common.{sym, ◌∙◌}
use Rattle.edb_variables.proofs.Stacks.{found_there, found_nowhere}
use Rattle.edb_variables.proofs.variables.Variables.find.Goals as goal

pub returns-in-Some : goal.returns-in-Some
returns-in-Some c = c.get.ensures ∙ found_there c.args.name.now c.args.self.now.pairs c.in-Some.place (sym c.in-Some.ensures)

pub returns-in-None : goal.returns-in-None
returns-in-None c = sym (found_nowhere c.args.name.now c.args.self.now.pairs (sym c.in-None.ensures))
