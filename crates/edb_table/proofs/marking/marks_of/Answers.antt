use Rattle.std.proofs.Common.{sym, ◌∙◌}
use Rattle.edb_table.proofs.MarkLemmas.{no_marks}
use Rattle.edb_table.proofs.marking.marks_of.Goals as goal

pub returns-in-None : goal.returns-in-None
returns-in-None c = no_marks (c.args.module.now, (c.args.name.now, c.args.arity)) (sym c.find_built_in.ensures.index ∙ c.in-None.is)
