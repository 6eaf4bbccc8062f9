use Rattle.std.proofs.Common.{sym, ap, ◌∙◌}
use Rattle.edb_operators.proofs.Removal.{nows, removed}
use Rattle.edb_operators.proofs.joins.remove_first.Goals as goal

pub returns-in-Some : goal.returns-in-Some
returns-in-Some c = ap nows c.remove.ensures.items ∙ removed _ _ ∙ sym (rw c.deref.ensures.value at c.in-Some.ensures.first)
