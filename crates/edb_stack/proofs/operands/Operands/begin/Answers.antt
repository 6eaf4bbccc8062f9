use Rattle.std.proofs.Common.{map, sym, subst}
use Rattle.edb_stack.specs.Marks.{AllBelow}
use Rattle.edb_stack.specs.Views.{item_of}
use Rattle.edb_stack.proofs.operands.Operands.begin.Goals as goal

pub returns-clause-below : goal.returns-clause-below
returns-clause-below c = λ n. c.advance.ensures.below n (subst (λ xs. AllBelow n (map item_of xs)) (sym c.in_ok-done.ensures.items) tt)
