-- The layers of a machine: what stands round the redex of a running expression, the innermost first.
--
-- A layer copies no bindings. Those of a Body are one stack of pairs; what a running expression keeps of them is a mark
-- here, how many pairs there were, and an operand may be the pair at a place of that stack.

use Rattle.std.specs.Prelude.{ℕ, List}
use Rattle.edb_lang.specs.Terms.{Datum}
use Rattle.edb_syntax.specs.Syntax.{Exps, Seq, Clauses, Catches}
use Rattle.edb_moves.specs.Running.{Doing, Info, Frame}

-- an operand that is evaluated: a value, or that of the pair at a place, counted from 0 for the oldest
pub data Item : Type 0 where
  held : Datum → Item
  placed : ℕ → Item

pub data Layer : Type 0 where
  -- operands: what is done with them, those that are evaluated, and those behind the one that is
  operands : Doing → List Item → Exps → Layer
  -- a frame that has no bindings of its own and keeps none
  frame : Frame → Layer
  -- a scope; an opened `catch`; an opened `try` with its clauses; an `after` that waits. Each with the mark of the bindings
  -- that it keeps
  scope : ℕ → Layer
  caught : ℕ → Layer
  tried : ℕ → Clauses → Catches → Layer
  waiting : ℕ → Seq → Layer
  -- the Body within this one, and what is left of this one's own layers lies behind
  body : Info → Layer
