-- The terms that tuple and list expressions make of the values of their operands, within the limits of a term.

use Rattle.std.specs.Prelude.{List, [], ◌∷◌}
use Rattle.edb_lang.specs.Terms.{Datum, nil, cons}
use Rattle.edb_pure.specs.Answers.{Answer, limited_answer, list_answer}
use Rattle.edb_pure.specs.Tuples.{tuple_answer}

-- `{A, B}`
abbrev pub tuple_built : List Datum → Answer
tuple_built = tuple_answer

-- `[A, B]`
abbrev pub list_built : List Datum → Answer
list_built = list_answer

-- terms one behind the other, of which the last is what the list ends in
abbrev pub ended_by_last : List Datum → Datum
ended_by_last [] = nil
ended_by_last (t ∷ []) = t
ended_by_last (v ∷ (w ∷ vs)) = cons v (ended_by_last (w ∷ vs))

-- `[A, B | T]`: the last operand is the tail
abbrev pub list_with_tail_built : List Datum → Answer
list_with_tail_built vs = limited_answer (ended_by_last vs)
