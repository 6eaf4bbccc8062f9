-- The choice of a clause: the first whose patterns match and whose guard holds.

use Rattle.std.specs.Prelude.{ℕ, if◌then◌else◌, List, [], ◌∷◌, ◌++◌, codes, Option, None, Some}
use Rattle.std.specs.Option.{option_or, option_and_then}
use Rattle.edb_lang.specs.declared.small.Class.{Class}
use Rattle.edb_lang.specs.declared.small.Class.TheVariants.{Error, Exit, Throw}
use Rattle.edb_lang.specs.Terms.{Datum, atom, nil}
use Rattle.edb_lang.specs.Pairs.{Pairs}
use Rattle.edb_syntax.specs.Patterns.{Pat, any, none, more}
use Rattle.edb_syntax.specs.Syntax.{Seq, Guards, ClauseTree, Clauses, CatchTree, Catches, clause, no_clauses, more_clauses, catch_clause, no_catches, more_catches}
use Rattle.edb_moves.specs.Matching.{all_matched}
use Rattle.edb_moves.specs.Guards.{holds}

-- What a choice comes to: the bindings with what the clause bound, and the clause's sequence.
abbrev pub Choice : Type 0
Choice = Option (Pairs × Seq)

-- a clause whose patterns left these bindings, where its guard holds under them
abbrev pub guarded : ℕ → Guards → Seq → Pairs → Choice
guarded me g s bs = if holds me bs g then Some (bs, s) else None

-- A clause, where it is chosen. `sees`: the bindings that its patterns see, to which they add. `hidden`: bindings that
-- stand behind these, which the guard and the sequence see, and the patterns don't.
abbrev pub chosen_clause : ℕ → Pairs → Pairs → ClauseTree → List Datum → Choice
chosen_clause me sees hidden (clause ps g s) vs = option_and_then (λ bs. guarded me g s (bs ++ hidden)) (all_matched ps vs sees)

-- the first clause that is chosen
abbrev pub chosen : ℕ → Pairs → Pairs → Clauses → List Datum → Choice
chosen me sees hidden no_clauses vs = None
chosen me sees hidden (more_clauses c cs) vs = option_or (chosen_clause me sees hidden c vs) (chosen me sees hidden cs vs)

-- the atom of a class
abbrev pub class_atom : Class → Datum
class_atom Error = atom (codes "error")
class_atom Exit = atom (codes "exit")
class_atom Throw = atom (codes "throw")

-- the pattern of the stack; where none is written all match
abbrev pub stack_pattern : Option Pat → Pat
stack_pattern (Some s) = s
stack_pattern None = any 0

-- A clause behind `catch`, where it is chosen for an exception: its class, its pattern and its stack are matched with the
-- class, the reason and the stack, which is always `[]`.
abbrev pub handling_clause : ℕ → Pairs → CatchTree → Class → Datum → Choice
handling_clause me kept (catch_clause k p s g body) c v =
    option_and_then (λ bs. guarded me g body bs) (all_matched (more k (more p (more (stack_pattern s) none))) (class_atom c ∷ v ∷ nil ∷ []) kept)

-- the first of these that is chosen
abbrev pub handler : ℕ → Pairs → Catches → Class → Datum → Choice
handler me kept no_catches c v = None
handler me kept (more_catches h hs) c v = option_or (handling_clause me kept h c v) (handler me kept hs c v)
