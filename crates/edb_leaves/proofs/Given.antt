-- Values that leaves give.

use Rattle.std.proofs.Common.{◌≡◌, ◌≢◌, Bool, true, false, ℕ, List, Option, None, Some, Ok, Err, cond, unwrap_or, codes, refl, ap, subst, sym}
use Rattle.edb_lang.specs.declared.term.Limit.{Limit}
use Rattle.edb_lang.specs.Terms.{Datum, nil}
use Rattle.edb_lang.specs.Pairs.{Pairs, bound}
use Rattle.edb_pure.specs.Answers.{system_limit}
use Rattle.edb_moves.specs.Calls.{answered}
use Rattle.edb_moves.specs.Going.{Place, Effect, turns, if_some}
use Rattle.edb_moves.specs.Raises.{fails}
use Rattle.edb_moves.specs.Running.{Run, value}
use Rattle.edb_variables.specs.PairStacks.{value_at, place_bound}
use Rattle.edb_variables.proofs.Stacks.{Holds, place_holds, found_nowhere}

-- a term past a limit
pub refused : (p : Place) (t : Datum) (b : Bool) (e : Limit) → cond b (Ok t) (Err (record {})) ≡ Err e → answered p (cond b (Ok t) system_limit) ≡ fails (codes "system_limit")
refused p t true e h = absurd (cc)
refused p t false e h = refl

-- A VARIABLE, by the place of its pair
given_there : (bs : Pairs) (o b : Option Datum) (z : Effect Run) → o ≡ b → b ≢ None → turns bs (value (unwrap_or o nil)) ≡ if_some b (λ v. turns bs (value v)) z
given_there bs o (Some w) z e h = ap (λ q. turns bs (value (unwrap_or q nil))) e
given_there bs o None z e h = absurd (h refl)

pub variable_there : (x : List ℕ) (bs : Pairs) (k : ℕ) (z : Effect Run) → place_bound x bs ≡ Some k → turns bs (value (unwrap_or (value_at k bs) nil)) ≡ if_some (bound x bs) (λ v. turns bs (value v)) z
variable_there x bs k z e =
    let h : Holds bs (Some k) (bound x bs) = subst (λ o. Holds bs o (bound x bs)) e (place_holds x bs) in
    given_there bs (value_at k bs) (bound x bs) z h.1 h.2

pub variable_nowhere : (x : List ℕ) (bs : Pairs) (z : Effect Run) → place_bound x bs ≡ None → z ≡ if_some (bound x bs) (λ v. turns bs (value v)) z
variable_nowhere x bs z e = ap (λ o. if_some o (λ v. turns bs (value v)) z) (sym (found_nowhere x bs e))
