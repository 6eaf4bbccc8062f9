-- Calls of funs.

use Rattle.std.proofs.Common.{◌≡◌, ◌≢◌, ℕ, ◌==◌, true, false, List, [], ◌∷◌, ◌++◌, length, reverse, codes, Some, Result, Ok, Err, IfOk, Box, Global, refl, ap, sym, subst, ◌∙◌, arith}
use Rattle.std.proofs.lemmas.Bool.Decides.{nat_tests}
use Rattle.std.proofs.lemmas.List.{reverse-append}
use Rattle.edb_lang.specs.declared.term.Captured.{Captured}
use Rattle.edb_lang.specs.declared.term.FunValue.{FunValue}
use Rattle.edb_lang.specs.declared.term.Node.{Node}
use Rattle.edb_lang.specs.declared.term.Node.TheVariants.{Int, Atom, Ref, Fun, Pid, Tuple, Nil, List as Cons}
use Rattle.edb_lang.specs.TermViews.{captures_in, datum_of}
use Rattle.edb_lang.specs.declared.small.Class.{Class}
use Rattle.edb_lang.specs.Terms as term
use Rattle.edb_lang.specs.Terms.{Datum, Captures}
use Rattle.edb_syntax.specs.Syntax.{ModuleTree}
use Rattle.edb_syntax.specs.Lookup.{version_in}
use Rattle.edb_syntax.specs.FunForms.{Form, form_at}
use Rattle.edb_moves.specs.Going.{Place, raises}
use Rattle.edb_moves.specs.Raises.{fails_with, fails_by_arity}
use Rattle.edb_moves.specs.Calls.{captured_pairs, form_call, fun_call}
use Rattle.edb_path.specs.Plans.{effect}
use Rattle.edb_path.specs.declared.plan.Plan.{Plan}
use Rattle.edb_path.specs.declared.plan.Plan.TheVariants.{Gives, Passes, Turns, Enters, Replaces, Raises}
use Rattle.edb_calls.specs.Alone.{IsAlone}
use Rattle.edb_variables.specs.PairStacks.{newest_first}
use Rattle.edb_variables.proofs.Stacks.{newest_first-push}

-- what a fun took along, as the pairs of a Body
pub taken : (cs : List Captured) → newest_first (reverse cs) ≡ captured_pairs (captures_in cs)
taken [] = refl
taken (c ∷ cs) = ap newest_first (reverse-append (c ∷ []) cs) ∙ newest_first-push (reverse cs) c ∙ ap (λ ps. (c.name, c.value) ∷ ps) (taken cs)

-- a plan that raises needs nothing round it
pub raised_alone : (p : Place) (v : Datum) (plan : Plan) (c : Class) (r : Datum) → effect p v plan ≡ raises c r → IsAlone plan
raised_alone p v (Gives x) c r e = tt
raised_alone p v (Passes new) c r e = absurd (cc)
raised_alone p v (Turns new w) c r e = absurd (cc)
raised_alone p v (Enters b s) c r e = tt
raised_alone p v (Replaces b s) c r e = tt
raised_alone p v (Raises x) c r e = tt

other_count : (a n : ℕ) → a ≢ n → (a == n) ≡ false
other_count a n ne = grind (arith, nat_tests)

same_count : (a n : ℕ) → a ≡ n → (a == n) ≡ true
same_count a n e = grind (arith, nat_tests)

-- A call of a fun with another number of arguments than it has parameters
pub made_otherwise : (code : List ModuleTree) (p : Place) (m : List ℕ) (k i a n : ℕ) (cs : Captures) (f : Datum) (vs : List Datum) → f ≡ term.made m k i a cs → n ≡ length vs → a ≢ n
    → fails_by_arity f vs ≡ fun_call code p f vs
made_otherwise code p m k i a n cs f vs is count ne =
    let other : (a == length vs) ≡ false = ap (λ j. a == j) (sym count) ∙ other_count a n ne in
    rw (is, other) refl

pub named_otherwise : (code : List ModuleTree) (p : Place) (m g : List ℕ) (a n : ℕ) (f : Datum) (vs : List Datum) → f ≡ term.named m g a → n ≡ length vs → a ≢ n
    → fails_by_arity f vs ≡ fun_call code p f vs
named_otherwise code p m g a n f vs is count ne =
    let other : (a == length vs) ≡ false = ap (λ j. a == j) (sym count) ∙ other_count a n ne in
    rw (is, other) refl

-- and with as many: the form that made it
pub made_called : (code : List ModuleTree) (p : Place) (m : List ℕ) (k i a n : ℕ) (cs : Captures) (f : Datum) (vs : List Datum) (x : ModuleTree) (form : Form) → f ≡ term.made m k i a cs → n ≡ length vs → a ≡ n
    → version_in code m k ≡ Some x → form_at x i ≡ Some form → form_call p x k a cs form vs ≡ fun_call code p f vs
made_called code p m k i a n cs f vs x form is count same here there =
    let equal : (a == length vs) ≡ true = ap (λ j. a == j) (sym count) ∙ same_count a n same in
    rw (is, equal, here, there) refl

pub ok_alone : {E : Type 0} (r : Result Plan E) (p : Place) (v : Datum) (c : Class) (d : Datum) → IfOk r (λ plan. effect p v plan ≡ raises c d) → IfOk r IsAlone
ok_alone (Ok plan) p v c d e = raised_alone p v plan c d e
ok_alone (Err x) p v c d e = e

-- what is no fun, called
by_node : (code : List ModuleTree) (p : Place) (n : Node) (vs : List Datum) → ((f : Box FunValue Global) → n ≡ Fun f → ⊥)
    → fails_with (codes "badfun") (datum_of n) ≡ fun_call code p (datum_of n) vs
by_node code p (Int i) vs other = refl
by_node code p (Atom a) vs other = refl
by_node code p (Ref r) vs other = refl
by_node code p (Fun f) vs other = absurd (other f refl)
by_node code p (Pid q) vs other = refl
by_node code p (Tuple ts) vs other = refl
by_node code p Nil vs other = refl
by_node code p (Cons l) vs other = refl

pub no_fun : (code : List ModuleTree) (p : Place) (n : Node) (t : Datum) (vs : List Datum) → datum_of n ≡ t → ((f : Box FunValue Global) → n ≡ Fun f → ⊥)
    → fails_with (codes "badfun") t ≡ fun_call code p t vs
no_fun code p n t vs e other = subst (λ u. fails_with (codes "badfun") u ≡ fun_call code p u vs) e (by_node code p n vs other)
