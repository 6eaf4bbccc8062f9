-- The loop that reads further things goes through the turns of `more`.

use Rattle.std.proofs.Common.{◌≡◌, ◌≢◌, ℕ, zero, suc, ◌<◌, List, [], ◌∷◌, ◌++◌, length, Option, None, Some, refl, sym, ◌∙◌, ap, subst, arith}
use Rattle.edb_scan.specs.declared.lexeme.Mark.TheVariants as mark
use Rattle.edb_scan.specs.declared.lexeme.Placed.{Placed}
use Rattle.edb_lang.specs.Syntax.{FunctionTree}
use Rattle.edb_small.specs.Descent.{Read, more, others, behind, all_left, function_at, functions_at}

-- with these things and tokens the reading comes to the answer
pub record Comes {A : Type 0} (next : List Placed → Option (List Placed)) (f : Read A) (xs : List A) (ts : List Placed) (answer : Option (List A × List Placed)) : Type 0 where
  pub turns : ℕ
  pub enough : length ts < turns
  pub same : more next f turns xs ts ≡ answer

pub comes_first : {A : Type 0} (f : Read A) (xs : List A) (ts : List Placed) → Comes (behind mark.Comma) f xs ts (others f xs ts)
unfolding others
comes_first f xs ts = record { turns = suc (length ts); enough = omega arith; same = refl }

pub comes_first_at : {A : Type 0} (f : Read A) (xs ys : List A) (ts : List Placed) → xs ≡ ys → Comes (behind mark.Comma) f xs ts (others f ys ts)
comes_first_at f xs ys ts e = subst (λ zs. Comes (behind mark.Comma) f zs ts (others f ys ts)) (sym e) (comes_first f ys ts)

pub functions_first : (xs : List FunctionTree) (ts : List Placed) → xs ≡ [] → Comes all_left function_at xs ts (functions_at ts)
unfolding functions_at
functions_first xs ts e =
    let first : Comes all_left function_at [] ts (more all_left function_at (suc (length ts)) [] ts) = record { turns = suc (length ts); enough = omega arith; same = refl } in
    subst (λ zs. Comes all_left function_at zs ts (more all_left function_at (suc (length ts)) [] ts)) (sym e) first

pub empty_of : (ts : List Placed) → length ts ≡ 0 → ts ≡ []
empty_of [] e = refl
empty_of (t ∷ ts) e = absurd (omega arith)

pub all_of_none : (ts : List Placed) → ts ≡ [] → all_left ts ≡ None
unfolding all_left
all_of_none [] e = refl
all_of_none (t ∷ ts) e = absurd (cc)

pub all_of_some : (ts : List Placed) → ts ≢ [] → all_left ts ≡ Some ts
unfolding all_left
all_of_some [] h = absurd (h refl)
all_of_some (t ∷ ts) h = refl

module _ {A : Type 0} (next : List Placed → Option (List Placed)) (f : Read A) (xs : List A) (ts : List Placed) where
  end_of : (turns : ℕ) → length ts < turns → next ts ≡ None → more next f turns xs ts ≡ Some (xs, ts)
  unfolding more
  end_of zero h e = absurd (omega arith)
  end_of (suc turns) h e = rw (e, more) refl

  fail_of : (us : List Placed) (turns : ℕ) → length ts < turns → next ts ≡ Some us → f us ≡ None → more next f turns xs ts ≡ None
  unfolding more
  fail_of us zero h e k = absurd (omega arith)
  fail_of us (suc turns) h e k = rw (e, k, more) refl

  turn_of : (us : List Placed) (turns : ℕ) (x : A) (vs : List Placed) → next ts ≡ Some us → f us ≡ Some (x, vs)
      → more next f (suc turns) xs ts ≡ more next f turns (xs ++ (x ∷ [])) vs
  unfolding more
  turn_of us turns x vs e k = rw (e, k, more) refl

  turned : (answer : Option (List A × List Placed)) (us : List Placed) (x : A) (vs : List Placed) (turns : ℕ) → length ts < turns → more next f turns xs ts ≡ answer
      → next ts ≡ Some us → f us ≡ Some (x, vs) → length vs < length ts → Comes next f (xs ++ (x ∷ [])) vs answer
  turned answer us x vs zero h same e k short = absurd (omega arith)
  turned answer us x vs (suc turns) h same e k short = record { turns = turns; enough = omega arith; same = sym (turn_of us turns x vs e k) ∙ same }

  module _ (answer : Option (List A × List Placed)) (c : Comes next f xs ts answer) where
    pub comes_end : next ts ≡ None → answer ≡ Some (xs, ts)
    comes_end e = sym c.same ∙ end_of c.turns c.enough e

    pub comes_end_at : next ts ≡ None → ts ≡ [] → answer ≡ Some (xs, [])
    comes_end_at e k = comes_end e ∙ ap (λ us. Some (xs, us)) k

    pub comes_fail : (us : List Placed) → next ts ≡ Some us → f us ≡ None → answer ≡ None
    comes_fail us e k = sym c.same ∙ fail_of us c.turns c.enough e k

    pub comes_turn : (us : List Placed) (x : A) (vs : List Placed) (ys : List A) → next ts ≡ Some us → f us ≡ Some (x, vs) → length vs < length ts
        → ys ≡ xs ++ (x ∷ []) → Comes next f ys vs answer
    comes_turn us x vs ys e k short is =
        subst (λ zs. Comes next f zs vs answer) (sym is) (turned answer us x vs c.turns c.enough c.same e k short)
