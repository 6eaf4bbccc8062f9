-- Scopes as the code has them.

use Rattle.std.specs.Prelude.{ℕ, zero, suc, ◌+◌, ◌-◌, ◌<◌, ◌≤◌, List, [], ◌∷◌, ◌++◌, Some, true, false, ◌==◌, if◌then◌else◌, length, take, drop, map, slice_set}
use Rattle.std.proofs.Common.{◌≡◌, refl, sym, get_or, ap, ◌∙◌, arith}
use Rattle.std.proofs.lemmas.List.{map-append, take-map, drop-map, take_more}
use Rattle.std.proofs.lemmas.Bool.Decides.{nat_tests}
use Rattle.edb_lang.specs.TermText.{same_name}
use Rattle.edb_check.specs.declared.scope.Bound.{Bound}
use Rattle.edb_check.specs.declared.status.Status.TheVariants.{Partly}
use Rattle.edb_check.specs.Scopes.{Scope, partly, lookup, meets}
use Rattle.edb_check.specs.Views.{binding_of, scope_of}
use Rattle.edb_check.proofs.Walking.{lookup-push}

-- a look-up in the first bindings, by the last of them
pub lookup-take : (x : List ℕ) (bs : List Bound) (i n : ℕ) (b : Bound) → i + 1 ≡ n → n ≤ length bs → b ≡ get_or bs i b → lookup x (scope_of (take n bs)) ≡ (if same_name b.name.now x then Some b.status else lookup x (scope_of (take i bs)))
lookup-take x bs i n b next le is =
    ap (λ cs. lookup x (scope_of cs)) (ap (λ j. take j bs) (sym next) ∙ take_more bs i b (omega arith) ∙ ap (λ d. take i bs ++ d ∷ []) (sym is))
    ∙ ap (lookup x) (map-append binding_of (take i bs) (b ∷ []))
    ∙ lookup-push x (scope_of (take i bs)) (binding_of b)

abbrev pub weak : Bound → Bound
weak b = record { name = b.name; status = Partly }

-- the bindings, n of them behind the first m made bound on some ways alone
abbrev pub weakened : ℕ → ℕ → List Bound → List Bound
weakened m n [] = []
weakened zero zero (b ∷ bs) = b ∷ bs
weakened zero (suc n) (b ∷ bs) = weak b ∷ weakened zero n bs
weakened (suc m) n (b ∷ bs) = b ∷ weakened m n bs

pub weakened_none : (m : ℕ) (bs : List Bound) → bs ≡ weakened m 0 bs
weakened_none m [] = refl
weakened_none zero (b ∷ bs) = refl
weakened_none (suc m) (b ∷ bs) = ap (λ cs. b ∷ cs) (weakened_none m bs)

-- one more of them
pub weakened_more : (m n i : ℕ) (d : Bound) (bs : List Bound) → m + n ≡ i → i < length bs → slice_set (weakened m n bs) i (weak (get_or (weakened m n bs) i d)) ≡ weakened m (suc n) bs
weakened_more m n i d [] e lt = absurd (omega arith)
weakened_more zero zero zero d (b ∷ bs) e lt = ap (λ cs. weak b ∷ cs) (weakened_none zero bs)
weakened_more zero zero (suc i) d (b ∷ bs) e lt = absurd (omega arith)
weakened_more zero (suc n) zero d (b ∷ bs) e lt = absurd (omega arith)
weakened_more zero (suc n) (suc i) d (b ∷ bs) e lt = ap (λ cs. weak b ∷ cs) (weakened_more zero n i d bs (omega arith) (omega arith))
weakened_more (suc m) n zero d (b ∷ bs) e lt = absurd (omega arith)
weakened_more (suc m) n (suc i) d (b ∷ bs) e lt = ap (λ cs. b ∷ cs) (weakened_more m n i d bs (omega arith) (omega arith))

pub weakened_step : (m i : ℕ) (d : Bound) (bs cs : List Bound) → m ≤ i → i < length bs → cs ≡ weakened m (i - m) bs → slice_set cs i (weak (get_or cs i d)) ≡ weakened m (i + 1 - m) bs
weakened_step m i d bs cs le lt is =
    ap (λ cs. slice_set cs i (weak (get_or cs i d))) is
    ∙ weakened_more m (i - m) i d bs (omega arith) lt
    ∙ ap (λ k. weakened m k bs) (omega arith)

-- all of them
pub weakened_all : (m n : ℕ) (bs : List Bound) → length bs ≤ m + n → scope_of (weakened m n bs) ≡ take m (scope_of bs) ++ map partly (drop m (scope_of bs))
weakened_all zero n [] le = refl
weakened_all (suc m) n [] le = refl
weakened_all zero zero (b ∷ bs) le = absurd (omega arith)
weakened_all zero (suc n) (b ∷ bs) le = ap (λ cs. partly (binding_of b) ∷ cs) (weakened_all zero n bs (omega arith))
weakened_all (suc m) n (b ∷ bs) le = ap (λ cs. binding_of b ∷ cs) (weakened_all m n bs (omega arith))

-- parts of the scope that contracts see are those of the list that the code has
pub views_take : (bs : List Bound) (n : ℕ) (cs : Scope) → scope_of bs ≡ cs → scope_of (take n bs) ≡ take n cs
views_take bs n cs is = sym (take-map binding_of n bs) ∙ ap (take n) is

pub views_drop : (bs : List Bound) (n : ℕ) (cs : Scope) → scope_of bs ≡ cs → scope_of (drop n bs) ≡ drop n cs
views_drop bs n cs is = sym (drop-map binding_of n bs) ∙ ap (drop n) is

pub ruleset views = (views_take, views_drop)

-- where nothing is bound no name is
nothing_meets : (xs : List (List ℕ)) → false ≡ meets [] xs
nothing_meets [] = refl
nothing_meets (x ∷ xs) = nothing_meets xs

pub meets_none : (bs : List Bound) (xs : List (List ℕ)) → (length bs == 0) ≡ true → false ≡ meets (scope_of bs) xs
meets_none [] xs none = nothing_meets xs
meets_none (b ∷ bs) xs none = absurd (grind (arith, nat_tests))
