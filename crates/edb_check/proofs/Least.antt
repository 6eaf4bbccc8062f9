-- The least of faults is the first, and one alone is.

use Rattle.std.specs.Prelude.{ℕ, zero, suc, ◌<◌, ◌≤◌, ◌⊎◌, ◌==◌, Bool, true, false, ◌&&◌, ◌||◌, nat_lt, if◌then◌else◌, List, [], ◌∷◌, None, Some}
use Rattle.std.proofs.Common.{◌≡◌, refl, sym, ap, subst, ◌∙◌, inl, inr, ⊎_elim, arith}
use Rattle.std.proofs.lemmas.Bool.Decides.{nat_tests}
use Rattle.std.proofs.lemmas.Bool.{cases_lt}
use Rattle.std.specs.List.{Contains, All}
use Rattle.edb_check.specs.declared.fault.CheckFault.{CheckFault}
use Rattle.edb_check.specs.declared.fault.CheckKind.{CheckKind}
use Rattle.edb_check.specs.declared.fault.CheckKind.TheVariants.{Unbound, Unsafe, Sibling, Float, Undefined, Duplicate, NotExported, BadGuard}
use Rattle.edb_check.specs.Faults.{rank, NoLater, IsFirst}
use Rattle.edb_check.specs.Walking.{before, better, least}

not_after : (a b r s : ℕ) → (nat_lt a b || (a == b && nat_lt r s)) ≡ false → (b < a) ⊎ ((b ≡ a) × (s ≤ r))
not_after a b r s e =
    ⊎_elim (λ (lt : b < a). inl lt)
    (λ (le : a ≤ b). inr (let same : b ≡ a = grind (arith, nat_tests) in same, let least : s ≤ r = grind (arith, nat_tests) in least))
    (cases_lt b a)

is_before : (a b r s : ℕ) → (nat_lt a b || (a == b && nat_lt r s)) ≡ true → (a < b) ⊎ ((a ≡ b) × (r ≤ s))
is_before a b r s e =
    ⊎_elim (λ (lt : a < b). inl lt)
    (λ (le : b ≤ a). inr (let same : a ≡ b = grind (arith, nat_tests) in same, let least : r ≤ s = grind (arith, nat_tests) in least))
    (cases_lt a b)

no_later_chain : (f g h : CheckFault) → NoLater f g → NoLater g h → NoLater f h
no_later_chain f g h p q =
    ⊎_elim
    (λ (a : f.line < g.line). ⊎_elim (λ (b : g.line < h.line). inl (let lt : f.line < h.line = omega arith in lt)) (λ (b : (g.line ≡ h.line) × (rank g.kind ≤ rank h.kind)). inl (let lt : f.line < h.line = omega (arith, b.0) in lt)) q)
    (λ (a : (f.line ≡ g.line) × (rank f.kind ≤ rank g.kind)). ⊎_elim (λ (b : g.line < h.line). inl (let lt : f.line < h.line = omega (arith, a.0) in lt))
    (λ (b : (g.line ≡ h.line) × (rank g.kind ≤ rank h.kind)). inr (a.0 ∙ b.0, let le : rank f.kind ≤ rank h.kind = omega (arith, a.1, b.1) in le)) q)
    p

no_later_itself : (f : CheckFault) → NoLater f f
no_later_itself f = inr (refl, omega arith)

-- the better of two faults is one of them, and comes after neither
record Better (g h b : CheckFault) : Type 0 where
  one : (b ≡ g) ⊎ (b ≡ h)
  first : NoLater b g
  second : NoLater b h

better_is : (g h : CheckFault) → Better g h (if before h g then h else g)
better_is g h = by (before h g) refl
  where
    by : (c : Bool) → before h g ≡ c → Better g h (if c then h else g)
    by true e = record { one = inr refl; first = is_before h.line g.line (rank h.kind) (rank g.kind) e; second = no_later_itself h }
    by false e = record { one = inl refl; first = no_later_itself g; second = not_after h.line g.line (rank h.kind) (rank g.kind) e }

-- of a first fault and the better of two, those of the two
first_of_three : (f g h b : CheckFault) (fs : List CheckFault) → Better g h b → IsFirst f (b ∷ fs) → IsFirst f (g ∷ h ∷ fs)
first_of_three f g h b fs better is = record {
  there = there is.there;
  first = first;
}
  where
    there : Contains (b ∷ fs) f → Contains (g ∷ h ∷ fs) f
    there (zero, lt, e) = ⊎_elim (λ (same : b ≡ g). (0, omega arith, sym same ∙ e)) (λ (same : b ≡ h). (1, omega arith, sym same ∙ e)) better.one
    there (suc k, lt, e) = (suc (suc k), omega arith, e)

    first : All (NoLater f) (g ∷ h ∷ fs)
    first zero d lt = no_later_chain f b g (is.first 0 d (omega arith)) better.first
    first (suc zero) d lt = no_later_chain f b h (is.first 0 d (omega arith)) better.second
    first (suc (suc k)) d lt = is.first (suc k) d (omega arith)

-- the least of faults, begun with one, is the first of all
found : (g : CheckFault) (fs : List CheckFault) → (f : CheckFault) × ((least (Some g) fs ≡ Some f) × IsFirst f (g ∷ fs))
found g [] = (g, (refl, record { there = (0, omega arith, refl); first = itself }))
  where
    itself : All (NoLater g) (g ∷ [])
    itself zero d lt = no_later_itself g
    itself (suc k) d lt = absurd (omega arith)
found g (h ∷ fs) =
    let b = if before h g then h else g in
    let rest = found b fs in
    (rest.0, (rest.1.0, first_of_three rest.0 g h b fs (better_is g h) rest.1.1))

-- a list whose least is none has no fault, and any other least is the first of the list
pub least_none : (fs : List CheckFault) → None ≡ least None fs → fs ≡ []
least_none [] e = refl
least_none (g ∷ fs) e = let other : None ≡ Some (found g fs).0 = e ∙ (found g fs).1.0 in cc

pub least_some : (fs : List CheckFault) (f : CheckFault) → Some f ≡ least None fs → IsFirst f fs
least_some [] f e = cc
least_some (g ∷ fs) f e =
    let rest = found g fs in
    let some : Some f ≡ Some rest.0 = e ∙ rest.1.0 in
    let same : rest.0 ≡ f = cc in
    subst (λ h. IsFirst h (g ∷ fs)) same rest.1.1

kind_of : ℕ → CheckKind
kind_of zero = Unbound
kind_of (suc zero) = Unsafe
kind_of (suc (suc zero)) = Sibling
kind_of (suc (suc (suc zero))) = Float
kind_of (suc (suc (suc (suc zero)))) = Undefined
kind_of (suc (suc (suc (suc (suc zero))))) = Duplicate
kind_of (suc (suc (suc (suc (suc (suc zero)))))) = NotExported
kind_of (suc (suc (suc (suc (suc (suc (suc n))))))) = BadGuard

kind_back : (k : CheckKind) → kind_of (rank k) ≡ k
unfolding kind_of
kind_back Unbound = refl
kind_back Unsafe = refl
kind_back Sibling = refl
kind_back Float = refl
kind_back Undefined = refl
kind_back Duplicate = refl
kind_back NotExported = refl
kind_back BadGuard = refl

-- a fault among faults is at one of their places
among : (P : CheckFault → Type 0) (fs : List CheckFault) (f : CheckFault) → All P fs → Contains fs f → P f
among P fs f all (k, lt, e) = subst P e (all k f lt)

pub one_first : (fs : List CheckFault) (f g : CheckFault) → IsFirst f fs → IsFirst g fs → f ≡ g
one_first fs f g p q =
    let a = among (NoLater f) fs g p.first q.there in
    let b = among (NoLater g) fs f q.first p.there in
    let parts = both a b in
    λ i. record { line = parts.0 i; kind = (sym (kind_back f.kind) ∙ ap kind_of parts.1 ∙ kind_back g.kind) i }
  where
    both : NoLater f g → NoLater g f → (f.line ≡ g.line) × (rank f.kind ≡ rank g.kind)
    both a b =
        ⊎_elim
        (λ (lt : f.line < g.line). ⊎_elim (λ (gt : g.line < f.line). absurd (omega arith)) (λ (e : (g.line ≡ f.line) × (rank g.kind ≤ rank f.kind)). absurd (omega (arith, e.0))) b)
        (λ (e : (f.line ≡ g.line) × (rank f.kind ≤ rank g.kind)). ⊎_elim (λ (gt : g.line < f.line). absurd (omega (arith, e.0)))
        (λ (d : (g.line ≡ f.line) × (rank g.kind ≤ rank f.kind)). (e.0, let same : rank f.kind ≡ rank g.kind = omega (arith, e.1, d.1) in same)) b)
        a

-- there is a first fault wherever there is one
pub some_first : (fs : List CheckFault) → (fs ≡ []) ⊎ ((f : CheckFault) × IsFirst f fs)
some_first [] = inl refl
some_first (g ∷ fs) = let rest = found g fs in inr (rest.0, rest.1.1)

pub none_first : (fs : List CheckFault) (f : CheckFault) → fs ≡ [] → IsFirst f fs → ⊥
none_first [] f e is = nothing is.there
  where
    nothing : Contains [] f → ⊥
    nothing (k, lt, e) = omega arith
none_first (g ∷ fs) f e is = cc
