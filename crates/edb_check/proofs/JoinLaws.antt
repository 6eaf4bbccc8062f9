-- Ways that are joined bind a name as each of them does, told together.

use Rattle.std.specs.Prelude.{ℕ, Bool, true, false, if◌then◌else◌, List, [], ◌∷◌, ◌++◌, map, Option, None, Some, is_some, fold}
use Rattle.std.proofs.Common.{◌≡◌, refl, ap, ◌∙◌}
use Rattle.std.proofs.lemmas.Slice.Eq.{bytes_eq-Decides}
use Rattle.edb_lang.specs.TermText.{same_name}
use Rattle.edb_check.specs.declared.status.Status.{Status}
use Rattle.edb_check.specs.declared.status.Status.TheVariants.{Sure, Partly}
use Rattle.edb_check.specs.Scopes.{Scope, partly, first_of_two, lookup, has, both_ways, weaken, beyond, meet, join, together}

lookup-append : (x : List ℕ) (ys zs : Scope) → lookup x (ys ++ zs) ≡ first_of_two (lookup x zs) (lookup x ys)
lookup-append x [] zs = by (lookup x zs)
  where
    by : (o : Option Status) → o ≡ first_of_two o None
    by None = refl
    by (Some s) = refl
lookup-append x (y ∷ ys) zs =
    ap (λ o. first_of_two o (if same_name y.name x then Some y.status else None)) (lookup-append x ys zs)
    ∙ by (lookup x zs) (lookup x ys) (if same_name y.name x then Some y.status else None)
  where
    by : (o p q : Option Status) → first_of_two (first_of_two o p) q ≡ first_of_two o (first_of_two p q)
    by None p q = refl
    by (Some s) p q = refl

-- how a name is bound on the first way, after the second was looked at; and by what the second alone binds
weak_at : Option Status → Option Status → Option Status
weak_at o None = None
weak_at o (Some s) = Some (both_ways s o)

beyond_at : Option Status → Option Status → Option Status
beyond_at (Some s) o = None
beyond_at None None = None
beyond_at None (Some s) = Some Partly

lookup-weaken : (x : List ℕ) (zs ys : Scope) → lookup x (map (weaken zs) ys) ≡ weak_at (lookup x zs) (lookup x ys)
unfolding weak_at
lookup-weaken x zs [] = refl
lookup-weaken x zs (y ∷ ys) =
    ap (λ o. first_of_two o (if same_name y.name x then Some (both_ways y.status (lookup y.name zs)) else None)) (lookup-weaken x zs ys)
    ∙ by (same_name y.name x) (λ e. ap (λ z. lookup z zs) ((bytes_eq-Decides y.name x).0 e)) (lookup x ys)
  where
    by : (b : Bool) → (b ≡ true → lookup y.name zs ≡ lookup x zs) → (o : Option Status) →
        first_of_two (weak_at (lookup x zs) o) (if b then Some (both_ways y.status (lookup y.name zs)) else None) ≡ weak_at (lookup x zs) (first_of_two o (if b then Some y.status else None))
    by true same None = ap (λ o. Some (both_ways y.status o)) (same refl)
    by true same (Some s) = refl
    by false same None = refl
    by false same (Some s) = refl

lookup-beyond : (x : List ℕ) (ys zs : Scope) → lookup x (beyond ys zs) ≡ beyond_at (lookup x ys) (lookup x zs)
unfolding beyond_at
lookup-beyond x ys [] = by (lookup x ys)
  where
    by : (o : Option Status) → None ≡ beyond_at o None
    by None = refl
    by (Some s) = refl
lookup-beyond x ys (z ∷ zs) =
    pick (has z.name ys) (beyond ys zs)
    ∙ ap (λ o. if has z.name ys then o else first_of_two o (if same_name z.name x then Some Partly else None)) (lookup-beyond x ys zs)
    ∙ step (same_name z.name x) (has z.name ys) (lookup x ys) (lookup x zs) (λ e. ap (λ n. has n ys) ((bytes_eq-Decides z.name x).0 e))
  where
    pick : (h : Bool) (rest : Scope) → lookup x (if h then rest else partly z ∷ rest) ≡ (if h then lookup x rest else first_of_two (lookup x rest) (if same_name z.name x then Some Partly else None))
    pick true rest = refl
    pick false rest = refl

    step : (b h : Bool) (o p : Option Status) → (b ≡ true → h ≡ is_some o) →
        (if h then beyond_at o p else first_of_two (beyond_at o p) (if b then Some Partly else None)) ≡ beyond_at o (first_of_two p (if b then Some z.status else None))
    step true true None p same = let no : true ≡ false = same refl in cc
    step true true (Some s) p same = refl
    step true false None None same = refl
    step true false None (Some t) same = refl
    step true false (Some s) p same = let no : false ≡ true = same refl in cc
    step false true o None same = refl
    step false true o (Some t) same = refl
    step false false None None same = refl
    step false false None (Some t) same = refl
    step false false (Some s) p same = refl

met : Option Status → Option Status → Option Status
met None None = None
met None (Some s) = Some Partly
met (Some s) o = Some (both_ways s o)

lookup-meet : (x : List ℕ) (ys zs : Scope) → lookup x (meet ys zs) ≡ met (lookup x ys) (lookup x zs)
unfolding met weak_at beyond_at
lookup-meet x ys zs =
    lookup-append x (map (weaken zs) ys) (beyond ys zs)
    ∙ (λ i. first_of_two (lookup-beyond x ys zs i) (lookup-weaken x zs ys i))
    ∙ by (lookup x ys) (lookup x zs)
  where
    by : (o p : Option Status) → first_of_two (beyond_at o p) (weak_at p o) ≡ met o p
    by None None = refl
    by None (Some s) = refl
    by (Some s) p = refl

lookup-joined : (x : List ℕ) (w : Scope) (ws : List Scope) → lookup x (fold meet w ws) ≡ fold met (lookup x w) (map (lookup x) ws)
lookup-joined x w [] = refl
lookup-joined x w (v ∷ ws) = lookup-joined x (meet w v) ws ∙ ap (λ o. fold met o (map (lookup x) ws)) (lookup-meet x w v)

met_together : (o : Option Status) (os : List (Option Status)) → fold met o os ≡ together (o ∷ os)
unfolding met
met_together None [] = refl
met_together (Some Sure) [] = refl
met_together (Some Partly) [] = refl
met_together o (p ∷ os) = met_together (met o p) os ∙ by o p
  where
    by : (o p : Option Status) → together (met o p ∷ os) ≡ together (o ∷ p ∷ os)
    by None None = refl
    by None (Some Sure) = refl
    by None (Some Partly) = refl
    by (Some Sure) None = refl
    by (Some Sure) (Some Sure) = refl
    by (Some Sure) (Some Partly) = refl
    by (Some Partly) None = refl
    by (Some Partly) (Some Sure) = refl
    by (Some Partly) (Some Partly) = refl

pub join_together : (x : List ℕ) (w : Scope) (ws : List Scope) → lookup x (join (w ∷ ws)) ≡ together (map (lookup x) (w ∷ ws))
join_together x w ws = lookup-joined x w ws ∙ met_together (lookup x w) (map (lookup x) ws)
