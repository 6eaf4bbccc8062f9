-- What several ways bind, found one way after the other; and what a `try` adds, found part by part.

use Rattle.std.specs.Prelude.{ℕ, Bool, ◌||◌, List, [], ◌∷◌, ◌++◌, Option, None, Some, fold, length, take, drop, map}
use Rattle.std.proofs.Common.{◌≡◌, refl, sym, ap, subst, ◌∙◌}
use Rattle.std.proofs.lemmas.List.{append_assoc, append-nil}
use Rattle.std.proofs.lemmas.List.Sums.{fold-append}
use Rattle.edb_syntax.specs.Syntax.{Exp, Seq, After, ClauseTree, CatchTree, QualifierTree, clauses_of, catches_of, qualifiers_of, try, comprehension, and_also}
use Rattle.edb_table.specs.Keys.{Key}
use Rattle.edb_check.specs.declared.walk.Walk.{Walk}
use Rattle.edb_check.specs.Scopes.{Scope, partly, meet, join, meets, outer}
use Rattle.edb_check.specs.Binds.{binds, sequence_binds, after_binds, qualifiers_binds, ways, catch_ways}
use Rattle.edb_check.specs.Names.{names, sequence_names, clauses_names, catches_names, after_names}
use Rattle.edb_check.specs.Rules.{both_share, faults, sequence_faults, clauses_faults, catches_faults, after_faults}
use Rattle.edb_check.specs.declared.fault.CheckKind.TheVariants.{Sibling}
use Rattle.edb_check.specs.Faults.{fault_if}
use Rattle.edb_check.specs.GuardRules.{misplaced}
use Rattle.edb_check.specs.Joins.{with_way, or_none}
use Rattle.edb_check.specs.Walking.{part, only, Walks}
use Rattle.edb_check.specs.Parts.{expression_part, sequence_part, partly_part, clauses_part, catches_part, after_part, test_part, local_part, qualifiers_part}
use Rattle.edb_check.proofs.Composing.{walks_then, walks_as, since, nothing_since, weakened_walk, left_walk, hidden_walk}

join_from : (bs : Scope) (ws : List Scope) → Some (fold meet bs ws) ≡ fold with_way (Some bs) ws
join_from bs [] = refl
join_from bs (w ∷ ws) = join_from (meet bs w) ws

pub join_is : (ws : List Scope) → or_none (fold with_way None ws) ≡ join ws
join_is [] = refl
join_is (w ∷ ws) = sym (ap or_none (join_from w ws))

-- with one way more
pub join_more : (ws : List Scope) (w : Scope) → or_none (with_way (fold with_way None ws) w) ≡ join (ws ++ w ∷ [])
join_more ws w = sym (ap or_none (fold-append with_way None ws (w ∷ []))) ∙ join_is (ws ++ w ∷ [])

regroup : {A : Type 0} (ws xs ys zs : List A) → ((ws ++ xs) ++ (ys ++ [])) ++ zs ≡ ws ++ (xs ++ (ys ++ zs))
regroup ws xs ys zs = simp (append-nil, append_assoc)

module _ (keys : List Key) (s : Seq) (cs : List ClauseTree) (hs : List CatchTree) (a : After) {old w1 w2 w3 w4 w5 w6 w7 : Walk} (of_ways handled : Option Scope) (m : ℕ) (at : m ≡ length old.scope) where
  pub attempted : Walks old w1 (sequence_part keys old.scope s) → Walks w1 w2 (clauses_part keys w1.scope cs) →
      of_ways ≡ fold with_way None (ways w1.scope (clauses_of cs)) →
      w3.scope ≡ take m w2.scope ++ map partly (drop m w2.scope) → w3.names ≡ w2.names → w3.first ≡ w2.first →
      Walks w3 w4 (catches_part keys w3.scope hs) → handled ≡ fold with_way None (catch_ways w3.scope (catches_of hs)) →
      Walks w4 w5 (part (map partly (or_none of_ways)) [] []) → Walks w5 w6 (part (map partly (or_none handled)) [] []) →
      Walks w6 w7 (after_part keys w6.scope a) → Walks old w7 (expression_part keys old.scope (try 0 s (clauses_of cs) (catches_of hs) a))
  attempted body of of_is scope names first catches handled_is adds_of adds_handled ends =
      let bs = old.scope in
      let b = sequence_binds bs s in
      let of_at : Walks w1 w2 (clauses_part keys (bs ++ b) cs) = subst (λ z. Walks w1 w2 (clauses_part keys z cs)) body.scope of in
      let of_joined : or_none of_ways ≡ join (ways (bs ++ b) (clauses_of cs)) = ap or_none of_is ∙ join_is (ways w1.scope (clauses_of cs)) ∙ ap (λ z. join (ways z (clauses_of cs))) body.scope in
      let weak : Walks old w3 (part (map partly b) (sequence_names bs s ++ clauses_names (bs ++ b) (clauses_of cs)) (sequence_faults keys bs s ++ clauses_faults keys (bs ++ b) (clauses_of cs))) =
      walks_as (ap (λ z. part (map partly z) (sequence_names bs s ++ clauses_names (bs ++ b) (clauses_of cs)) (sequence_faults keys bs s ++ clauses_faults keys (bs ++ b) (clauses_of cs))) (append-nil b))
      (weakened_walk (walks_then body of_at) m at scope names first) in
      let catches_at : Walks w3 w4 (catches_part keys (bs ++ map partly b) hs) = subst (λ z. Walks w3 w4 (catches_part keys z hs)) weak.scope catches in
      let handled_joined : or_none handled ≡ join (catch_ways (bs ++ map partly b) (catches_of hs)) = ap or_none handled_is ∙ join_is (catch_ways w3.scope (catches_of hs)) ∙ ap (λ z. join (catch_ways z (catches_of hs))) weak.scope in
      let os = map partly (join (ways (bs ++ b) (clauses_of cs))) in
      let ks = map partly (join (catch_ways (bs ++ map partly b) (catches_of hs))) in
      let adds_of_at : Walks w4 w5 (part os [] []) = subst (λ z. Walks w4 w5 (part (map partly z) [] [])) of_joined adds_of in
      let adds_handled_at : Walks w5 w6 (part ks [] []) = subst (λ z. Walks w5 w6 (part (map partly z) [] [])) handled_joined adds_handled in
      let tried = walks_then weak (walks_then catches_at (walks_then adds_of_at adds_handled_at)) in
      let ends_at : Walks w6 w7 (after_part keys (bs ++ (map partly b ++ (os ++ ks))) a) = subst (λ z. Walks w6 w7 (after_part keys z a)) tried.scope ends in
      let after_at = bs ++ (map partly b ++ (os ++ ks)) in
      walks_as
      (λ i. part ((map partly b ++ (os ++ ks)) ++ map partly (after_binds after_at a))
      (regroup (sequence_names bs s) (clauses_names (bs ++ b) (clauses_of cs)) (catches_names (bs ++ map partly b) (catches_of hs)) (after_names after_at a) i)
      (regroup (sequence_faults keys bs s) (clauses_faults keys (bs ++ b) (clauses_of cs)) (catches_faults keys (bs ++ map partly b) (catches_of hs)) (after_faults keys after_at a) i))
      (walks_then tried ends_at)

-- what a comprehension adds, whose qualifiers and expression were gone through and then left
pub comprehended : (keys : List Key) (e : Exp) (qs : List QualifierTree) {old w1 w2 w3 : Walk} (m : ℕ) → m ≡ length old.scope →
    Walks old w1 (qualifiers_part keys old.scope (drop m old.scope) qs) →
    Walks w1 w2 (local_part keys w1.scope (drop m w1.scope) e) →
    w3.scope ≡ take m w2.scope → w3.names ≡ w2.names → w3.first ≡ w2.first →
    Walks old w3 (expression_part keys old.scope (comprehension 0 e (qualifiers_of qs)))
comprehended keys e qs {old = old} {w1 = w1} {w2 = w2} {w3 = w3} m at gone inner scope names first =
    let own = qualifiers_binds old.scope (qualifiers_of qs) in
    let gone_at : Walks old w1 (qualifiers_part keys old.scope [] qs) = subst (λ z. Walks old w1 (qualifiers_part keys old.scope z qs)) (nothing_since old.scope m at) gone in
    let behind : drop m w1.scope ≡ own = since old.scope own w1.scope m at gone_at.scope in
    let inner_at : Walks w1 w2 (local_part keys (old.scope ++ own) own e) =
    subst (λ z. Walks w1 w2 (local_part keys z own e)) gone_at.scope (subst (λ z. Walks w1 w2 (local_part keys w1.scope z e)) behind inner) in
    left_walk (walks_then gone_at inner_at) m at scope names first

-- what a test of a guard adds, once its names are hidden and its scope is left
pub tested : (keys : List Key) (e : Exp) {old w1 w2 w3 w4 : Walk} (m n : ℕ) → m ≡ length old.scope → n ≡ length old.names → Walks old w1 (expression_part keys old.scope e) → Walks w1 w2 (only (misplaced keys e)) →
    w3.scope ≡ w2.scope → w3.names ≡ take n w2.names ++ outer (drop m w2.scope) (drop n w2.names) → w3.first ≡ w2.first →
    w4.scope ≡ take m w3.scope → w4.names ≡ w3.names → w4.first ≡ w3.first → Walks old w4 (test_part keys old.scope e)
tested keys e {old = old} m n at named gone told scope3 names3 first3 scope4 names4 first4 =
    left_walk
    (hidden_walk (walks_as (λ i. part (append-nil (binds old.scope e) i) (append-nil (names old.scope e) i) (faults keys old.scope e ++ misplaced keys e)) (walks_then gone told)) m at n named scope3 names3 first3)
    m at scope4 names4 first4

-- what `andalso` and `orelse` add
pub either_sides : (keys : List Key) (l : ℕ) (a b : Exp) (shares : Bool) {old w1 w2 w3 w4 : Walk} (m n k : ℕ) → m ≡ length old.scope → n ≡ length old.names → k ≡ length w1.scope → Walks old w1 (expression_part keys old.scope a) →
    Walks w1 w2 (expression_part keys w1.scope b) →
    shares ≡ (meets (drop m w1.scope) (names w1.scope b) || meets (binds w1.scope b) (drop n w1.names)) →
    w3.scope ≡ take k w2.scope ++ map partly (drop k w2.scope) → w3.names ≡ w2.names → w3.first ≡ w2.first →
    Walks w3 w4 (only (fault_if shares l Sibling)) → Walks old w4 (expression_part keys old.scope (and_also l a b))
either_sides keys l a b shares {old = old} {w1 = w1} {w2 = w2} {w3 = w3} {w4 = w4} m n k at named behind left right shares_is scope names3 first told =
    let bs = old.scope in
    let shared : shares ≡ both_share bs a b =
    shares_is
    ∙ (λ i. meets (since bs (binds bs a) w1.scope m at left.scope i) (names w1.scope b) || meets (binds w1.scope b) (since old.names (names bs a) w1.names n named left.names i))
    ∙ ap (λ z. meets (binds bs a) (names z b) || meets (binds z b) (names bs a)) left.scope in
    let weak : Walks w1 w3 (partly_part (expression_part keys (bs ++ binds bs a) b)) =
    subst (λ z. Walks w1 w3 (partly_part (expression_part keys z b))) left.scope (weakened_walk right k behind scope names3 first) in
    let told_at : Walks w3 w4 (only (fault_if (both_share bs a b) l Sibling)) = subst (λ z. Walks w3 w4 (only (fault_if z l Sibling))) shared told in
    walks_as (λ i. part (binds bs a ++ append-nil (map partly (binds (bs ++ binds bs a) b)) i) (names bs a ++ append-nil (names (bs ++ binds bs a) b) i)
    (faults keys bs a ++ (faults keys (bs ++ binds bs a) b ++ fault_if (both_share bs a b) l Sibling))) (walks_then left (walks_then weak told_at))
