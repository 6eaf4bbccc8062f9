-- Walks one after the other, and what becomes of a walk once a scope is left or weakened, or names are hidden.

use Rattle.std.specs.Prelude.{ℕ, ◌+◌, ◌<◌, List, [], ◌∷◌, ◌++◌, length, take, drop, map}
use Rattle.std.proofs.Common.{◌≡◌, refl, sym, ap, subst, ◌∙◌, get_or}
use Rattle.std.proofs.lemmas.List.{append_assoc, append-nil}
use Rattle.edb_check.specs.declared.walk.Walk.{Walk}
use Rattle.edb_check.specs.Scopes.{Scope, partly, outer}
use Rattle.edb_check.specs.Walking.{Part, part, followed_by, least, Walks, Goes}
use Rattle.edb_check.specs.Parts.{inner_part, partly_part}
use Rattle.edb_check.proofs.Walking.{least-append}
use Rattle.edb_check.proofs.Going.{goes_on}

pub walks_then : {old mid new : Walk} {p q : Part} → Walks old mid p → Walks mid new q → Walks old new (followed_by p q)
walks_then {old = old} {p = p} {q = q} v w = record {
  scope = w.scope ∙ ap (λ bs. bs ++ q.binds) v.scope ∙ append_assoc old.scope p.binds q.binds;
  names = w.names ∙ ap (λ xs. xs ++ q.names) v.names ∙ append_assoc old.names p.names q.names;
  first = w.first ∙ ap (λ o. least o q.faults) v.first ∙ sym (least-append old.first p.faults q.faults);
}

pub walks_as : {old new : Walk} {p q : Part} → p ≡ q → Walks old new p → Walks old new q
walks_as {old = old} {new = new} e w = subst (Walks old new) e w

-- what was put behind a list stands behind the mark that the list had
pub since : {A : Type 0} (xs ys zs : List A) (m : ℕ) → m ≡ length xs → zs ≡ xs ++ ys → drop m zs ≡ ys
since {A = A} xs ys zs m at is = ap (λ k. drop k zs) at ∙ ap (drop (length xs)) is ∙ behind xs
  where
    behind : (xs : List A) → drop (length xs) (xs ++ ys) ≡ ys
    behind [] = refl
    behind (x ∷ xs) = behind xs

-- and the list before it
pub until : {A : Type 0} (xs ys zs : List A) (m : ℕ) → m ≡ length xs → zs ≡ xs ++ ys → take m zs ≡ xs
until {A = A} xs ys zs m at is = ap (λ k. take k zs) at ∙ ap (take (length xs)) is ∙ front xs
  where
    front : (xs : List A) → take (length xs) (xs ++ ys) ≡ xs
    front [] = refl
    front (x ∷ xs) = ap (λ zs. x ∷ zs) (front xs)

pub nothing_since : {A : Type 0} (xs : List A) (m : ℕ) → m ≡ length xs → drop m xs ≡ []
nothing_since xs m at = since xs [] xs m at (sym (append-nil xs))

module _ {old mid new : Walk} {p : Part} (w : Walks old mid p) (m : ℕ) (at : m ≡ length old.scope) where
  -- what was bound is bound on some ways alone
  pub weakened_walk : new.scope ≡ take m mid.scope ++ map partly (drop m mid.scope) → new.names ≡ mid.names → new.first ≡ mid.first → Walks old new (partly_part p)
  weakened_walk scope names first = record {
    scope = scope ∙ (λ i. until old.scope p.binds mid.scope m at w.scope i ++ map partly (since old.scope p.binds mid.scope m at w.scope i));
    names = names ∙ w.names;
    first = first ∙ w.first;
  }

  -- the scope is left
  pub left_walk : new.scope ≡ take m mid.scope → new.names ≡ mid.names → new.first ≡ mid.first → Walks old new (inner_part p)
  left_walk scope names first = record {
    scope = scope ∙ until old.scope p.binds mid.scope m at w.scope ∙ sym (append-nil old.scope);
    names = names ∙ w.names;
    first = first ∙ w.first;
  }

  -- the names that are bound here are hidden
  pub hidden_walk : (n : ℕ) → n ≡ length old.names → new.scope ≡ mid.scope → new.names ≡ take n mid.names ++ outer (drop m mid.scope) (drop n mid.names) →
      new.first ≡ mid.first → Walks old new (part p.binds (outer p.binds p.names) p.faults)
  hidden_walk n named scope names first = record {
    scope = scope ∙ w.scope;
    names = names ∙ (λ i. until old.names p.names mid.names n named w.names i ++ outer (since old.scope p.binds mid.scope m at w.scope i) (since old.names p.names mid.names n named w.names i));
    first = first ∙ w.first;
  }

-- an item that binds nothing is gone through
pub goes_by : {A : Type 0} {old now next : Walk} {whole : Part} (adds : Scope → List A → Part) (one : Part) (items : List A) (i : ℕ) (item : A) →
    item ≡ get_or items i item → i < length items → Walks now next one → one.binds ≡ [] →
    adds now.scope (item ∷ drop (i + 1) items) ≡ followed_by one (adds now.scope (drop (i + 1) items)) →
    Goes old now whole (adds now.scope (drop i items)) → Goes old next whole (adds next.scope (drop (i + 1) items))
goes_by {now = now} adds one items i item is lt w nothing computes g =
    goes_on adds one items i item is lt w
    (computes ∙ ap (λ bs. followed_by one (adds bs (drop (i + 1) items))) (sym (append-nil now.scope) ∙ ap (λ bs. now.scope ++ bs) (sym nothing))) g
