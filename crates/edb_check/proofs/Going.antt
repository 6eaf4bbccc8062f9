-- A loop of the walk: one item is gone through, and what is left is that much less.

use Rattle.std.specs.Prelude.{ℕ, ◌+◌, ◌<◌, List, ◌∷◌, ◌++◌, length, drop}
use Rattle.std.proofs.Common.{◌≡◌, sym, ap, subst, ◌∙◌, get_or}
use Rattle.std.proofs.lemmas.List.{append_assoc, drop_more}
use Rattle.edb_check.specs.declared.walk.Walk.{Walk}
use Rattle.edb_check.specs.Scopes.{Scope}
use Rattle.edb_check.specs.Walking.{Part, followed_by, least, Walks, Goes}
use Rattle.edb_check.proofs.Walking.{least-append}

-- a part of what was left is gone through
pub goes_part : {old now next : Walk} {whole one rest : Part} → Walks now next one → Goes old now whole (followed_by one rest) → Goes old next whole rest
goes_part {next = next} {one = one} {rest = rest} w g = record {
  scope = ap (λ bs. bs ++ rest.binds) w.scope ∙ append_assoc _ one.binds rest.binds ∙ g.scope;
  names = ap (λ xs. xs ++ rest.names) w.names ∙ append_assoc _ one.names rest.names ∙ g.names;
  first = ap (λ o. least o rest.faults) w.first ∙ sym (least-append _ one.faults rest.faults) ∙ g.first;
}

-- an item is the first of what is left
pub item_first : {A : Type 0} (items : List A) (i : ℕ) (item : A) → item ≡ get_or items i item → i < length items → drop i items ≡ item ∷ drop (i + 1) items
item_first items i item is lt = drop_more items i item lt ∙ ap (λ x. x ∷ drop (i + 1) items) (sym is)

-- one item of a list is gone through, where what items add depends on the scope that they see
pub goes_on : {A : Type 0} {old now next : Walk} {whole : Part} (adds : Scope → List A → Part) (one : Part) (items : List A) (i : ℕ) (item : A) →
    item ≡ get_or items i item → i < length items → Walks now next one →
    adds now.scope (item ∷ drop (i + 1) items) ≡ followed_by one (adds (now.scope ++ one.binds) (drop (i + 1) items)) →
    Goes old now whole (adds now.scope (drop i items)) → Goes old next whole (adds next.scope (drop (i + 1) items))
goes_on {old = old} {now = now} {next = next} {whole = whole} adds one items i item is lt w computes g =
    let before : adds now.scope (drop i items) ≡ followed_by one (adds (now.scope ++ one.binds) (drop (i + 1) items)) = ap (adds now.scope) (item_first items i item is lt) ∙ computes in
    let gone = goes_part w (subst (Goes old now whole) before g) in
    subst (λ bs. Goes old next whole (adds bs (drop (i + 1) items))) (sym w.scope) gone
