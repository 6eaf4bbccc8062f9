-- The rows of clap's matches, by their ids.

use Rattle.std.proofs.Common.{◌≡◌, ◌∙◌, Bool, cond, true, false, true≢false, List, [], ◌∷◌, ◌++◌, Option, Some, None, is_some, refl, sym, ap, append-nil}
use Rattle.std.specs.List.{find}
use Rattle.std.specs.Option.{unwrap_or}
use Rattle.std.specs.Str.{bytes_eq}
use Rattle.std.proofs.lemmas.Slice.Eq.{bytes_eq-Decides}
use Rattle.clap.specs.Walk.{Row, Text, at_row, has_row, stronger, with_values, without}
use Rattle.clap.specs.declared.builder.value_parser.Reading.{Reading}
use Rattle.clap.specs.declared.parser.matches.ValueSource.{ValueSource}

-- the first row of an id
abbrev pub row_at : Text → List Row → Option Row
row_at id rows = find (λ r. bytes_eq r.id id) rows

pub some_is_none : {X : Type 0} (x : X) → Some x ≡ None → ⊥
some_is_none x e = true≢false (ap is_some e)

same_row : (a b : Row) → Some a ≡ Some b → a ≡ b
same_row a b e = ap (λ o. unwrap_or o a) e

pub same_id : (id : Text) → bytes_eq id id ≡ true
same_id id = (bytes_eq-Decides id id).1 refl

pub has_row_at : (id : Text) (rows : List Row) → has_row id rows ≡ is_some (row_at id rows)
has_row_at id [] = refl
has_row_at id (r ∷ rs) = go (bytes_eq r.id id) refl (has_row_at id rs)
  where
    go : (b : Bool) → bytes_eq r.id id ≡ b → has_row id rs ≡ is_some (row_at id rs) → has_row id (r ∷ rs) ≡ is_some (row_at id (r ∷ rs))
    go true e next = rw e refl
    go false e next = rw e next

module _ (id : Text) (change : Row → List Row) (missing : List Row) where
  -- where the id has no row, one comes last
  at_none : (rows : List Row) → row_at id rows ≡ None → at_row id change missing rows ≡ rows ++ missing
  at_none [] none = refl
  at_none (r ∷ rs) none = go (bytes_eq r.id id) refl (at_none rs)
    where
      go : (b : Bool) → bytes_eq r.id id ≡ b → (row_at id rs ≡ None → at_row id change missing rs ≡ rs ++ missing) → at_row id change missing (r ∷ rs) ≡ r ∷ (rs ++ missing)
      go true e next = absurd (some_is_none r (sym (ap (λ b. cond b (Some r) (row_at id rs)) e) ∙ none))
      go false e next = rw e (ap (λ l. r ∷ l) (next (sym (ap (λ b. cond b (Some r) (row_at id rs)) e) ∙ none)))

-- nothing goes where there is nothing
pub without_none : (id : Text) (rows : List Row) → row_at id rows ≡ None → without id rows ≡ rows
without_none id rows none = at_none id (λ _. []) [] rows none ∙ append-nil rows

last_row : (id : Text) (new : Row) → bytes_eq new.id id ≡ true → (rows : List Row) → row_at id rows ≡ None → row_at id (rows ++ new ∷ []) ≡ Some new
last_row id new is [] none = rw is refl
last_row id new is (r ∷ rs) none = go (bytes_eq r.id id) refl (last_row id new is rs)
  where
    go : (b : Bool) → bytes_eq r.id id ≡ b → (row_at id rs ≡ None → row_at id (rs ++ new ∷ []) ≡ Some new) → row_at id (r ∷ (rs ++ new ∷ [])) ≡ Some new
    go true e next = absurd (some_is_none r (sym (ap (λ b. cond b (Some r) (row_at id rs)) e) ∙ none))
    go false e next = rw e (next (sym (ap (λ b. cond b (Some r) (row_at id rs)) e) ∙ none))

module _ (id : Text) (how : Reading) (s : ValueSource) (values : List Text) where
  abbrev first_row : Row
  first_row = record { id = id; values = values; count = None; source = Some s; reading = how }

  abbrev more_row : Row → Row
  more_row r = record r { values = r.values ++ values; source = Some (stronger r.source s) }

  abbrev after : List Row → List Row
  after rows = with_values id how s values rows

  -- the first values of an id
  pub values_first : (rows : List Row) → row_at id rows ≡ None → row_at id (with_values id how s values rows) ≡ Some (record { id = id; values = values; count = None; source = Some s; reading = how })
  values_first rows none = ap (row_at id) (at_none id (λ r. more_row r ∷ []) (first_row ∷ []) rows none) ∙ last_row id first_row (same_id id) rows none

  -- and more of them
  pub values_more : (rows : List Row) (r : Row) → row_at id rows ≡ Some r
      → row_at id (with_values id how s values rows) ≡ Some (record r { values = r.values ++ values; source = Some (stronger r.source s) })
  values_more [] r found = absurd (some_is_none r (sym found))
  values_more (x ∷ xs) r found = go (bytes_eq x.id id) refl (values_more xs r)
    where
      go : (b : Bool) → bytes_eq x.id id ≡ b → (row_at id xs ≡ Some r → row_at id (after xs) ≡ Some (more_row r)) → row_at id (after (x ∷ xs)) ≡ Some (more_row r)
      go true e next = rw (e, e) (ap (λ y. Some (more_row y)) (same_row x r (sym (ap (λ b. cond b (Some x) (row_at id xs)) e) ∙ found)))
      go false e next = rw (e, e) (next (sym (ap (λ b. cond b (Some x) (row_at id xs)) e) ∙ found))

  -- the rows of other ids stay
  pub values_apart : (other : Text) → bytes_eq id other ≡ false → (rows : List Row) → row_at other (with_values id how s values rows) ≡ row_at other rows
  values_apart other apart [] = rw apart refl
  values_apart other apart (x ∷ xs) = go (bytes_eq x.id id) refl (values_apart other apart xs)
    where
      go : (b : Bool) → bytes_eq x.id id ≡ b → row_at other (after xs) ≡ row_at other xs → row_at other (after (x ∷ xs)) ≡ row_at other (x ∷ xs)
      go true e next =
          let not_it : bytes_eq x.id other ≡ false = ap (λ t. bytes_eq t other) ((bytes_eq-Decides x.id id).0 e) ∙ apart in
          rw (e, not_it) refl
      go false e next = rw e (ap (λ o. cond (bytes_eq x.id other) (Some x) o) next)
