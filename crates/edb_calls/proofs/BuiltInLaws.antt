-- The built-ins that are no shared acts: which there are, and what their calls do.

use Rattle.std.proofs.Common.{◌≡◌, ◌<◌, ◌∙◌, ℕ, Bool, true, false, leb, cond, if◌then◌else◌, List, [], ◌∷◌, Option, None, Some, IfSome, refl, sym, ap, arith, true≢false}
use Rattle.std.specs.Prelude.{find, is_some, unwrap_or, slice_get}
use Rattle.std.specs.List.{list_all}
use Rattle.std.proofs.lemmas.Bool.{and_parts, leb-true}
use Rattle.edb_table.specs.BuiltIns.{BuiltIn, built_ins, same_built_in, index_of, erlang_keys, int_keys, io_keys, lists_keys}
use Rattle.edb_table.specs.Marking.{is_auto, named_keys}
use Rattle.edb_table.proofs.Indexes.{same_built_in-Decides}
use Rattle.edb_pure.specs.Table.{Row, rows, pure, is_pure}
use Rattle.edb_lang.specs.Terms.{Datum}
use Rattle.edb_moves.specs.Going.{Place}
use Rattle.edb_moves.specs.Calls.{answered, applied_fun, applied_name, apply_key, built_in, is_unshared}

-- what holds of the key of each row holds of each key that has a row
of_rows : (q : BuiltIn → Bool) (key : BuiltIn) (rs : List Row) → list_all (λ r. q r.key) rs ≡ true → is_some (find (λ r. same_built_in key r.key) rs) ≡ true → q key ≡ true
of_rows q key [] all e = absurd (true≢false (sym e))
of_rows q key (r ∷ rs) all e =
    let parts = and_parts (q r.key) (list_all (λ r. q r.key) rs) all in
    go (same_built_in key r.key) refl parts.0 e (of_rows q key rs parts.1)
  where
    go : (b : Bool) → same_built_in key r.key ≡ b → q r.key ≡ true → is_some (cond b (Some r) (find (λ r. same_built_in key r.key) rs)) ≡ true
        → (is_some (find (λ r. same_built_in key r.key) rs) ≡ true → q key ≡ true) → q key ≡ true
    go true same here e rest = ap q ((same_built_in-Decides key r.key).0 same) ∙ here
    go false same here e rest = rest e

rows_indexed : list_all (λ r. is_some (index_of r.key)) rows ≡ true
unfolding rows erlang_keys int_keys io_keys lists_keys
rows_indexed = refl

rows_small : list_all (λ r. leb r.key.1.1 4) rows ≡ true
unfolding rows
rows_small = refl

not_true : (b : Bool) → (b ≡ true → ⊥) → b ≡ false
not_true true h = absurd (h refl)
not_true false h = refl

no_index_no_row : (key : BuiltIn) → index_of key ≡ None → is_pure key ≡ false
no_index_no_row key e = not_true (is_pure key) (λ p. true≢false (sym (of_rows (λ b. is_some (index_of b)) key rows rows_indexed p) ∙ ap is_some e))

many_no_row : (key : BuiltIn) → 4 < key.1.1 → is_pure key ≡ false
many_no_row key h = not_true (is_pure key) (λ p. let low = leb-true key.1.1 4 (of_rows (λ b. leb b.1.1 4) key rows rows_small p) in omega arith)

unlike : (a b : BuiltIn) → (a ≡ b → ⊥) → same_built_in a b ≡ false
unlike a b h = not_true (same_built_in a b) (λ e. h ((same_built_in-Decides a b).0 e))

shared_only : (key : BuiltIn) → is_pure key ≡ false → (key ≡ apply_key 2 → ⊥) → (key ≡ apply_key 3 → ⊥) → is_unshared key ≡ false
shared_only key pure_not two three = simp (pure_not, unlike key (apply_key 2) two, unlike key (apply_key 3) three) refl

pub index_apply_fun : index_of (apply_key 2) ≡ Some 2
unfolding erlang_keys int_keys io_keys lists_keys
index_apply_fun = refl

pub index_apply_name : index_of (apply_key 3) ≡ Some 3
unfolding erlang_keys int_keys io_keys lists_keys
index_apply_name = refl

at_apply_fun : slice_get built_ins 2 ≡ Some (apply_key 2)
unfolding erlang_keys int_keys io_keys lists_keys
at_apply_fun = refl

at_apply_name : slice_get built_ins 3 ≡ Some (apply_key 3)
unfolding erlang_keys int_keys io_keys lists_keys
at_apply_name = refl

-- WHICH ARE NONE: those with many arguments, those that aren't in the tables, and those that are neither pure nor `apply`
pub shared_many : (key : BuiltIn) → 4 < key.1.1 → is_unshared key ≡ false
shared_many key h =
    shared_only key (many_no_row key h)
    (λ e. let n : key.1.1 ≡ 2 = ap (λ k. k.1.1) e in omega arith)
    (λ e. let n : key.1.1 ≡ 3 = ap (λ k. k.1.1) e in omega arith)

pub shared_nowhere : (key : BuiltIn) → index_of key ≡ None → is_unshared key ≡ false
shared_nowhere key none =
    shared_only key (no_index_no_row key none)
    (λ e. let n : Some 2 ≡ None = sym index_apply_fun ∙ ap index_of (sym e) ∙ none in absurd (cc))
    (λ e. let n : Some 3 ≡ None = sym index_apply_name ∙ ap index_of (sym e) ∙ none in absurd (cc))

pub shared_there : (key : BuiltIn) (i : ℕ) → index_of key ≡ Some i → (i ≡ 2 → ⊥) → (i ≡ 3 → ⊥) → is_pure key ≡ false → is_unshared key ≡ false
shared_there key i there two three none =
    shared_only key none
    (λ e. let n : Some 2 ≡ Some i = sym index_apply_fun ∙ ap index_of (sym e) ∙ there in two (cc))
    (λ e. let n : Some 3 ≡ Some i = sym index_apply_name ∙ ap index_of (sym e) ∙ there in three (cc))

pub apply_fun_there : (key : BuiltIn) → slice_get built_ins 2 ≡ Some key → apply_key 2 ≡ key
apply_fun_there key e = let n : Some (apply_key 2) ≡ Some key = sym at_apply_fun ∙ e in cc

pub apply_name_there : (key : BuiltIn) → slice_get built_ins 3 ≡ Some key → apply_key 3 ≡ key
apply_name_there key e = let n : Some (apply_key 3) ≡ Some key = sym at_apply_name ∙ e in cc

-- what is found at a place, and what is said of it
pub key_there : (i : ℕ) (key : BuiltIn) → slice_get built_ins i ≡ Some key → unwrap_or (slice_get built_ins i) ([], ([], 0)) ≡ key
key_there i key e = ap (λ o. unwrap_or o ([], ([], 0))) e

no_row_nowhere : is_pure ([], ([], 0)) ≡ false
unfolding rows
no_row_nowhere = refl

pub said_there : (P : BuiltIn → Type 0) (o : Option BuiltIn) → is_pure (unwrap_or o ([], ([], 0))) ≡ true → IfSome o P → P (unwrap_or o ([], ([], 0)))
said_there P (Some key) e h = h
said_there P None e h = absurd (true≢false (sym e ∙ no_row_nowhere))

pub there_said : (P : BuiltIn → Type 0) (o : Option BuiltIn) → P (unwrap_or o ([], ([], 0))) → IfSome o P
there_said P (Some key) h = h
there_said P None h = tt

-- WHAT THEIR CALLS DO
apply_fun_no_row : is_pure (apply_key 2) ≡ false
unfolding rows
apply_fun_no_row = refl

apply_name_no_row : is_pure (apply_key 3) ≡ false
unfolding rows
apply_name_no_row = refl

pub pure_move : (p : Place) (key : BuiltIn) (vs : List Datum) → is_pure key ≡ true → built_in p key vs ≡ answered p (pure key p.me vs)
pure_move p key [] e = refl
pure_move p key (a ∷ []) e = refl
pure_move p key (a ∷ (b ∷ [])) e =
    ap (λ t. if t then applied_fun p a b else answered p (pure key p.me (a ∷ b ∷ []))) (unlike key (apply_key 2) (λ f. true≢false (sym e ∙ ap is_pure f ∙ apply_fun_no_row)))
pure_move p key (a ∷ (b ∷ (d ∷ []))) e =
    ap (λ t. if t then applied_name p a b d else answered p (pure key p.me (a ∷ b ∷ d ∷ []))) (unlike key (apply_key 3) (λ f. true≢false (sym e ∙ ap is_pure f ∙ apply_name_no_row)))
pure_move p key (a ∷ (b ∷ (d ∷ (f ∷ vs)))) e = refl

pub auto_apply_fun : is_auto (apply_key 2) ≡ true
unfolding erlang_keys named_keys
auto_apply_fun = refl

pub auto_apply_name : is_auto (apply_key 3) ≡ true
unfolding erlang_keys named_keys
auto_apply_name = refl
