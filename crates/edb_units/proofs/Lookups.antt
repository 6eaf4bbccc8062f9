-- What a name means in a module, by the elements that have the key.

use Rattle.std.proofs.Common.{◌≡◌, ℕ, Bool, true, false, ◌&&◌, ◌||◌, cond, if◌then◌else◌, ◌==◌, List, [], ◌∷◌, slice_get, Some, is_some, refl, sym, ◌∙◌, arith}
use Rattle.std.proofs.lemmas.Bool.Decides.{nat_tests}
use Rattle.std.specs.declared.cmp.Ordering.{Ordering}
use Rattle.std.specs.declared.cmp.Ordering.TheVariants.{Less, Equal, Greater}
use Rattle.std.specs.Ordering.{nat_cmp, is_eq, ordering_then}
use Rattle.std.specs.Cmp.Lexicographic.{slice_cmp, texts_ties}
use Rattle.std.specs.Cmp.{unsigned_ties}
use Rattle.std.specs.List.{filter, list_any}
use Rattle.edb_lang.specs.TermText.{same_name}
use Rattle.edb_syntax.specs.declared.modules.Export.{Export}
use Rattle.edb_syntax.specs.FunForms.{Form, place_of, first_at}
use Rattle.edb_syntax.specs.Lookup.{function_in}
use Rattle.edb_syntax.specs.Syntax.{FunctionTree}
use Rattle.edb_units.specs.Keys.{signature_cmp, function_key, export_key}
use Rattle.edb_units.specs.Orders.{has}

pub equal_itself : (n : ℕ) → is_eq (nat_cmp n n) ≡ true
equal_itself n = let same : (n == n) ≡ true = grind (arith, nat_tests) in sym (unsigned_ties n n) ∙ same

pub unequal : (m n : ℕ) → (m ≡ n → ⊥) → is_eq (nat_cmp m n) ≡ false
unequal m n h = let apart : (m == n) ≡ false = grind (arith, nat_tests) in sym (unsigned_ties m n) ∙ apart

both : (o p : Ordering) → is_eq (ordering_then o p) ≡ is_eq o && is_eq p
both Less p = refl
both Equal p = refl
both Greater p = refl

same_signature : (f g : List ℕ) (m n : ℕ) → same_name f g && m == n ≡ is_eq (signature_cmp (f, m) (g, n))
same_signature f g m n = (λ i. texts_ties f g i && unsigned_ties m n i) ∙ sym (both (slice_cmp nat_cmp f g) (nat_cmp m n))

pub function_first : (gs : List FunctionTree) (f : List ℕ) (n : ℕ) → slice_get (filter (has signature_cmp function_key (f, n)) gs) 0 ≡ function_in gs f n
function_first [] f n = refl
function_first (g ∷ gs) f n = rw (same_signature g.name f g.arity n) (choice (is_eq (signature_cmp (g.name, g.arity) (f, n))) (function_first gs f n))
  where
    choice : (b : Bool) → slice_get (filter (has signature_cmp function_key (f, n)) gs) 0 ≡ function_in gs f n
        → slice_get (cond b (g ∷ filter (has signature_cmp function_key (f, n)) gs) (filter (has signature_cmp function_key (f, n)) gs)) 0 ≡ (if b then Some g else function_in gs f n)
    choice true rest = refl
    choice false rest = rest

pub export_first : (es : List Export) (f : List ℕ) (n : ℕ) → is_some (slice_get (filter (has signature_cmp export_key (f, n)) es) 0) ≡ list_any (λ e. same_name e.name f && e.arity == n) es
export_first [] f n = refl
export_first (e ∷ es) f n = rw (same_signature e.name f e.arity n) (choice (is_eq (signature_cmp (e.name, e.arity) (f, n))) (export_first es f n))
  where
    choice : (b : Bool) → is_some (slice_get (filter (has signature_cmp export_key (f, n)) es) 0) ≡ list_any (λ e. same_name e.name f && e.arity == n) es
        → is_some (slice_get (cond b (e ∷ filter (has signature_cmp export_key (f, n)) es) (filter (has signature_cmp export_key (f, n)) es)) 0) ≡ b || list_any (λ e. same_name e.name f && e.arity == n) es
    choice true rest = refl
    choice false rest = rest

pub form_first : (fs : List Form) (i : ℕ) → slice_get (filter (has nat_cmp place_of i) fs) 0 ≡ first_at fs i
form_first [] i = refl
form_first (f ∷ fs) i = choice (is_eq (nat_cmp (place_of f) i)) (place_of f == i) (unsigned_ties (place_of f) i) (form_first fs i)
  where
    choice : (b d : Bool) → d ≡ b → slice_get (filter (has nat_cmp place_of i) fs) 0 ≡ first_at fs i → slice_get (cond b (f ∷ filter (has nat_cmp place_of i) fs) (filter (has nat_cmp place_of i) fs)) 0 ≡ (if d then Some f else first_at fs i)
    choice true d e rest = rw e refl
    choice false d e rest = rw e rest
