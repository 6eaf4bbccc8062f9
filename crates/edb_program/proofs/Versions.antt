-- What a version is in the code, and where it stands among units in the order of their names.

use Rattle.std.proofs.Common.{◌≡◌, ◌∙◌, ℕ, zero, suc, ◌+◌, ◌-◌, ◌<◌, ◌≤◌, ◌==◌, Bool, true, false, cond, if◌then◌else◌, List, [], ◌∷◌, length, get_or, slice_get, Some, None, refl, sym, ap, arith}
use Rattle.std.specs.Ordering.{nat_cmp, is_eq, is_lt}
use Rattle.std.specs.Cmp.Lexicographic.{slice_cmp, texts_ties}
use Rattle.std.specs.List.{filter}
use Rattle.std.specs.List.Sorted.{IsSortedByKey, IsPartitionPoint}
use Rattle.std.proofs.lemmas.Bool.Decides.{nat_tests}
use Rattle.std.proofs.lemmas.Cmp.{nat_list_cmp_total}
use Rattle.std.proofs.lemmas.Option.{slice_get_read, slice_get_past}
use Rattle.edb_lang.specs.TermText.{same_name}
use Rattle.edb_syntax.specs.Lookup.{version_in}
use Rattle.edb_syntax.specs.Syntax.{ModuleTree}
use Rattle.edb_program.specs.Names.{name_cmp, module_name}
use Rattle.edb_program.specs.Searched.{version_among}
use Rattle.edb_units.specs.Orders.{has, IsInOrder}
use Rattle.edb_units.proofs.Looking.{halved, kept}

no_version_zero : (xs : List ModuleTree) (m : List ℕ) → version_in xs m 0 ≡ None
no_version_zero [] m = refl
no_version_zero (x ∷ xs) m = choice (same_name x.name m) (no_version_zero xs m)
  where
    choice : (b : Bool) → version_in xs m 0 ≡ None → (if b then version_in xs m 0 else version_in xs m 0) ≡ None
    choice true rest = rest
    choice false rest = rest

later : (xs : List ModuleTree) (m : List ℕ) (k : ℕ) → version_in xs m (suc k) ≡ slice_get (filter (has name_cmp module_name m) xs) k
later [] m k = refl
later (x ∷ xs) m k = rw (texts_ties x.name m) (choice (is_eq (slice_cmp nat_cmp x.name m)) k (later xs m))
  where
    here : (k : ℕ) → ((i : ℕ) → version_in xs m (suc i) ≡ slice_get (filter (has name_cmp module_name m) xs) i)
        → (if suc k == 1 then Some x else version_in xs m (suc k - 1)) ≡ slice_get (x ∷ filter (has name_cmp module_name m) xs) k
    here zero rest = refl
    here (suc k) rest =
        let more : (suc (suc k) == 1) ≡ false = grind (arith, nat_tests) in
        let one : suc (suc k) - 1 ≡ suc k = omega arith in
        rw (more, one) (rest k)

    choice : (b : Bool) (k : ℕ) → ((i : ℕ) → version_in xs m (suc i) ≡ slice_get (filter (has name_cmp module_name m) xs) i)
        → (if b then (if suc k == 1 then Some x else version_in xs m (suc k - 1)) else version_in xs m (suc k)) ≡ slice_get (cond b (x ∷ filter (has name_cmp module_name m) xs) (filter (has name_cmp module_name m) xs)) k
    choice true k rest = here k rest
    choice false k rest = rest k

pub version_found : (code units : List ModuleTree) → IsInOrder name_cmp module_name code units → (m : List ℕ) (k : ℕ) → version_among units m k ≡ version_in code m k
version_found code units same m zero = sym (no_version_zero code m)
version_found code units same m (suc k) = ap (λ xs. slice_get xs k) (same.alike m) ∙ sym (later code m k)

-- version k stands k - 1 places behind the first of the name
module _ (units : List ModuleTree) (m : List ℕ) (up : IsSortedByKey module_name name_cmp units) (i : ℕ) (parted : IsPartitionPoint (λ x. is_lt (name_cmp (module_name x) m) ≡ true) (λ x. is_lt (name_cmp (module_name x) m) ≡ false) units i) where
  stands : (k at : ℕ) → i + k ≡ at → version_among units m (suc k) ≡ kept name_cmp nat_list_cmp_total module_name m (slice_get units at)
  stands k at e = halved name_cmp nat_list_cmp_total module_name m units i k up parted ∙ ap (λ n. kept name_cmp nat_list_cmp_total module_name m (slice_get units n)) e

  pub past : (version at : ℕ) → 0 < version → i + (version - 1) ≡ at → length units ≤ at → None ≡ version_among units m version
  past zero at p e far = absurd (omega arith)
  past (suc k) at p e far = sym (stands k at (omega arith) ∙ ap (kept name_cmp nat_list_cmp_total module_name m) (slice_get_past units at far))

  pub read : (version at : ℕ) → 0 < version → i + (version - 1) ≡ at → (x : ModuleTree) → at < length units → x ≡ get_or units at x → (b : Bool) → is_eq (name_cmp (module_name x) m) ≡ b → version_among units m version ≡ cond b (Some x) None
  read zero at p e x inside is b h = absurd (omega arith)
  read (suc k) at p e x inside is b h =
      stands k at (omega arith)
      ∙ ap (kept name_cmp nat_list_cmp_total module_name m) (slice_get_read units (length units) at x refl inside is)
      ∙ ap (λ b. cond b (Some x) None) h
