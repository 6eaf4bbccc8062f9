-- The functions of a module, one after the other: the keys of those before, and those that are defined again.

use Rattle.std.specs.Prelude.{ℕ, ◌+◌, ◌<◌, Bool, List, [], ◌∷◌, ◌++◌, length, take, drop}
use Rattle.std.proofs.Common.{◌≡◌, sym, ap, subst, ◌∙◌, get_or}
use Rattle.std.proofs.lemmas.List.{map-append, take_more}
use Rattle.edb_syntax.specs.Syntax.{FunctionTree}
use Rattle.edb_check.specs.declared.fault.CheckKind.TheVariants.{Duplicate}
use Rattle.edb_check.specs.declared.walk.Walk.{Walk}
use Rattle.edb_check.specs.Faults.{fault_if}
use Rattle.edb_check.specs.Functions.{key_of, keys_of, is_defined}
use Rattle.edb_check.specs.Modules.{duplicates}
use Rattle.edb_check.specs.Walking.{Part, only, Walks, Goes}
use Rattle.edb_check.proofs.Going.{goes_part, item_first}

module _ (fs : List FunctionTree) (i : ℕ) (f : FunctionTree) (is : f ≡ get_or fs i f) (lt : i < length fs) where
  pub keys_more : keys_of (take (i + 1) fs) ≡ keys_of (take i fs) ++ key_of f ∷ []
  keys_more = ap keys_of (take_more fs i f lt ∙ ap (λ g. take i fs ++ g ∷ []) (sym is)) ∙ map-append key_of (take i fs) (f ∷ [])

  pub duplicate_told : {old now next : Walk} {whole : Part} (b : Bool) → b ≡ is_defined (keys_of (take i fs)) (key_of f) →
      Walks now next (only (fault_if b f.line Duplicate)) →
      Goes old now whole (only (duplicates (keys_of (take i fs)) (drop i fs))) →
      Goes old next whole (only (duplicates (keys_of (take (i + 1) fs)) (drop (i + 1) fs)))
  duplicate_told {old = old} {now = now} {next = next} {whole = whole} b tells w g =
      let told = subst (λ c. Walks now next (only (fault_if c f.line Duplicate))) tells w in
      let gone = goes_part told (subst (λ gs. Goes old now whole (only (duplicates (keys_of (take i fs)) gs))) (item_first fs i f is lt) g) in
      subst (λ ks. Goes old next whole (only (duplicates ks (drop (i + 1) fs)))) (sym keys_more) gone
