-- The functions of a module.

use Rattle.std.proofs.Common.{◌≡◌, ◌∙◌, ℕ, Bool, true, false, if◌then◌else◌, ◌&&◌, ◌==◌, List, [], ◌∷◌, Option, None, Some, refl, sym, ap}
use Rattle.std.proofs.lemmas.Bool.{and_parts}
use Rattle.std.proofs.lemmas.Bool.Decides.{Decides-eqb}
use Rattle.edb_lang.specs.TermText.{same_name}
use Rattle.edb_syntax.specs.Syntax.{FunctionTree}
use Rattle.edb_syntax.specs.Lookup.{function_in}

-- a function that is found has so many parameters
pub found_arity : (gs : List FunctionTree) (f : List ℕ) (n : ℕ) (g : FunctionTree) → Some g ≡ function_in gs f n → g.arity ≡ n
found_arity [] f n g e = absurd (cc)
found_arity (h ∷ gs) f n g e = go (same_name h.name f && h.arity == n) refl (found_arity gs f n g) e
  where
    go : (b : Bool) → (same_name h.name f && h.arity == n) ≡ b → (Some g ≡ function_in gs f n → g.arity ≡ n) → Some g ≡ (if b then Some h else function_in gs f n) → g.arity ≡ n
    go true is rest e =
        let parts = and_parts (same_name h.name f) (h.arity == n) is in
        let same : g ≡ h = cc in
        ap (λ k. k.arity) same ∙ (Decides-eqb h.arity n).0 parts.1
    go false is rest e = rest e

-- where the module exports it, and where it doesn't
pub if_exported : (b : Bool) (o r : Option FunctionTree) → b ≡ true → r ≡ o → r ≡ (if b then o else None)
if_exported b o r e f = f ∙ ap (λ t. if t then o else None) (sym e)

pub if_kept : (b : Bool) (o : Option FunctionTree) → b ≡ false → None ≡ (if b then o else None)
if_kept b o e = ap (λ t. if t then o else None) (sym e)
