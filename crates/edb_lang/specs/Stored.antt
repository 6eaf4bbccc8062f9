-- Trees of numbers, as which values are stored: integers and names as such trees, and back.

use Rattle.std.specs.Prelude.{◌≡◌, ℕ, zero, ℤ, pos, negsuc, List, [], ◌∷◌, refl}
use Rattle.std.proofs.Common.{ap}
use Rattle.std.specs.Coded.{Coded}
use base.Stored.{Gv, gnil, gnum, gcons}

abbrev pub coded_gv : Coded Gv
coded_gv = record { code = λ g. g; inj = λ x y p. p }

abbrev pub number : Gv → ℕ
number gnil = 0
number (gnum n) = n
number (gcons a b) = 0

abbrev pub stored_int : ℤ → Gv
stored_int (pos n) = gcons (gnum 0) (gnum n)
stored_int (negsuc n) = gcons (gnum 1) (gnum n)

abbrev pub int_in : Gv → ℤ
int_in (gcons (gnum zero) b) = pos (number b)
int_in (gcons a b) = negsuc (number b)
int_in _ = pos 0

pub int_back : (i : ℤ) → int_in (stored_int i) ≡ i
int_back (pos n) = refl
int_back (negsuc n) = refl

abbrev pub stored_name : List ℕ → Gv
stored_name [] = gnil
stored_name (x ∷ xs) = gcons (gnum x) (stored_name xs)

abbrev pub name_in : Gv → List ℕ
name_in (gcons a b) = number a ∷ name_in b
name_in _ = []

pub name_back : (n : List ℕ) → name_in (stored_name n) ≡ n
name_back [] = refl
name_back (x ∷ xs) = ap (λ ys. x ∷ ys) (name_back xs)
