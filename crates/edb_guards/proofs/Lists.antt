-- The lists of operands, as terms; a guard that is written.

use Rattle.std.proofs.Common.{◌≡◌, ap, refl, List, [], ◌∷◌, ◌++◌, ◌<◌, map, length, ℕ, pos, arith}
use Rattle.edb_lang.specs.Terms.{Datum, int, nil, cons}
use Rattle.edb_lang.specs.ListTerms.{list_of, string_of}
use Rattle.edb_lang.specs.Pairs.{Pairs}
use Rattle.edb_syntax.specs.Syntax.{Exps, guards_of}
use Rattle.edb_moves.specs.Built.{ended_by_last}
use Rattle.edb_moves.specs.Guards.{holds, some_holds}

-- a string is the list of its code points
pub list_of_points : (cs : List ℕ) → list_of (map (λ c. int (pos c)) cs) nil ≡ string_of cs
list_of_points [] = refl
list_of_points (c ∷ cs) = ap (cons (int (pos c))) (list_of_points cs)

-- what ends in its last term is the list of the others with that tail
pub ended-last : {A : Type 0} (f : A → Datum) (xs : List A) (x : A) → ended_by_last (map f (xs ++ x ∷ [])) ≡ list_of (map f xs) (f x)
ended-last f [] x = refl
ended-last f (u ∷ []) x = refl
ended-last f (u ∷ (v ∷ xs)) x = ap (cons (f u)) (ended-last f (v ∷ xs) x)

-- a guard that is written holds if one of its alternatives does
pub holds-some : (me : ℕ) (bs : Pairs) (gs : List Exps) → 0 < length gs → holds me bs (guards_of gs) ≡ some_holds me bs (guards_of gs)
holds-some me bs [] some = absurd (omega arith)
holds-some me bs (es ∷ gs) some = refl
