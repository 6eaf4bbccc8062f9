-- A list without the first element that equals a term, place by place.

use Rattle.std.proofs.Common.{◌≡◌, ℕ, zero, suc, ◌<◌, List, [], ◌∷◌, ◌++◌, true, false, if◌then◌else◌, map, take, drop, length, get_or, Bor, sym, ap, ◌∙◌}
use Rattle.std.proofs.Math.Seq.{drop-cons}
use Rattle.std.proofs.lemmas.List.{drop-map, take-map, map-append}
use Rattle.std.specs.List.{remove}
use Rattle.edb_lang.specs.Terms.{Datum}
use Rattle.edb_pure.specs.Truths.{same_term}
use Rattle.edb_pure.specs.Lists.{without_first}

abbrev pub nows : List (Bor Datum) → List Datum
nows xs = map (λ t. t.now) xs

-- what stands from a place on
pub parted : (xs : List (Bor Datum)) (i : ℕ) (x : Bor Datum) → i < length xs → x ≡ get_or xs i x → drop i (nows xs) ≡ x.now ∷ drop (suc i) (nows xs)
parted xs i x h e = drop-map (λ t. t.now) i xs ∙ ap nows (drop-cons xs i x h) ∙ (λ k. (sym e k).now ∷ sym (drop-map (λ t. t.now) (suc i) xs) k)

-- the element at this place goes
pub found : (x : Datum) (ts : List Datum) (i : ℕ) (y : Datum) → drop i ts ≡ y ∷ drop (suc i) ts → same_term x y ≡ true → take i ts ++ without_first x (drop i ts) ≡ remove ts i
found x ts i y e f = ap (λ us. take i ts ++ without_first x us) e ∙ ap (λ b. take i ts ++ (if b then drop (suc i) ts else y ∷ without_first x (drop (suc i) ts))) f

-- the element at this place stays
pub missed : (x : Datum) (ts : List Datum) (i : ℕ) (y : Datum) → drop i ts ≡ y ∷ drop (suc i) ts → same_term x y ≡ false → take i ts ++ without_first x (drop i ts) ≡ take (suc i) ts ++ without_first x (drop (suc i) ts)
missed x [] zero y e f = absurd (cc)
missed x [] (suc i) y e f = absurd (cc)
missed x (t ∷ ts) zero y e f =
    let same : t ≡ y = cc in
    ap (λ b. if b then ts else t ∷ without_first x ts) (ap (same_term x) same ∙ f)
missed x (t ∷ ts) (suc i) y e f = ap (λ us. t ∷ us) (missed x ts i y e f)

pub removed : (xs : List (Bor Datum)) (i : ℕ) → nows (remove xs i) ≡ remove (nows xs) i
removed xs i = simp (map-append, take-map, drop-map)
