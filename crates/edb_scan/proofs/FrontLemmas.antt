-- Two fronts of one text.
use Rattle.std.proofs.Common.{◌≡◌, ℕ, ◌≤◌, map, Bool, true, List, [], ◌∷◌, ◌++◌, length, refl, ap, arith}
use Rattle.std.proofs.lemmas.Bool.{and_parts}
use Rattle.std.specs.List.{list_all}
use Rattle.edb_scan.specs.Fronts.{Stops}

-- fronts of one length are the same, and so is what comes after them
pub same_front : (t u v w : List ℕ) → t ++ u ≡ v ++ w → length t ≡ length v → (t ≡ v) × (u ≡ w)
same_front [] u [] w e l = (refl, e)
same_front [] u (d ∷ v) w e l = absurd (omega arith)
same_front (c ∷ t) u [] w e l = absurd (omega arith)
same_front (c ∷ t) u (d ∷ v) w e l =
    let tails : t ++ u ≡ v ++ w = cc in
    let same = same_front t u v w tails (omega arith) in
    let heads : c ≡ d = cc in
    (cc same.0, same.1)

-- a run that has stopped is as long as any
pub run_longest : (p : ℕ → Bool) (t u v w : List ℕ) → t ++ u ≡ v ++ w → Stops p u → list_all p v ≡ true → length v ≤ length t
run_longest p t u [] w e s a = omega arith
run_longest p [] [] (d ∷ v) w e s a = absurd (cc)
run_longest p [] (c ∷ u) (d ∷ v) w e s a =
    let yes : p d ≡ true = (and_parts (p d) (list_all p v) a).0 in
    let same : c ≡ d = cc in
    absurd (cc)
run_longest p (c ∷ t) u (d ∷ v) w e s a =
    let tails : t ++ u ≡ v ++ w = cc in
    let shorter = run_longest p t u v w tails s (and_parts (p d) (list_all p v) a).1 in
    omega arith

pub map_same : (xs : List ℕ) → map (λ x. x) xs ≡ xs
map_same [] = refl
map_same (x ∷ xs) = ap (λ t. x ∷ t) (map_same xs)
