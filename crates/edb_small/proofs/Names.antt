-- Names that are bound.

use Rattle.std.proofs.Common.{◌≡◌, Bool, true, false, ℕ, Bor, map, List, [], ◌∷◌, ◌++◌, refl, sym, ap, ◌∙◌, append_assoc}
use Rattle.std.specs.Prelude.{◌&&◌, not, reverse}
use Rattle.std.proofs.lemmas.List.{append-nil}
use Rattle.std.proofs.lemmas.List.Sorted.{list_any-IsPermutation, IsPermutation-reverse}
use Rattle.edb_lang.specs.Syntax.{Pat}
use Rattle.edb_lang.specs.TermText.{same_name}
use Rattle.edb_small.specs.Conditions.{is_among, differ, names_of, name_of}

-- those behind the ones that are left are bound, and differ
pub record Bound (all left : List Pat) (scope : List (List ℕ)) : Type 0 where
  pub done : List Pat
  pub parts : all ≡ left ++ done
  pub names : scope ≡ names_of done
  pub fine : differ (names_of done) ≡ true

pub bound_first : (all : List Pat) (scope : List (List ℕ)) → scope ≡ [] → Bound all all scope
bound_first all scope e = record { done = []; parts = sym (append-nil all); names = e; fine = refl }

pub bound_last : (all left : List Pat) (scope : List (List ℕ)) → Bound all left scope → left ≡ [] → (differ (names_of all) ≡ true) × (scope ≡ names_of all)
bound_last all left scope b e =
    let is : all ≡ b.done = b.parts ∙ ap (λ ps. ps ++ b.done) e in
    (ap (λ ps. differ (names_of ps)) is ∙ b.fine, b.names ∙ ap names_of (sym is))

regroup : (all left front done : List Pat) (last : Pat) → all ≡ left ++ done → left ≡ front ++ (last ∷ []) → all ≡ front ++ (last ∷ done)
regroup all left front done last a l = a ∙ ap (λ ps. ps ++ done) l ∙ append_assoc front (last ∷ []) done

pub bound_turn : (all left front : List Pat) (last : Pat) (scope next : List (List ℕ)) → Bound all left scope → left ≡ front ++ (last ∷ []) → is_among (name_of last) scope ≡ false
    → next ≡ name_of last ∷ scope → Bound all front next
bound_turn all left front last scope next b l free n = record {
  done = last ∷ b.done;
  parts = regroup all left front b.done last b.parts l;
  names = n ∙ ap (λ xs. name_of last ∷ xs) b.names;
  fine = let here : is_among (name_of last) (names_of b.done) ≡ false = ap (is_among (name_of last)) (sym b.names) ∙ free in rw here b.fine;
}

both_fail : (a b : Bool) → b ≡ false → (a && b) ≡ false
both_fail true b e = e
both_fail false b e = refl

differ_behind : (front done : List Pat) → differ (names_of done) ≡ false → differ (names_of (front ++ done)) ≡ false
differ_behind [] done e = e
differ_behind (p ∷ front) done e = both_fail (not (is_among (name_of p) (names_of (front ++ done)))) (differ (names_of (front ++ done))) (differ_behind front done e)

pub bound_clash : (all left front : List Pat) (last : Pat) (scope : List (List ℕ)) → Bound all left scope → left ≡ front ++ (last ∷ []) → is_among (name_of last) scope ≡ true → differ (names_of all) ≡ false
bound_clash all left front last scope b l taken =
    let here : is_among (name_of last) (names_of b.done) ≡ true = ap (is_among (name_of last)) (sym b.names) ∙ taken in
    let clash : differ (names_of (last ∷ b.done)) ≡ false = rw here refl in
    ap (λ ps. differ (names_of ps)) (regroup all left front b.done last b.parts l) ∙ differ_behind front (last ∷ b.done) clash

pub among_reverse : (x : List ℕ) (xs : List (List ℕ)) → is_among x (reverse xs) ≡ is_among x xs
among_reverse x xs = sym (list_any-IsPermutation (same_name x) xs (reverse xs) (IsPermutation-reverse xs))

-- behind references, the last one first
pub seen_reversed : (x : List ℕ) (seen items : List (Bor (List ℕ))) (answer : Bool) → seen ≡ items → is_among x (map (λ n. n.now) seen) ≡ answer
    → is_among x (reverse (map (λ n. n.now) items)) ≡ answer
seen_reversed x seen items answer e h = among_reverse x (map (λ n. n.now) items) ∙ ap (λ ns. is_among x (map (λ n. n.now) ns)) (sym e) ∙ h
