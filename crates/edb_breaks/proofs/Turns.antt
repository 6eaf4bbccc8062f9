-- A loop that writes f x over each element x of xs, and notes whether one passed a test p.

use Rattle.std.proofs.Common.{◌≡◌, ℕ, ◌+◌, ◌-◌, ◌<◌, Bool, ◌||◌, List, ◌++◌, length, get_or, set, map, take, drop, sym, ap, ◌∙◌, arith}
use Rattle.std.specs.List.{list_any}
use Rattle.std.proofs.Math.Bool.{or_comm}
use Rattle.std.proofs.lemmas.List.{append-nil, drop_all, get_or-append_right, get_or-drop, length-map, length-take, take_all}
use Rattle.std.proofs.lemmas.List.Edits.{map_over_more}
use Rattle.std.proofs.lemmas.List.Folds.{list_any_more}

-- The loop has come to place i: ys is what it made of xs so far, and x comes next.
module _ {X : Type 0} (f : X → X) (p : X → Bool) (xs ys : List X) (i : ℕ) (x : X) (within : i < length xs) (so_far : ys ≡ map f (take i xs) ++ drop i xs) (read : x ≡ get_or ys i x) where
  -- the element that comes is the old one
  unwritten : x ≡ get_or xs i x
  unwritten =
      read ∙ ap (λ l. get_or l i x) so_far
      ∙ get_or-append_right (map f (take i xs)) (drop i xs) i i x (length-map (take i xs) f ∙ omega (arith, length-take i xs)) (omega arith)
      ∙ get_or-drop i xs (i - i) x
      ∙ ap (λ k. get_or xs k x) (omega arith)

  written : (y : X) → y ≡ f x → set ys i y ≡ map f (take (i + 1) xs) ++ drop (i + 1) xs
  written y is = ap (set ys i) is ∙ map_over_more f xs ys i x within so_far read

  found : (now before : Bool) → now ≡ p x → before ≡ list_any p (take i xs) → (now || before) ≡ list_any p (take (i + 1) xs)
  found now before is was =
      ap (λ b. b || before) (is ∙ ap p unwritten) ∙ ap (λ b. p (get_or xs i x) || b) was
      ∙ or_comm (p (get_or xs i x)) (list_any p (take i xs)) ∙ sym (list_any_more p xs i x within)

  -- what the turn leaves, where y was written and the answer was `now`
  pub turned : (y : X) (now before : Bool) → y ≡ f x → now ≡ p x → before ≡ list_any p (take i xs)
      → (set ys i y ≡ map f (take (i + 1) xs) ++ drop (i + 1) xs) × ((now || before) ≡ list_any p (take (i + 1) xs))
  turned y now before made is was = (written y made, found now before is was)

-- a `Vec` of n elements after ys was written over its elements
pub written_back : {X : Type 0} (n : ℕ) (xs ys : List X) → length xs ≡ n → length ys ≡ length xs → take n (ys ++ drop (length ys) xs) ≡ ys
written_back n xs ys long same =
    ap (λ l. take n (ys ++ l)) (drop_all (length ys) xs (omega arith)) ∙ ap (take n) (append-nil ys) ∙ take_all n ys (omega arith)
