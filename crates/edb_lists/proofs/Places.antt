-- The first element that passes a test, found in a walk from the front.

use Rattle.std.proofs.Common.{◌≡◌, ℕ, ◌+◌, ◌<◌, ◌≤◌, Bool, true, false, cond, List, map, drop, length, get_or, Some, None, position, sym, ap, ◌∙◌}
use Rattle.std.specs.List.{position_from}
use Rattle.std.proofs.lemmas.List.{at_drop_more, at_drop_all, get_or-map}
use Rattle.std.proofs.lemmas.Iterator.Adapters.{position_from-zero}

-- an element that was read, among the values of all
pub read_value : {X Y : Type 0} (v : X → Y) (xs : List X) (i : ℕ) (x : X) → i < length xs → x ≡ get_or xs i x → v x ≡ get_or (map v xs) i (v x)
read_value v xs i x h e = ap v e ∙ sym (get_or-map v xs i x (v x) h)

module _ {Y : Type 0} (p : Y → Bool) (ys : List Y) (i : ℕ) where
  -- of the elements from i on
  abbrev pub Left : Type 0
  Left = position_from p i (drop i ys) ≡ position_from p 0 ys

  step : (b : Bool) (y : Y) → i < length ys → y ≡ get_or ys i y → p y ≡ b → position_from p i (drop i ys) ≡ cond b (Some i) (position_from p (i + 1) (drop (i + 1) ys))
  step b y h e t =
      at_drop_more (position_from p i) ys i y h
      ∙ ap (λ z. cond (p z) (Some i) (position_from p (i + 1) (drop (i + 1) ys))) (sym e)
      ∙ ap (λ c. cond c (Some i) (position_from p (i + 1) (drop (i + 1) ys))) t

  pub place_here : (y : Y) → i < length ys → y ≡ get_or ys i y → p y ≡ true → Left → Some i ≡ position p ys
  place_here y h e t left = sym (step true y h e t) ∙ left ∙ sym (position_from-zero p ys)

  pub place_later : (y : Y) → i < length ys → y ≡ get_or ys i y → p y ≡ false → Left → position_from p (i + 1) (drop (i + 1) ys) ≡ position_from p 0 ys
  place_later y h e t left = sym (step false y h e t) ∙ left

  pub place_nowhere : length ys ≤ i → Left → None ≡ position p ys
  place_nowhere h left = sym (at_drop_all (position_from p i) ys i h) ∙ left ∙ sym (position_from-zero p ys)
