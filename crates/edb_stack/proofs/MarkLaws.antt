-- Layers whose marks lie among the pairs see the same of the pairs after newer ones came, and after these went.

use Rattle.std.proofs.Common.{◌≡◌, ◌≤◌, ◌<◌, ◌-◌, ℕ, zero, suc, List, [], ◌∷◌, ◌++◌, length, drop, unwrap_or, Option, refl, ap, sym, subst, ◌∙◌, arith}
use Rattle.std.proofs.lemmas.List.{length-append, length-drop}
use Rattle.edb_lang.specs.Terms.{Datum, nil}
use Rattle.edb_lang.specs.Pairs.{Pairs}
use Rattle.edb_moves.specs.Running.{Runs, more, value}
use Rattle.edb_variables.specs.PairStacks.{oldest, value_at}
use Rattle.edb_variables.proofs.Stacks.{value_at-older}
use Rattle.edb_stack.specs.Parts.{Item, held, placed, Layer, operands, frame, scope, caught, tried, waiting, body}
use Rattle.edb_stack.specs.Trees.{before}
use Rattle.edb_stack.specs.Marks.{Agree, AllBelow, Marked}

-- THE OLDEST pairs of all: all of them; and none of what was put in front
pub oldest_all : (a : Pairs) → oldest (length a) a ≡ a
oldest_all a = let e : length a - length a ≡ 0 = omega arith in ap (λ n. drop n a) e

pub oldest_behind : (m : ℕ) (new a : Pairs) → m ≤ length a → oldest m (new ++ a) ≡ oldest m a
oldest_behind m [] a h = refl
oldest_behind m (p ∷ new) a h =
    let e : suc (length (new ++ a)) - m ≡ suc (length (new ++ a) - m) = omega (arith, length-append new a, h) in
    ap (λ k. drop k (p ∷ (new ++ a))) e ∙ oldest_behind m new a h

-- the value at a place that is older than what was put in front
pub value_behind : (k : ℕ) (new a : Pairs) → k < length a → value_at k (new ++ a) ≡ value_at k a
value_behind k [] a h = refl
value_behind k (p ∷ new) a h = value_at-older p (new ++ a) k (omega (arith, length-append new a, h)) ∙ value_behind k new a h

-- operands that lie below see the same
pub before_behind : (new a : Pairs) (xs : List Item) (ts : Runs) → AllBelow (length a) xs → before a xs ts ≡ before (new ++ a) xs ts
before_behind new a [] ts h = refl
before_behind new a (held v ∷ xs) ts h = ap (more (value v)) (before_behind new a xs ts h)
before_behind new a (placed k ∷ xs) ts h =
    ap (λ (o : Option Datum). more (value (unwrap_or o nil)) (before a xs ts)) (sym (value_behind k new a h.0))
    ∙ ap (more (value (unwrap_or (value_at k (new ++ a)) nil))) (before_behind new a xs ts h.1)

below_more : (xs : List Item) (m n : ℕ) → m ≤ n → AllBelow m xs → AllBelow n xs
below_more [] m n h b = tt
below_more (held v ∷ xs) m n h b = below_more xs m n h b
below_more (placed k ∷ xs) m n h b = (omega (arith, b.0, h), below_more xs m n h b.1)

-- WHAT LIES AMONG SOME PAIRS lies among more
pub widen : (ls : List Layer) (m n : ℕ) → m ≤ n → Marked ls m → Marked ls n
widen [] m n h k = tt
widen (operands o done rest ∷ ls) m n h k = (below_more done m n h k.0, widen ls m n h k.1)
widen (frame f ∷ ls) m n h k = widen ls m n h k
widen (scope l ∷ ls) m n h k = (omega (arith, k.0, h), k.1)
widen (caught l ∷ ls) m n h k = (omega (arith, k.0, h), k.1)
widen (tried l cs hs ∷ ls) m n h k = (omega (arith, k.0, h), k.1)
widen (waiting l s ∷ ls) m n h k = (omega (arith, k.0, h), k.1)
widen (body o ∷ ls) m n h k = k

-- NEWER PAIRS: the layers see the same of the pairs with them
pub agree_push : (ls : List Layer) (new a : Pairs) → Marked ls (length a) → Agree ls a (new ++ a)
agree_push [] new a k = tt
agree_push (operands o done rest ∷ ls) new a k = (λ ts. before_behind new a done ts k.0, agree_push ls new a k.1)
agree_push (frame f ∷ ls) new a k = agree_push ls new a k
agree_push (scope m ∷ ls) new a k = sym (oldest_behind m new a k.0)
agree_push (caught m ∷ ls) new a k = (sym (oldest_behind m new a k.0), agree_push ls new a (widen ls m (length a) k.0 k.1))
agree_push (tried m cs hs ∷ ls) new a k = (sym (oldest_behind m new a k.0), agree_push ls new a (widen ls m (length a) k.0 k.1))
agree_push (waiting m s ∷ ls) new a k = (sym (oldest_behind m new a k.0), agree_push ls new a (widen ls m (length a) k.0 k.1))
agree_push (body o ∷ ls) new a k = tt

-- pairs are those that are newer than a mark, in front of the others
pub take_front : {X : Type 0} (n : ℕ) (xs : List X) → (new : List X) × (new ++ drop n xs ≡ xs)
take_front {X = X} zero xs = ([], refl)
take_front {X = X} (suc n) [] = ([], refl)
take_front {X = X} (suc n) (x ∷ xs) = let r : (new : List X) × (new ++ drop n xs ≡ xs) = take_front n xs in (x ∷ r.0, ap (λ ys. x ∷ ys) r.1)

pub length_oldest : (m : ℕ) (a : Pairs) → m ≤ length a → length (oldest m a) ≡ m
length_oldest m a h = length-drop (length a - m) a ∙ omega (arith, h)

-- PAIRS THAT GO: layers that were there before them see the same of those that are left
pub agree_cut : (ls : List Layer) (m : ℕ) (a : Pairs) → m ≤ length a → Marked ls m → Agree ls (oldest m a) a
agree_cut ls m a h k =
    let r : (new : Pairs) × (new ++ oldest m a ≡ a) = take_front (length a - m) a in
    subst (λ b. Agree ls (oldest m a) b) r.1 (agree_push ls r.0 (oldest m a) (subst (Marked ls) (sym (length_oldest m a h)) k))
