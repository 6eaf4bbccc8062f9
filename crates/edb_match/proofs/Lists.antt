-- Pairs in the order in which they were bound, with one more; what is bound in the first of them; the elements of a
-- tuple; the measure of the recursion.

use Rattle.std.proofs.Common.{◌≡◌, ◌≢◌, suc, ap, refl, sym, ◌∙◌, arith, true≢false, ℕ, List, [], ◌∷◌, ◌++◌, ◌≤◌, ◌*◌, ◌+◌, length, take, get_or}
use Rattle.std.specs.Prelude.{Option, None, Some, true, false}
use Rattle.std.specs.Option.{option_or, option_and_then}
use Rattle.std.specs.declared.cmp.Ordering.{Ordering}
use Rattle.std.specs.declared.cmp.Ordering.TheVariants.{Less, Equal, Greater}
use Rattle.std.specs.Ordering.{nat_cmp, is_eq}
use Rattle.std.specs.Cmp.Lexicographic.{slice_cmp}
use Rattle.std.proofs.lemmas.List.{take_more}
use denote.Param.Weighed.{most}
use Rattle.edb_lang.specs.declared.term.Captured.{Captured}
use Rattle.edb_lang.specs.Pairs.{Pairs, bound, by_order}
use Rattle.edb_lang.specs.Terms.{Datum, of_list}
use Rattle.edb_lang.specs.TermViews.{pairs_of}
use Rattle.edb_pure.specs.Tuples.{items_of}
use Rattle.edb_moves.specs.Matching.{matched, all_matched}
use Rattle.edb_syntax.specs.Patterns.{Pat, pats_of}
use Rattle.edb_syntax.specs.declared.pattern.Pattern.TheDeep.{size-Pattern}
use Rattle.edb_syntax.specs.Sizes.{patterns_size}
use Rattle.edb_match.specs.declared.lent.Lent.{Lent}
use Rattle.edb_match.specs.Newest.{newest_first}
use Rattle.edb_match.specs.Views.{with_lent}

pub newest_first-push : (cs : List Captured) (c : Captured) (bs : Pairs) → newest_first (cs ++ c ∷ []) bs ≡ (c.name, c.value) ∷ newest_first cs bs
newest_first-push [] c bs = refl
newest_first-push (d ∷ cs) c bs = newest_first-push cs c ((d.name, d.value) ∷ bs)

pub with_lent-push : (ls : List Lent) (l : Lent) (bs : Pairs) → with_lent (ls ++ l ∷ []) bs ≡ (l.name.now, l.value.now) ∷ with_lent ls bs
with_lent-push [] l bs = refl
with_lent-push (k ∷ ls) l bs = with_lent-push ls l ((k.name.now, k.value.now) ∷ bs)

pub pairs_of-append : (cs ds : List Captured) → pairs_of (cs ++ ds) ≡ pairs_of cs ++ pairs_of ds
pairs_of-append [] ds = refl
pairs_of-append (c ∷ cs) ds = ap (λ ps. (c.name, c.value) ∷ ps) (pairs_of-append cs ds)

pub pairs_of-push : (cs : List Captured) (c : Captured) (ps : Pairs) → pairs_of (cs ++ c ∷ []) ++ ps ≡ pairs_of cs ++ (c.name, c.value) ∷ ps
pairs_of-push [] c ps = refl
pairs_of-push (d ∷ cs) c ps = ap (λ qs. (d.name, d.value) ∷ qs) (pairs_of-push cs c ps)

pub items_of-of_list : (ts : List Datum) → items_of (of_list ts) ≡ ts
items_of-of_list [] = refl
items_of-of_list (t ∷ ts) = ap (λ us. t ∷ us) (items_of-of_list ts)

pub most-size_le-patterns_size : (ps : List Pat) → most (λ p. size-Pattern p) ps ≤ 2 * (patterns_size (pats_of ps) + 1)
most-size_le-patterns_size [] = omega arith
most-size_le-patterns_size (p ∷ ps) = omega (arith, most-size_le-patterns_size ps)

-- the first n elements, by the last of them
pub take_last : {A : Type 0} (xs : List A) (i n : ℕ) (x : A) → i + 1 ≡ n → n ≤ length xs → x ≡ get_or xs i x → take n xs ≡ take i xs ++ x ∷ []
take_last xs i n x next le is =
    ap (λ j. take j xs) (sym next) ∙ take_more xs i x (omega arith) ∙ ap (λ y. take i xs ++ y ∷ []) (sym is)

pub with_lent-take : (ls : List Lent) (bs : Pairs) (i n : ℕ) (l : Lent) → i + 1 ≡ n → n ≤ length ls → l ≡ get_or ls i l → with_lent (take n ls) bs ≡ (l.name.now, l.value.now) ∷ with_lent (take i ls) bs
with_lent-take ls bs i n l next le is = ap (λ ks. with_lent ks bs) (take_last ls i n l next le is) ∙ with_lent-push (take i ls) l bs

-- a look-up in the first n pairs, by the last of them
pub bound-newest_first : (x : List ℕ) (cs : List Captured) (i n : ℕ) (c : Captured) → i + 1 ≡ n → n ≤ length cs → c ≡ get_or cs i c → bound x (newest_first (take n cs) []) ≡ by_order (slice_cmp nat_cmp x c.name) (bound x (newest_first (take i cs) [])) (Some c.value) (bound x (newest_first (take i cs) []))
bound-newest_first x cs i n c next le is =
    ap (λ ds. bound x (newest_first ds [])) (take_last cs i n c next le is) ∙ ap (bound x) (newest_first-push (take i cs) c [])

pub bound-with_lent : (x : List ℕ) (ls : List Lent) (bs : Pairs) (i n : ℕ) (l : Lent) → i + 1 ≡ n → n ≤ length ls → l ≡ get_or ls i l → bound x (with_lent (take n ls) bs) ≡ by_order (slice_cmp nat_cmp x l.name.now) (bound x (with_lent (take i ls) bs)) (Some l.value.now) (bound x (with_lent (take i ls) bs))
bound-with_lent x ls bs i n l next le is = ap (bound x) (with_lent-take ls bs i n l next le is)

pub by_order-same : {A : Type 0} (o : Ordering) (a b : A) → is_eq o ≡ true → by_order o a b a ≡ b
by_order-same Less a b e = absurd (true≢false (sym e))
by_order-same Equal a b e = refl
by_order-same Greater a b e = absurd (true≢false (sym e))

pub by_order-other : {A : Type 0} (o : Ordering) (a b : A) → is_eq o ≡ false → by_order o a b a ≡ a
by_order-other Less a b e = refl
by_order-other Equal a b e = absurd (true≢false e)
by_order-other Greater a b e = refl

by_order-or : (o : Ordering) (r s : Option Datum) (t : Datum) → by_order o (option_or r s) (Some t) (option_or r s) ≡ option_or (by_order o r (Some t) r) s
by_order-or Less r s t = refl
by_order-or Equal r s t = refl
by_order-or Greater r s t = refl

-- pairs in front of others: what they don't bind the others do
bound-append : (x : List ℕ) (ps qs : Pairs) → bound x (ps ++ qs) ≡ option_or (bound x ps) (bound x qs)
bound-append x [] qs = refl
bound-append x (p ∷ ps) qs =
    ap (λ r. by_order (slice_cmp nat_cmp x p.0) r (Some p.1) r) (bound-append x ps qs)
    ∙ by_order-or (slice_cmp nat_cmp x p.0) (bound x ps) (bound x qs) p.1

pub newest_first-append : (cs : List Captured) (ps qs : Pairs) → newest_first cs (ps ++ qs) ≡ newest_first cs ps ++ qs
newest_first-append [] ps qs = refl
newest_first-append (c ∷ cs) ps qs = newest_first-append cs ((c.name, c.value) ∷ ps) qs

pub bound_stack : (x : List ℕ) (cs : List Captured) (bs : Pairs) → bound x (newest_first cs bs) ≡ option_or (bound x (newest_first cs [])) (bound x bs)
bound_stack x cs bs = ap (bound x) (newest_first-append cs [] bs) ∙ bound-append x (newest_first cs []) bs

-- patterns and terms of which there aren't as many
behind_first : (p : Pat) (ps : List Pat) (v : Datum) (vs : List Datum) (cs : Option Pairs) → ((ds : Pairs) → all_matched (pats_of ps) vs ds ≡ None) → option_and_then (λ ds. all_matched (pats_of ps) vs ds) cs ≡ None
behind_first p ps v vs (Some ds) h = h ds
behind_first p ps v vs None h = refl

pub uneven : (ps : List Pat) (vs : List Datum) (bs : Pairs) → length ps ≢ length vs → all_matched (pats_of ps) vs bs ≡ None
uneven [] [] bs h = absurd (h refl)
uneven [] (v ∷ vs) bs h = refl
uneven (p ∷ ps) [] bs h = refl
uneven (p ∷ ps) (v ∷ vs) bs h = behind_first p ps v vs (matched p v bs) (λ ds. uneven ps vs ds (λ e. h (ap suc e)))

pub ruleset lists = (
  newest_first-push,
  with_lent-push,
  pairs_of-append,
  items_of-of_list,
  most-size_le-patterns_size,
)
