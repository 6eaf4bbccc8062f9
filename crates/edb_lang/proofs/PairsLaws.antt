-- Bindings: what a further pair leaves and changes.

use Rattle.std.proofs.Common.{◌≡◌, ◌≢◌, ℕ, ◌+◌, ◌<◌, ◌≤◌, List, [], ◌∷◌, ◌++◌, length, get_or, take, drop, suc, add-one, Option, None, Some, ap, sym, subst, ◌∙◌, refl, append_assoc}
use Rattle.std.specs.declared.cmp.Ordering.{Ordering}
use Rattle.std.specs.declared.cmp.Ordering.TheVariants.{Less, Equal, Greater}
use Rattle.std.specs.Ordering.{nat_cmp, ordering_reverse}
use Rattle.std.specs.List.{insert}
use Rattle.std.specs.Cmp.Lexicographic.{slice_cmp}
use Rattle.std.specs.FinMap.{nat_cmp-IsAntisymmetric, slice_cmp-IsAntisymmetric}
use Rattle.std.proofs.lemmas.Cmp.{nat_list_cmp_total, tied_itself}
use Rattle.std.proofs.lemmas.List.{drop_all, take-append-drop}
use Rattle.std.proofs.Math.Seq.{drop-cons, take-suc}
use Rattle.edb_lang.specs.declared.term.Captured.{Captured}
use Rattle.edb_lang.specs.Terms.{Datum}
use Rattle.edb_lang.specs.Pairs.{Pairs, by_order, bound, with_pair, with_pairs, bindings_of, Ascends}
use Rattle.edb_lang.specs.TermViews.{pairs_of}

name_back : (x y : List ℕ) → slice_cmp nat_cmp y x ≡ ordering_reverse (slice_cmp nat_cmp x y)
name_back x y = nat_list_cmp_total.antisymm y x

below_from_above : (x y : List ℕ) → slice_cmp nat_cmp x y ≡ Greater → slice_cmp nat_cmp y x ≡ Less
below_from_above x y e = name_back x y ∙ ap ordering_reverse e

-- a further pair behind a head that is below it, by how its name compares with the next
ascends_case : (x y : List ℕ) (t u : Datum) (p : List ℕ × Datum) (ps : Pairs) (o : Ordering) → slice_cmp nat_cmp x p.0 ≡ o → slice_cmp nat_cmp y x ≡ Less → Ascends ((y, u) ∷ (p ∷ ps))
    → (slice_cmp nat_cmp p.0 x ≡ Less → Ascends (p ∷ with_pair x t ps))
    → Ascends ((y, u) ∷ by_order o ((x, t) ∷ (p ∷ ps)) (p ∷ ps) (p ∷ with_pair x t ps))
ascends_case x y t u p ps Less o e a f = (e, (o, a.1))
ascends_case x y t u p ps Equal o e a f = a
ascends_case x y t u p ps Greater o e a f = (a.0, f (below_from_above x p.0 o))

ascends_after : (x : List ℕ) (t : Datum) (q : List ℕ × Datum) (ps : Pairs) → slice_cmp nat_cmp q.0 x ≡ Less → Ascends (q ∷ ps) → Ascends (q ∷ with_pair x t ps)
ascends_after x t q [] e a = (e, tt)
ascends_after x t q (p ∷ ps) e a = ascends_case x q.0 t q.1 p ps (slice_cmp nat_cmp x p.0) refl e a (λ f. ascends_after x t p ps f a.1)

ascends_first : (x : List ℕ) (t : Datum) (p : List ℕ × Datum) (ps : Pairs) (o : Ordering) → slice_cmp nat_cmp x p.0 ≡ o → Ascends (p ∷ ps)
    → Ascends (by_order o ((x, t) ∷ (p ∷ ps)) (p ∷ ps) (p ∷ with_pair x t ps))
ascends_first x t p ps Less o a = (o, a)
ascends_first x t p ps Equal o a = a
ascends_first x t p ps Greater o a = ascends_after x t p ps (below_from_above x p.0 o) a

pub ascends-with_pair : (x : List ℕ) (t : Datum) (ps : Pairs) → Ascends ps → Ascends (with_pair x t ps)
ascends-with_pair x t [] a = tt
ascends-with_pair x t (p ∷ ps) a = ascends_first x t p ps (slice_cmp nat_cmp x p.0) refl a

pub ascends-with_pairs : (ps qs : Pairs) → Ascends qs → Ascends (with_pairs ps qs)
ascends-with_pairs [] qs a = a
ascends-with_pairs (p ∷ ps) qs a = ascends-with_pairs ps (with_pair p.0 p.1 qs) (ascends-with_pair p.0 p.1 qs a)

pub pairs_of-append : (cs ds : List Captured) → pairs_of (cs ++ ds) ≡ pairs_of cs ++ pairs_of ds
pairs_of-append [] ds = refl
pairs_of-append (c ∷ cs) ds = ap (λ ps. (c.name, c.value) ∷ ps) (pairs_of-append cs ds)

module _ (x : List ℕ) (cs : List Captured) (i : ℕ) where
  -- where it goes before the rest, that is its place
  pub put_at : ((t : Datum) → with_pair x t (pairs_of (drop i cs)) ≡ (x, t) ∷ pairs_of (drop i cs))
      → ((t : Datum) → pairs_of (take i cs) ++ with_pair x t (pairs_of (drop i cs)) ≡ with_pair x t (pairs_of cs))
      → (t : Datum) → pairs_of (insert cs i (record { name = x; value = t })) ≡ with_pair x t (pairs_of cs)
  put_at here past t =
      pairs_of-append (take i cs) (record { name = x; value = t } ∷ drop i cs)
      ∙ ap (λ ps. pairs_of (take i cs) ++ ps) (sym (here t)) ∙ past t

  pub put_last : length cs ≤ i → (t : Datum) → with_pair x t (pairs_of (drop i cs)) ≡ (x, t) ∷ pairs_of (drop i cs)
  put_last h t = rw (drop_all i cs h) refl

  -- the next pair and those behind it
  pub next_pair : (c : Captured) → i < length cs → c ≡ get_or cs i c → drop i cs ≡ c ∷ drop (suc i) cs
  next_pair c h is = drop-cons cs i c h ∙ (λ k. sym is k ∷ drop (suc i) cs)

  pub next_taken : (c : Captured) → i < length cs → c ≡ get_or cs i c → take (suc i) cs ≡ take i cs ++ (c ∷ [])
  next_taken c h is = take-suc cs i c h ∙ (λ k. take i cs ++ (sym is k ∷ []))

  pub put_below : (c : Captured) → i < length cs → c ≡ get_or cs i c → slice_cmp nat_cmp x c.name ≡ Less
      → (t : Datum) → with_pair x t (pairs_of (drop i cs)) ≡ (x, t) ∷ pairs_of (drop i cs)
  put_below c h is below t = rw (next_pair c h is, below) refl

  pub put_nowhere : (c : Captured) → i < length cs → c ≡ get_or cs i c → slice_cmp nat_cmp x c.name ≡ Equal
      → ((t : Datum) → pairs_of (take i cs) ++ with_pair x t (pairs_of (drop i cs)) ≡ with_pair x t (pairs_of cs))
      → (t : Datum) → with_pair x t (pairs_of cs) ≡ pairs_of cs
  put_nowhere c h is same past t =
      let stays : with_pair x t (pairs_of (drop i cs)) ≡ pairs_of (drop i cs) = rw (next_pair c h is, same) refl in
      sym (past t) ∙ ap (λ ps. pairs_of (take i cs) ++ ps) stays ∙ sym (pairs_of-append (take i cs) (drop i cs)) ∙ ap pairs_of (take-append-drop i cs)

  pub put_later : (c : Captured) → i < length cs → c ≡ get_or cs i c → slice_cmp nat_cmp x c.name ≡ Greater
      → ((t : Datum) → pairs_of (take i cs) ++ with_pair x t (pairs_of (drop i cs)) ≡ with_pair x t (pairs_of cs))
      → (t : Datum) → pairs_of (take (i + 1) cs) ++ with_pair x t (pairs_of (drop (i + 1) cs)) ≡ with_pair x t (pairs_of cs)
  put_later c h is above past t =
      let behind : with_pair x t (pairs_of (drop i cs)) ≡ (c.name, c.value) ∷ with_pair x t (pairs_of (drop (suc i) cs)) = rw (next_pair c h is, above) refl in
      rw (add-one i, next_taken c h is, pairs_of-append (take i cs) (c ∷ []))
      (append_assoc (pairs_of (take i cs)) ((c.name, c.value) ∷ []) (with_pair x t (pairs_of (drop (suc i) cs)))
      ∙ ap (λ ps. pairs_of (take i cs) ++ ps) (sym behind) ∙ past t)

-- a pair at its place keeps the names ascending
pub ascends_put : (x : List ℕ) (t : Datum) (cs ds es : List Captured) (i : ℕ) → es ≡ insert cs i (record { name = x; value = t }) → ds ≡ cs
    → pairs_of (insert ds i (record { name = x; value = t })) ≡ with_pair x t (pairs_of ds) → Ascends (pairs_of cs) → Ascends (pairs_of es)
ascends_put x t cs ds es i e d f a =
    let whole : pairs_of es ≡ with_pair x t (pairs_of cs) =
    ap pairs_of e ∙ ap (λ xs. pairs_of (insert xs i (record { name = x; value = t }))) (sym d) ∙ f ∙ ap (λ xs. with_pair x t (pairs_of xs)) d in
    subst Ascends (sym whole) (ascends-with_pair x t (pairs_of cs) a)

-- what a lookup finds by how the names compare
bound_case : (x y : List ℕ) (t : Datum) (p : List ℕ × Datum) (ps : Pairs) (o : Ordering) → slice_cmp nat_cmp x p.0 ≡ o → slice_cmp nat_cmp y x ≢ Equal
    → bound y (with_pair x t ps) ≡ bound y ps
    → bound y (by_order o ((x, t) ∷ (p ∷ ps)) (p ∷ ps) (p ∷ with_pair x t ps)) ≡ bound y (p ∷ ps)
bound_case x y t p ps Less o n h = passes x y t (p ∷ ps) (slice_cmp nat_cmp y x) n
  where
    passes : (x y : List ℕ) (t : Datum) (ps : Pairs) (o : Ordering) → (o ≢ Equal) → by_order o (bound y ps) (Some t) (bound y ps) ≡ bound y ps
    passes x y t ps Less n = refl
    passes x y t ps Equal n = absurd (n refl)
    passes x y t ps Greater n = refl
bound_case x y t p ps Equal o n h = refl
bound_case x y t p ps Greater o n h = ap (λ b. by_order (slice_cmp nat_cmp y p.0) b (Some p.1) b) h

-- a further pair leaves the values of the other names
pub bound-with_pair_other : (x y : List ℕ) (t : Datum) (ps : Pairs) → slice_cmp nat_cmp y x ≢ Equal → bound y (with_pair x t ps) ≡ bound y ps
bound-with_pair_other x y t [] n = passes (slice_cmp nat_cmp y x) n
  where
    passes : (o : Ordering) → (o ≢ Equal) → by_order o None (Some t) None ≡ None
    passes Less n = refl
    passes Equal n = absurd (n refl)
    passes Greater n = refl
bound-with_pair_other x y t (p ∷ ps) n = bound_case x y t p ps (slice_cmp nat_cmp x p.0) refl n (bound-with_pair_other x y t ps n)

name_itself : (x : List ℕ) → slice_cmp nat_cmp x x ≡ Equal
name_itself x = tied_itself nat_list_cmp_total x

-- the value of a name or else another
abbrev pub or_else : Option Datum → Option Datum → Option Datum
or_else (Some t) b = Some t
or_else None b = b

-- the name's own value after a further pair of that name: what was there, or else the new one
own_case : (x : List ℕ) (t : Datum) (p : List ℕ × Datum) (ps : Pairs) (o : Ordering) → slice_cmp nat_cmp x p.0 ≡ o → bound x (with_pair x t ps) ≡ or_else (bound x ps) (Some t)
    → (o ≡ Less → bound x ps ≡ None)
    → bound x (by_order o ((x, t) ∷ (p ∷ ps)) (p ∷ ps) (p ∷ with_pair x t ps)) ≡ or_else (by_order o (bound x ps) (Some p.1) (bound x ps)) (Some t)
own_case x t p ps Less o h n = rw (name_itself x, n refl) refl
own_case x t p ps Equal o h n = rw o refl
own_case x t p ps Greater o h n = rw o h

-- a name below all is not there
absent_case : (x : List ℕ) (p : List ℕ × Datum) (ps : Pairs) (o : Ordering) → o ≡ Less → bound x ps ≡ None → by_order o (bound x ps) (Some p.1) (bound x ps) ≡ None
absent_case x p ps Less e h = h
absent_case x p ps Equal e h = absurd (cc)
absent_case x p ps Greater e h = absurd (cc)

pub bound-below : (x : List ℕ) (p : List ℕ × Datum) (ps : Pairs) → Ascends (p ∷ ps) → slice_cmp nat_cmp x p.0 ≡ Less → bound x (p ∷ ps) ≡ None
bound-below x p [] a e = absent_case x p [] (slice_cmp nat_cmp x p.0) e refl
bound-below x p (q ∷ qs) a e =
    absent_case x p (q ∷ qs) (slice_cmp nat_cmp x p.0) e (bound-below x q qs a.1 (nat_list_cmp_total.trans x p.0 q.0 e a.0))

absent_behind : (x : List ℕ) (p : List ℕ × Datum) (ps : Pairs) → Ascends (p ∷ ps) → slice_cmp nat_cmp x p.0 ≡ Less → bound x ps ≡ None
absent_behind x p [] a e = refl
absent_behind x p (q ∷ qs) a e = bound-below x q qs a.1 (nat_list_cmp_total.trans x p.0 q.0 e a.0)

ascends_tail : (p : List ℕ × Datum) (ps : Pairs) → Ascends (p ∷ ps) → Ascends ps
ascends_tail p [] a = tt
ascends_tail p (q ∷ qs) a = a.1

pub bound-with_pair : (x : List ℕ) (t : Datum) (ps : Pairs) → Ascends ps → bound x (with_pair x t ps) ≡ or_else (bound x ps) (Some t)
bound-with_pair x t [] a = rw (name_itself x) refl
bound-with_pair x t (p ∷ ps) a =
    own_case x t p ps (slice_cmp nat_cmp x p.0) refl (bound-with_pair x t ps (ascends_tail p ps a)) (λ e. absent_behind x p ps a e)

-- what is bound after many pairs: what was there, or else the first of that name
bound-with_pairs_case : (y : List ℕ) (p : List ℕ × Datum) (b c d : Option Datum) (o : Ordering) → (o ≡ Equal → d ≡ or_else b (Some p.1)) → (o ≢ Equal → d ≡ b)
    → or_else d c ≡ or_else b (by_order o c (Some p.1) c)
bound-with_pairs_case y p b c d Less same other = rw (other (λ e. absurd (cc))) refl
bound-with_pairs_case y p (Some t) c d Equal same other = rw (same refl) refl
bound-with_pairs_case y p None c d Equal same other = rw (same refl) refl
bound-with_pairs_case y p b c d Greater same other = rw (other (λ e. absurd (cc))) refl

same_name : (x y : List ℕ) → slice_cmp nat_cmp x y ≡ Equal → x ≡ y
same_name x y e = slice_cmp-IsAntisymmetric nat_cmp-IsAntisymmetric x y e

pub bound-with_pairs : (y : List ℕ) (ps qs : Pairs) → Ascends qs → bound y (with_pairs ps qs) ≡ or_else (bound y qs) (bound y ps)
bound-with_pairs y [] qs a = sym (or_else-None (bound y qs))
  where
    or_else-None : (b : Option Datum) → or_else b None ≡ b
    or_else-None (Some t) = refl
    or_else-None None = refl
bound-with_pairs y (p ∷ ps) qs a =
    bound-with_pairs y ps (with_pair p.0 p.1 qs) (ascends-with_pair p.0 p.1 qs a)
    ∙ bound-with_pairs_case y p (bound y qs) (bound y ps) (bound y (with_pair p.0 p.1 qs)) (slice_cmp nat_cmp y p.0)
    (λ e. rw (same_name y p.0 e) (bound-with_pair p.0 p.1 qs a))
    (λ n. bound-with_pair_other p.0 y p.1 qs n)

pub bound-bindings_of : (y : List ℕ) (ps : Pairs) → bound y (bindings_of ps) ≡ bound y ps
bound-bindings_of y ps = bound-with_pairs y ps [] tt

pub ascends-bindings_of : (ps : Pairs) → Ascends (bindings_of ps)
ascends-bindings_of ps = ascends-with_pairs ps [] tt

pub bound-with_pair_new : (x : List ℕ) (t : Datum) (ps : Pairs) → Ascends ps → bound x ps ≡ None → bound x (with_pair x t ps) ≡ Some t
bound-with_pair_new x t ps a n = bound-with_pair x t ps a ∙ ap (λ b. or_else b (Some t)) n

pub bound-with_pair_apart : (x y : List ℕ) (t : Datum) (ps : Pairs) → y ≢ x → bound y (with_pair x t ps) ≡ bound y ps
bound-with_pair_apart x y t ps n = bound-with_pair_other x y t ps (λ e. n (same_name y x e))
