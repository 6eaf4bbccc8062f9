-- Stacks of pairs: what a list of pairs with the newest last is, seen from the newest.

use Rattle.std.proofs.Common.{◌≡◌, true, false, ◌≢◌, ℕ, zero, ◌+◌, ◌-◌, ◌<◌, ◌≤◌, suc, List, [], ◌∷◌, ◌++◌, length, reverse, take, drop, get_or, slice_get, option_map, Option, None, Some, MatchOption, option_to_list, Result, Ok, Err, IsOk, is_ok, if◌then◌else◌, refl, ap, sym, subst, ◌∙◌, arith}
use Rattle.std.specs.declared.cmp.Ordering.{Ordering}
use Rattle.std.specs.declared.cmp.Ordering.TheVariants.{Less, Equal, Greater}
use Rattle.std.specs.Ordering.{nat_cmp, is_eq}
use Rattle.std.specs.Cmp.Lexicographic.{slice_cmp}
use Rattle.std.proofs.lemmas.List.{reverse-append, reverse-reverse, length-reverse, length-drop, length-take-le, take-append-drop}
use Rattle.edb_lang.specs.declared.term.Captured.{Captured}
use Rattle.edb_lang.specs.Terms.{Datum}
use Rattle.edb_lang.specs.Pairs.{Pairs, by_order, bound, with_pair, with_pairs, Ascends}
use Rattle.edb_lang.specs.TermViews.{pairs_of}
use Rattle.edb_lang.proofs.PairsLaws.{pairs_of-append, bound-below, ascends-with_pair, next_taken}
use Rattle.edb_variables.specs.PairStacks.{newest_first, oldest, value_at, place_bound}

pub newest_first-append : (cs ds : List Captured) → newest_first (cs ++ ds) ≡ newest_first ds ++ newest_first cs
newest_first-append cs ds = ap reverse (pairs_of-append cs ds) ∙ reverse-append (pairs_of cs) (pairs_of ds)

-- a pair behind the others is the newest
pub newest_first-push : (cs : List Captured) (c : Captured) → newest_first (cs ++ c ∷ []) ≡ (c.name, c.value) ∷ newest_first cs
newest_first-push cs c = newest_first-append cs (c ∷ [])

length-pairs_of : (cs : List Captured) → length (pairs_of cs) ≡ length cs
length-pairs_of [] = refl
length-pairs_of (c ∷ cs) = ap suc (length-pairs_of cs)

pub length-newest_first : (cs : List Captured) → length (newest_first cs) ≡ length cs
length-newest_first cs = length-reverse (pairs_of cs) ∙ length-pairs_of cs

drop-length-append : {X : Type 0} (xs ys : List X) → drop (length xs) (xs ++ ys) ≡ ys
drop-length-append [] ys = refl
drop-length-append (x ∷ xs) ys = drop-length-append xs ys

-- the first of them are the oldest
pub newest_first-take : (m : ℕ) (cs : List Captured) → newest_first (take m cs) ≡ oldest m (newest_first cs)
newest_first-take m cs =
    let parted : newest_first cs ≡ newest_first (drop m cs) ++ newest_first (take m cs) =
    ap newest_first (sym (take-append-drop m cs)) ∙ newest_first-append (take m cs) (drop m cs) in
    let count : length (newest_first (drop m cs)) ≡ length (newest_first cs) - m =
    length-newest_first (drop m cs) ∙ length-drop m cs ∙ ap (λ n. n - m) (sym (length-newest_first cs)) in
    sym (drop-length-append (newest_first (drop m cs)) (newest_first (take m cs)))
    ∙ ap (λ n. drop n (newest_first (drop m cs) ++ newest_first (take m cs))) count
    ∙ ap (drop (length (newest_first cs) - m)) (sym parted)

value_in : (k : ℕ) (cs : List Captured) → option_map (λ p. p.1) (slice_get (pairs_of cs) k) ≡ option_map (λ c. c.value) (slice_get cs k)
value_in k [] = refl
value_in zero (c ∷ cs) = refl
value_in (suc k) (c ∷ cs) = value_in k cs

-- the value at a place is that of the pair there
pub value_at-newest_first : (k : ℕ) (cs : List Captured) → value_at k (newest_first cs) ≡ option_map (λ c. c.value) (slice_get cs k)
value_at-newest_first k cs = ap (λ ps. option_map (λ p. p.1) (slice_get ps k)) (reverse-reverse (pairs_of cs)) ∙ value_in k cs

get_last : {X : Type 0} (xs : List X) (x : X) → slice_get (xs ++ x ∷ []) (length xs) ≡ Some x
get_last [] x = refl
get_last (y ∷ xs) x = get_last xs x

get_before : {X : Type 0} (xs : List X) (x : X) (k : ℕ) → k < length xs → slice_get (xs ++ x ∷ []) k ≡ slice_get xs k
get_before [] x k h = absurd (omega (arith, h))
get_before (y ∷ xs) x zero h = refl
get_before (y ∷ xs) x (suc k) h = get_before xs x k (omega (arith, h))

newest_last : (p : List ℕ × Datum) (ps : Pairs) → reverse (p ∷ ps) ≡ reverse ps ++ p ∷ []
newest_last p ps = reverse-append (p ∷ []) ps

-- THE VALUE OF THE NEWEST PAIR, and those of the older ones
pub value_at-newest : (p : List ℕ × Datum) (ps : Pairs) → value_at (length ps) (p ∷ ps) ≡ Some p.1
value_at-newest p ps =
    ap (λ qs. option_map (λ q. q.1) (slice_get qs (length ps))) (newest_last p ps)
    ∙ ap (λ n. option_map (λ q. q.1) (slice_get (reverse ps ++ p ∷ []) n)) (sym (length-reverse ps))
    ∙ ap (option_map (λ q. q.1)) (get_last (reverse ps) p)

pub value_at-older : (p : List ℕ × Datum) (ps : Pairs) (k : ℕ) → k < length ps → value_at k (p ∷ ps) ≡ value_at k ps
value_at-older p ps k h =
    ap (λ qs. option_map (λ q. q.1) (slice_get qs k)) (newest_last p ps)
    ∙ ap (option_map (λ q. q.1)) (get_before (reverse ps) p k (subst (λ n. k < n) (sym (length-reverse ps)) h))

-- THE PLACE OF A NAME lies below the count, and the value there is the name's
abbrev pub Holds : Pairs → Option ℕ → Option Datum → Type 0
Holds ps (Some k) b = (k < length ps) × (value_at k ps ≡ b) × (b ≢ None)
Holds ps None b = b ≡ None

holds_older : (p : List ℕ × Datum) (ps : Pairs) (k : Option ℕ) (b : Option Datum) → Holds ps k b → Holds (p ∷ ps) k b
holds_older p ps (Some k) b h = (omega (arith, h.0), value_at-older p ps k h.0 ∙ h.1, h.2)
holds_older p ps None b h = h

holds_by_order : (p : List ℕ × Datum) (ps : Pairs) (o : Ordering) (k : Option ℕ) (b : Option Datum) → Holds ps k b
    → Holds (p ∷ ps) (by_order o k (Some (length ps)) k) (by_order o b (Some p.1) b)
holds_by_order p ps Less k b h = holds_older p ps k b h
holds_by_order p ps Equal k b h = (omega arith, value_at-newest p ps, λ e. absurd (cc))
holds_by_order p ps Greater k b h = holds_older p ps k b h

pub place_holds : (x : List ℕ) (ps : Pairs) → Holds ps (place_bound x ps) (bound x ps)
place_holds x [] = refl
place_holds x (p ∷ ps) = holds_by_order p ps (slice_cmp nat_cmp x p.0) (place_bound x ps) (bound x ps) (place_holds x ps)

-- a name that is bound stays as it is when it is bound again
stays_by_order : (x : List ℕ) (t : Datum) (p : List ℕ × Datum) (ps : Pairs) (o : Ordering) → (o ≡ Less → ⊥) → (o ≡ Greater → with_pair x t ps ≡ ps)
    → by_order o ((x, t) ∷ (p ∷ ps)) (p ∷ ps) (p ∷ with_pair x t ps) ≡ p ∷ ps
stays_by_order x t p ps Less low high = absurd (low refl)
stays_by_order x t p ps Equal low high = refl
stays_by_order x t p ps Greater low high = ap (λ qs. p ∷ qs) (high refl)

ascends_behind : (p : List ℕ × Datum) (ps : Pairs) → Ascends (p ∷ ps) → Ascends ps
ascends_behind p [] a = tt
ascends_behind p (q ∷ qs) a = a.1

behind_by_order : (o : Ordering) (t : Datum) (b : Option Datum) → o ≡ Greater → by_order o b (Some t) b ≢ None → b ≢ None
behind_by_order Less t b e h = h
behind_by_order Equal t b e h = absurd (cc)
behind_by_order Greater t b e h = h

pub with_pair-bound : (x : List ℕ) (t : Datum) (ps : Pairs) → Ascends ps → bound x ps ≢ None → with_pair x t ps ≡ ps
with_pair-bound x t [] a h = absurd (h refl)
with_pair-bound x t (p ∷ ps) a h =
    stays_by_order x t p ps (slice_cmp nat_cmp x p.0) (λ e. h (bound-below x p ps a e))
    (λ e. with_pair-bound x t ps (ascends_behind p ps a) (behind_by_order (slice_cmp nat_cmp x p.0) p.1 (bound x ps) e h))

-- THE NEXT PAIR, from the newest on
pub newest_of : (n : ℕ) (c : Captured) (cs : List Captured) → 0 < n → n ≤ length cs → c ≡ get_or cs (n - 1) c
    → newest_first (take n cs) ≡ (c.name, c.value) ∷ newest_first (take (n - 1) cs)
newest_of zero c cs low high is = absurd (omega (arith, low))
newest_of (suc n) c cs low high is = by (suc n - 1) refl
  where
    by : (m : ℕ) → m ≡ suc n - 1 → newest_first (take (suc n) cs) ≡ (c.name, c.value) ∷ newest_first (take m cs)
    by m e = let same : m ≡ n = omega (arith, e) in ap newest_first (next_taken c.name cs n c (omega (arith, high)) (subst (λ k. c ≡ get_or cs k c) (sym e ∙ same) is)) ∙ newest_first-push (take n cs) c ∙ ap (λ k. (c.name, c.value) ∷ newest_first (take k cs)) (sym same)

pub is_equal : (o : Ordering) → true ≡ is_eq o → o ≡ Equal
is_equal Less e = absurd (cc)
is_equal Equal e = refl
is_equal Greater e = absurd (cc)

pub is_other : (o : Ordering) → false ≡ is_eq o → o ≢ Equal
is_other Less e f = absurd (cc)
is_other Equal e f = absurd (cc)
is_other Greater e f = absurd (cc)

by_equal : {A : Type 0} (o : Ordering) (a b d : A) → o ≡ Equal → by_order o a b d ≡ b
by_equal o a b d e = ap (λ p. by_order p a b d) e

by_other : {A : Type 0} (o : Ordering) (a b : A) → o ≢ Equal → by_order o a b a ≡ a
by_other Less a b n = refl
by_other Equal a b n = absurd (n refl)
by_other Greater a b n = refl

pub place_here : (x : List ℕ) (n : ℕ) (c : Captured) (cs : List Captured) → 0 < n → n ≤ length cs → c ≡ get_or cs (n - 1) c
    → slice_cmp nat_cmp x c.name ≡ Equal → place_bound x (newest_first (take n cs)) ≡ Some (n - 1)
place_here x n c cs low high is e =
    ap (place_bound x) (newest_of n c cs low high is)
    ∙ by_equal (slice_cmp nat_cmp x c.name) (place_bound x (newest_first (take (n - 1) cs))) (Some (length (newest_first (take (n - 1) cs)))) (place_bound x (newest_first (take (n - 1) cs))) e
    ∙ ap Some (length-newest_first (take (n - 1) cs) ∙ length-take-le (n - 1) cs (omega (arith, high)))

pub place_further : (x : List ℕ) (n : ℕ) (c : Captured) (cs : List Captured) → 0 < n → n ≤ length cs → c ≡ get_or cs (n - 1) c
    → slice_cmp nat_cmp x c.name ≢ Equal → place_bound x (newest_first (take n cs)) ≡ place_bound x (newest_first (take (n - 1) cs))
place_further x n c cs low high is e =
    ap (place_bound x) (newest_of n c cs low high is)
    ∙ by_other (slice_cmp nat_cmp x c.name) (place_bound x (newest_first (take (n - 1) cs))) (Some (length (newest_first (take (n - 1) cs)))) e

-- bindings that one pair more was added to, and the older pairs still to come
pub bind_next : (n : ℕ) (c : Captured) (cs : List Captured) (bs ds all : Pairs) → 0 < n → n ≤ length cs → c ≡ get_or cs (n - 1) c
    → ds ≡ with_pair c.name c.value bs → Ascends bs → with_pairs (newest_first (take n cs)) bs ≡ all
    → Ascends ds × (with_pairs (newest_first (take (n - 1) cs)) ds ≡ all)
bind_next n c cs bs ds all low high is made a whole = (
  subst Ascends (sym made) (ascends-with_pair c.name c.value bs a),
  ap (with_pairs (newest_first (take (n - 1) cs))) made ∙ sym (ap (λ ps. with_pairs ps bs) (newest_of n c cs low high is)) ∙ whole,
)

none_left : (cs : List Captured) → length cs ≡ 0 → newest_first cs ≡ []
none_left [] e = refl
none_left (c ∷ cs) e = absurd (omega (arith, e))

-- the last pair, where there is one
pub last_pair : (cs ds : List Captured) (c : Option Captured) (m n : ℕ) → m ≡ length cs → n ≡ length ds → cs ≡ ds ++ option_to_list c
    → MatchOption c ((m ≡ 0) × (n ≡ 0)) (λ _. n + 1 ≡ m)
    → MatchOption c ((newest_first cs ≡ []) × (newest_first ds ≡ [])) (λ pair. newest_first cs ≡ (pair.name, pair.value) ∷ newest_first ds)
last_pair cs ds (Some c) m n f g e h = ap newest_first e ∙ newest_first-push ds c
last_pair cs ds None m n f g e h = (none_left cs (sym f ∙ h.0), none_left ds (sym g ∙ h.1))

-- pairs that were put behind the others
pub appended : {E : Type 0} (r : Result (Unit {0}) E) (cs ds es : List Captured) → es ≡ (if is_ok r then cs ++ ds else cs) → IsOk r → newest_first es ≡ newest_first ds ++ newest_first cs
appended (Ok u) cs ds es e h = ap newest_first e ∙ newest_first-append cs ds
appended (Err u) cs ds es e h = absurd (cc)

-- the value of the pair at a place
get_there : (k : ℕ) (cs : List Captured) (c : Captured) → k < length cs → c ≡ get_or cs k c → slice_get cs k ≡ Some c
get_there k [] c h e = absurd (omega (arith, h))
get_there zero (d ∷ cs) c h e = ap Some (sym e)
get_there (suc k) (d ∷ cs) c h e = get_there k cs c (omega (arith, h)) e

pub value_there : (k : ℕ) (cs : List Captured) (c : Captured) → k < length cs → c ≡ get_or cs k c → value_at k (newest_first cs) ≡ Some c.value
value_there k cs c h e = value_at-newest_first k cs ∙ ap (option_map (λ d. d.value)) (get_there k cs c h e)

pub value_nowhere : (k : ℕ) (cs : List Captured) → length cs ≤ k → value_at k (newest_first cs) ≡ None
value_nowhere k cs h = value_at-newest_first k cs ∙ ap (option_map (λ c. c.value)) (get_past k cs h)
  where
    get_past : (k : ℕ) (cs : List Captured) → length cs ≤ k → slice_get cs k ≡ None
    get_past k [] h = refl
    get_past zero (c ∷ cs) h = absurd (omega (arith, h))
    get_past (suc k) (c ∷ cs) h = get_past k cs (omega (arith, h))

-- a value is found at the place of its name
pub found_there : (x : List ℕ) (ps : Pairs) (k : ℕ) → place_bound x ps ≡ Some k → value_at k ps ≡ bound x ps
found_there x ps k e = (subst (λ o. Holds ps o (bound x ps)) e (place_holds x ps)).1

pub found_nowhere : (x : List ℕ) (ps : Pairs) → place_bound x ps ≡ None → bound x ps ≡ None
found_nowhere x ps e = subst (λ o. Holds ps o (bound x ps)) e (place_holds x ps)
