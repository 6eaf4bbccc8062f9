-- What is read as a literal term is one, within its levels and its room.

use Rattle.std.proofs.Common.{◌≡◌, ℕ, zero, suc, ◌+◌, ◌^◌, ◌<◌, ◌≤◌, ℤ, pos, neg_ℤ, Bool, true, false, if◌then◌else◌, ◌||◌, ◌==◌, List, [], ◌∷◌, ◌++◌, Option, None, Some, refl, ap, subst, arith}
use Rattle.std.specs.Char.{is_ascii_digit}
use Rattle.edb_lang.specs.Terms.{Datum, int, atom, tuple, nil, cons, none, of_list, height, heights, size, sizes}
use Rattle.edb_event.specs.Ranges.{IsLiteral, AreLiteral, IsWritten}
use Rattle.edb_fields.specs.Atoms.{atom_at}
use Rattle.edb_fields.specs.Chain.{◌>>=◌}
use Rattle.edb_fields.specs.Literals.{HasText, HaveText, Fits}
use Rattle.edb_fields.specs.Numerals.{numeral_at}
use Rattle.edb_fields.specs.Reading.{first_at, byte_at}
use Rattle.edb_fields.specs.TermReading.{Reader, most_integer, positive, negative, integer_at, integer_term, atom_term, leaf_at, one_less, single, roomy_leaf, cell_at, item_at, items_at, elements_at, tuple_at, list_at, own_at, last_at, tail_at, node_at, term_at}
use Rattle.edb_fields.proofs.AtomLaws.{atom_name}
use Rattle.edb_fields.proofs.Chains.{none_some, same_some, taken, passed, either_read}
use Rattle.edb_fields.proofs.NumberLaws.{numeral_sound}

-- integers are written in the range of a literal's
integer_fits : (bytes : List ℕ) (i : ℤ) (rest : List ℕ) → integer_at bytes ≡ Some (i, rest) → IsWritten i
integer_fits bytes i rest e = taken (first_at bytes) (λ x. if x.0 == 45 then negative (numeral_at most_integer x.1) else positive (numeral_at most_integer bytes)) e
    (λ x f e1. either_read (x.0 == 45) (negative (numeral_at most_integer x.1)) (positive (numeral_at most_integer bytes)) e1
    (λ h g. taken (numeral_at most_integer x.1) (λ y. Some (neg_ℤ (pos y.0), y.1)) g
    (λ y k g1. subst IsWritten (ap (λ z. z.0) (same_some g1)) (below y.0 (numeral_sound most_integer (omega arith) x.1 y.0 y.1 k).1)))
    (λ h g. taken (numeral_at most_integer bytes) (λ y. Some (pos y.0, y.1)) g
    (λ y k g1. subst IsWritten (ap (λ z. z.0) (same_some g1)) (above y.0 (numeral_sound most_integer (omega arith) bytes y.0 y.1 k).1))))
  where
    above : (n : ℕ) → n ≤ most_integer → n < 2 ^ 127
    above n h = omega (arith, h)

    below : (n : ℕ) → n ≤ most_integer → IsWritten (neg_ℤ (pos n))
    below zero h = omega arith
    below (suc n) h = omega (arith, h)

-- a term without parts
record IsLeaf (t : Datum) : Type 0 where
  literal : IsLiteral t
  names : HasText t
  low : height t ≡ 0
  small : size t ≡ 1

leaf_fits : (bytes : List ℕ) (t : Datum) (rest : List ℕ) → leaf_at bytes ≡ Some (t, rest) → IsLeaf t
leaf_fits bytes t rest e = taken (first_at bytes) (λ x. if is_ascii_digit x.0 || x.0 == 45 then integer_term (integer_at bytes) else atom_term (atom_at bytes)) e
    (λ x f e1. either_read (is_ascii_digit x.0 || x.0 == 45) (integer_term (integer_at bytes)) (atom_term (atom_at bytes)) e1
    (λ h g. taken (integer_at bytes) (λ y. Some (int y.0, y.1)) g
    (λ y k g1. subst IsLeaf (ap (λ z. z.0) (same_some g1)) (record { literal = integer_fits bytes y.0 y.1 k; names = tt; low = refl; small = refl })))
    (λ h g. taken (atom_at bytes) (λ y. Some (atom y.0, y.1)) g
    (λ y k g1. let n = atom_name bytes y.0 y.1 k in subst IsLeaf (ap (λ z. z.0) (same_some g1)) (record { literal = n.1; names = n.0; low = refl; small = refl }))))

-- what was read
abbrev Whole : ℕ → ℕ → Datum × ℕ × List ℕ → Type 0
Whole levels room x = Fits levels room x.0 x.1

less_is : (room left : ℕ) → one_less room ≡ Some left → room ≡ left + 1
less_is zero left e = absurd (none_some e)
less_is (suc n) left e = omega (arith, same_some e)

single_fits : (levels : ℕ) (t : Datum) → IsLeaf t → (room : ℕ) (rest : List ℕ) (x : Datum × ℕ × List ℕ) → single t room rest ≡ Some x → Whole levels room x
single_fits levels t is room rest x e = taken (one_less room) (λ left. Some (t, left, rest)) e
    (λ left l e1. subst (Whole levels room) (same_some e1) (record { literal = is.literal; names = is.names; low = omega (arith, is.low); small = omega (arith, is.small, less_is room left l) }))

roomy_leaf_fits : (levels room : ℕ) (bytes : List ℕ) (x : Datum × ℕ × List ℕ) → roomy_leaf room bytes ≡ Some x → Whole levels room x
roomy_leaf_fits levels room bytes x e = taken (one_less room) (λ left. leaf_at bytes >>= (λ y. Some (y.0, left, y.1))) e
    (λ left l e1. taken (leaf_at bytes) (λ y. Some (y.0, left, y.1)) e1
    (λ y k e2. let is = leaf_fits bytes y.0 y.1 k in
    subst (Whole levels room) (same_some e2) (record { literal = is.literal; names = is.names; low = omega (arith, is.low); small = omega (arith, is.small, less_is room left l) })))

-- a reader of terms of at most so many levels
abbrev SubFits : ℕ → Reader → Type 0
SubFits levels sub = (tail : Bool) (room : ℕ) (bytes : List ℕ) (x : Datum × ℕ × List ℕ) → sub tail room bytes ≡ Some x → Whole levels room x

-- a reader for the parts of such terms
abbrev DeepFits : ℕ → Option Reader → Type 0
DeepFits levels None = Unit {0}
DeepFits levels (Some sub) = (m : ℕ) × (levels ≡ m + 1) × SubFits m sub

deep_taken : {B P : Type 0} {b : B} (levels : ℕ) (deep : Option Reader) → DeepFits levels deep → (next : Reader → Option B) → (deep >>= next) ≡ Some b
    → ((sub : Reader) (m : ℕ) → levels ≡ m + 1 → SubFits m sub → next sub ≡ Some b → P) → P
deep_taken levels None fits next e go = absurd (none_some e)
deep_taken levels (Some sub) fits next e go = go sub fits.0 fits.1 fits.2 e

cell_fits : (levels : ℕ) (deep : Option Reader) → DeepFits levels deep → (room : ℕ) (bytes : List ℕ) (x : Datum × ℕ × List ℕ) → cell_at deep room bytes ≡ Some x → Whole levels room x
cell_fits levels deep fits room bytes x e =
    deep_taken levels deep fits (λ sub. one_less room >>= (λ left. sub false left bytes >>= (λ h. sub true h.1 h.2 >>= (λ t. Some (cons h.0 t.0, t.1, t.2))))) e
    (λ sub m l sub_fits e1. taken (one_less room) (λ left. sub false left bytes >>= (λ h. sub true h.1 h.2 >>= (λ t. Some (cons h.0 t.0, t.1, t.2)))) e1
    (λ left r e2. taken (sub false left bytes) (λ h. sub true h.1 h.2 >>= (λ t. Some (cons h.0 t.0, t.1, t.2))) e2
    (λ h a e3. taken (sub true h.1 h.2) (λ t. Some (cons h.0 t.0, t.1, t.2)) e3
    (λ t b e4.
    let p = sub_fits false left bytes h a in
    let q = sub_fits true h.1 h.2 t b in
    subst (Whole levels room) (same_some e4)
    (record { literal = (p.literal, q.literal); names = (p.names, q.names); low = omega (arith, p.low, q.low, l); small = omega (arith, p.small, q.small, less_is room left r) })))))

-- elements that were read
record AllFit (levels room : ℕ) (ts : List Datum) (left : ℕ) : Type 0 where
  literal : AreLiteral (of_list ts)
  names : HaveText (of_list ts)
  low : heights (of_list ts) ≤ levels
  small : sizes (of_list ts) + left ≡ room

one_more : (levels room : ℕ) (ts : List Datum) (left : ℕ) (t : Datum) (after : ℕ) → AllFit levels room ts left → Fits levels left t after → AllFit levels room (ts ++ t ∷ []) after
one_more levels room ts left t after all fits = record {
  literal = literals ts all.literal;
  names = texts ts all.names;
  low = lows ts all.low;
  small = omega (arith, sums ts, all.small, fits.small);
}
  where
    literals : (ts : List Datum) → AreLiteral (of_list ts) → AreLiteral (of_list (ts ++ t ∷ []))
    literals [] h = (fits.literal, tt)
    literals (u ∷ us) h = (h.0, literals us h.1)

    texts : (ts : List Datum) → HaveText (of_list ts) → HaveText (of_list (ts ++ t ∷ []))
    texts [] h = (fits.names, tt)
    texts (u ∷ us) h = (h.0, texts us h.1)

    lows : (ts : List Datum) → heights (of_list ts) ≤ levels → heights (of_list (ts ++ t ∷ [])) ≤ levels
    lows [] h = omega (arith, fits.low)
    lows (u ∷ us) h = let rest : heights (of_list us) ≤ levels = omega (arith, h) in omega (arith, h, lows us rest)

    sums : (ts : List Datum) → sizes (of_list (ts ++ t ∷ [])) ≡ sizes (of_list ts) + size t
    sums [] = omega arith
    sums (u ∷ us) = omega (arith, sums us)

items_fit : (levels : ℕ) (sub : Reader) → SubFits levels sub → (turns room : ℕ) (found : List Datum) (left : ℕ) (bytes : List ℕ) (x : List Datum × ℕ × List ℕ)
    → AllFit levels room found left → items_at sub turns found left bytes ≡ Some x → AllFit levels room x.0 x.1
items_fit levels sub fits zero room found left bytes x all e = absurd (none_some e)
items_fit levels sub fits (suc turns) room found left bytes x all e =
    taken (item_at sub left bytes) (λ y. if y.2 then items_at sub turns (found ++ y.0 ∷ []) y.1 y.3 else Some (found ++ y.0 ∷ [], y.1, y.3)) e
    (λ y i e1. taken (sub false left bytes) (λ z. first_at z.2 >>= (λ m. if m.0 == 44 then Some (z.0, z.1, true, m.1) else if m.0 == 125 then Some (z.0, z.1, false, m.1) else None)) i
    (λ z s e2. taken (first_at z.2) (λ m. if m.0 == 44 then Some (z.0, z.1, true, m.1) else if m.0 == 125 then Some (z.0, z.1, false, m.1) else None) e2
    (λ m f e3. either_read (m.0 == 44) (Some (z.0, z.1, true, m.1)) (if m.0 == 125 then Some (z.0, z.1, false, m.1) else None) e3
    (λ h g. step y (λ here g. items_fit levels sub fits turns room (found ++ y.0 ∷ []) y.1 y.3 x here g) e1 (one_more levels room found left z.0 z.1 all (fits false left bytes z s)) (ap (λ w. w.0) (same_some g)) (ap (λ w. w.1) (same_some g)))
    (λ h g. let p = passed (m.0 == 125) g in
    step y (λ here g. items_fit levels sub fits turns room (found ++ y.0 ∷ []) y.1 y.3 x here g) e1 (one_more levels room found left z.0 z.1 all (fits false left bytes z s)) (ap (λ w. w.0) p.1) (ap (λ w. w.1) p.1)))))
  where
    step : (y : Datum × ℕ × Bool × List ℕ) → (AllFit levels room (found ++ y.0 ∷ []) y.1 → items_at sub turns (found ++ y.0 ∷ []) y.1 y.3 ≡ Some x → AllFit levels room x.0 x.1)
        → (if y.2 then items_at sub turns (found ++ y.0 ∷ []) y.1 y.3 else Some (found ++ y.0 ∷ [], y.1, y.3)) ≡ Some x
        → {t : Datum} {after : ℕ} → AllFit levels room (found ++ t ∷ []) after → t ≡ y.0 → after ≡ y.1 → AllFit levels room x.0 x.1
    step y others e {t = t} all same less =
        let here : AllFit levels room (found ++ y.0 ∷ []) y.1 = subst (λ t. AllFit levels room (found ++ t ∷ []) y.1) same (subst (λ n. AllFit levels room (found ++ t ∷ []) n) less all) in
        either_read y.2 (items_at sub turns (found ++ y.0 ∷ []) y.1 y.3) (Some (found ++ y.0 ∷ [], y.1, y.3)) e
        (λ h g. others here g)
        (λ h g. let Law : List Datum × ℕ × List ℕ → Type 0 = λ w. AllFit levels room w.0 w.1 in subst Law (same_some g) here)

tuple_fits : (levels : ℕ) (deep : Option Reader) → DeepFits levels deep → (room : ℕ) (bytes : List ℕ) (x : Datum × ℕ × List ℕ) → tuple_at deep room bytes ≡ Some x → Whole levels room x
tuple_fits levels deep fits room bytes x e =
    deep_taken levels deep fits (λ sub. one_less room >>= (λ left. first_at bytes >>= (λ c. if c.0 == 125 then Some (tuple none, left, c.1) else elements_at sub left bytes))) e
    (λ sub m l sub_fits e1. taken (one_less room) (λ left. first_at bytes >>= (λ c. if c.0 == 125 then Some (tuple none, left, c.1) else elements_at sub left bytes)) e1
    (λ left r e2. taken (first_at bytes) (λ c. if c.0 == 125 then Some (tuple none, left, c.1) else elements_at sub left bytes) e2
    (λ c f e3. either_read (c.0 == 125) (Some (tuple none, left, c.1)) (elements_at sub left bytes) e3
    (λ h g. subst (Whole levels room) (same_some g) (record { literal = tt; names = tt; low = omega (arith, l); small = omega (arith, less_is room left r) }))
    (λ h g. taken (items_at sub left [] left bytes) (λ y. Some (tuple (of_list y.0), y.1, y.2)) g
    (λ y i e4.
    let start : AllFit m left [] left = record { literal = tt; names = tt; low = omega arith; small = omega arith } in
    let all = items_fit m sub sub_fits left left [] left bytes y start i in
    subst (Whole levels room) (same_some e4)
    (record { literal = all.literal; names = all.names; low = omega (arith, all.low, l); small = omega (arith, all.small, less_is room left r) }))))))

nil_leaf : IsLeaf nil
nil_leaf = record { literal = tt; names = tt; low = refl; small = refl }

own_fits : (levels : ℕ) (deep : Option Reader) → DeepFits levels deep → (room : ℕ) (bytes : List ℕ) (x : Datum × ℕ × List ℕ) → own_at deep room bytes ≡ Some x → Whole levels room x
own_fits levels deep fits room bytes x e =
    taken (first_at bytes) (λ c. if c.0 == 123 then tuple_at deep room c.1 else if c.0 == 91 then list_at deep room c.1 else roomy_leaf room bytes) e
    (λ c f e1. either_read (c.0 == 123) (tuple_at deep room c.1) (if c.0 == 91 then list_at deep room c.1 else roomy_leaf room bytes) e1
    (λ h g. tuple_fits levels deep fits room c.1 x g)
    (λ h g. either_read (c.0 == 91) (list_at deep room c.1) (roomy_leaf room bytes) g
    (λ h g. list_fits c.1 g)
    (λ h g. roomy_leaf_fits levels room bytes x g)))
  where
    list_fits : (bytes : List ℕ) → list_at deep room bytes ≡ Some x → Whole levels room x
    list_fits bytes e = taken (first_at bytes) (λ c. if c.0 == 93 then single nil room c.1 else cell_at deep room bytes) e
        (λ c f e1. either_read (c.0 == 93) (single nil room c.1) (cell_at deep room bytes) e1
        (λ h g. single_fits levels nil nil_leaf room c.1 x g)
        (λ h g. cell_fits levels deep fits room bytes x g))

tail_fits : (levels : ℕ) (deep : Option Reader) → DeepFits levels deep → (room : ℕ) (bytes : List ℕ) (x : Datum × ℕ × List ℕ) → tail_at deep room bytes ≡ Some x → Whole levels room x
tail_fits levels deep fits room bytes x e =
    taken (first_at bytes) (λ c. if c.0 == 93 then single nil room c.1 else if c.0 == 44 then cell_at deep room c.1 else if c.0 == 124 then last_at deep room c.1 else None) e
    (λ c f e1. either_read (c.0 == 93) (single nil room c.1) (if c.0 == 44 then cell_at deep room c.1 else if c.0 == 124 then last_at deep room c.1 else None) e1
    (λ h g. single_fits levels nil nil_leaf room c.1 x g)
    (λ h g. either_read (c.0 == 44) (cell_at deep room c.1) (if c.0 == 124 then last_at deep room c.1 else None) g
    (λ h g. cell_fits levels deep fits room c.1 x g)
    (λ h g. either_read (c.0 == 124) (last_at deep room c.1) None g
    (λ h g. last_fits c.1 g)
    (λ h g. absurd (none_some g)))))
  where
    last_fits : (bytes : List ℕ) → last_at deep room bytes ≡ Some x → Whole levels room x
    last_fits bytes e = taken (own_at deep room bytes) (λ y. byte_at 93 y.2 >>= (λ rest. Some (y.0, y.1, rest))) e
        (λ y o e1. taken (byte_at 93 y.2) (λ rest. Some (y.0, y.1, rest)) e1
        (λ rest b e2. subst (Whole levels room) (same_some e2) (own_fits levels deep fits room bytes y o)))

node_fits : (levels : ℕ) (deep : Option Reader) → DeepFits levels deep → SubFits levels (node_at deep)
node_fits levels deep fits true room bytes x e = tail_fits levels deep fits room bytes x e
node_fits levels deep fits false room bytes x e = own_fits levels deep fits room bytes x e

pub term_fits : (levels : ℕ) (tail : Bool) (room : ℕ) (bytes : List ℕ) (x : Datum × ℕ × List ℕ) → term_at levels tail room bytes ≡ Some x → Fits levels room x.0 x.1
unfolding term_at
term_fits zero = node_fits zero None tt
term_fits (suc n) = node_fits (suc n) (Some (term_at n)) (n, omega arith, term_fits n)
