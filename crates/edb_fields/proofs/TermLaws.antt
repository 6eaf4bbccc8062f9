-- A literal term that was written is read again, with as many levels and as much room as it takes or more.

use Rattle.std.proofs.Common.{◌≡◌, ℕ, zero, suc, ◌+◌, ◌-◌, ◌%◌, ◌^◌, ◌<◌, ◌≤◌, ℤ, pos, negsuc, Bool, true, false, not, if◌then◌else◌, ◌&&◌, ◌||◌, ◌==◌, List, [], ◌∷◌, ◌++◌, Option, None, Some, refl, sym, ap, ◌∙◌, subst, arith, append_assoc}
use Rattle.std.specs.Char.{is_ascii_digit, is_ascii_lowercase}
use Rattle.std.specs.Fmt.{decimal, signed_decimal}
use Rattle.std.specs.List.{list_all, list_any}
use Rattle.std.proofs.lemmas.Bool.Decides.{nat_tests}
use Rattle.std.proofs.lemmas.Fmt.{decimal_by_steps_wide}
use Rattle.edb_lang.specs.Order.{count}
use Rattle.edb_lang.specs.Terms.{Datum, Datums, int, atom, reference, made, named, pid, tuple, nil, cons, none, more, of_list, height, heights, size, sizes, most_high, most_large}
use Rattle.edb_lang.specs.TermText.{is_bare, is_name_byte, reserved_words, same_name, quoted, atom_text, around, text, tuple_text, items_text, plain_text}
use Rattle.edb_event.specs.Ranges.{IsLiteral, AreLiteral, IsWritten, IsProper}
use Rattle.edb_fields.specs.Atoms.{IsAtomName, atom_at}
use Rattle.edb_fields.specs.Chain.{◌>>=◌}
use Rattle.edb_fields.specs.Fronts.{IsFront}
use Rattle.edb_fields.specs.Literals.{HasText, HaveText, Fits, IsPlain, IsPlainList}
use Rattle.edb_fields.specs.Numerals.{numeral_at}
use Rattle.edb_fields.specs.Reading.{first_at, space_at, after_text, field_end}
use Rattle.edb_fields.specs.Separators.{ends}
use Rattle.edb_fields.specs.TermReading.{Reader, most_integer, positive, negative, integer_at, integer_term, atom_term, leaf_at, one_less, roomy_leaf, cell_at, item_at, items_at, elements_at, list_at, own_at, last_at, tail_at, node_at, term_at, deeper, literal_at, plain_at, is_proper, args_at}
use Rattle.edb_fields.proofs.AtomLaws.{Stops, stops_at_end, atom_again}
use Rattle.edb_fields.proofs.Chains.{none_some, same_some, taken, passed, both}
use Rattle.edb_fields.proofs.NumberLaws.{NoDigit, numeral_again}
use Rattle.edb_fields.proofs.Texts.{field_parts, field_again}
use Rattle.edb_fields.proofs.TermFits.{term_fits}
use Rattle.edb_fields.proofs.Told.{Exact}

-- a reader of terms, by what reads their parts
pub term_node : (n : ℕ) → term_at n ≡ node_at (deeper n)
unfolding term_at
term_node zero = refl
term_node (suc n) = refl

pub own_node : (n : ℕ) (tail : Bool) (room : ℕ) (bytes : List ℕ) → tail ≡ false → term_at n tail room bytes ≡ own_at (deeper n) room bytes
own_node n tail room bytes h = ap (λ r. r tail room bytes) (term_node n) ∙ rw h refl

pub tail_node : (n : ℕ) (tail : Bool) (room : ℕ) (bytes : List ℕ) → tail ≡ true → term_at n tail room bytes ≡ tail_at (deeper n) room bytes
tail_node n tail room bytes h = ap (λ r. r tail room bytes) (term_node n) ∙ rw h refl

-- a turn of the code
pub item_read : (sub : Reader) (turns : ℕ) (found next : List Datum) (room : ℕ) (bytes : List ℕ) (t : Datum) (left : ℕ) (on : Bool) (rest : List ℕ)
    → 0 < turns → item_at sub room bytes ≡ Some (t, left, on, rest) → on ≡ true → next ≡ found ++ t ∷ []
    → items_at sub (turns - 1) next left rest ≡ items_at sub turns found room bytes
item_read sub zero found next room bytes t left on rest some e h new = absurd (omega (arith, some))
item_read sub (suc turns) found next room bytes t left on rest some e h new =
    let less : suc turns - 1 ≡ turns = omega arith in
    rw less (rw e (rw h (rw new refl)))

pub less_again : (n k : ℕ) → n ≡ k + 1 → one_less n ≡ Some k
less_again zero k e = absurd (omega (arith, e))
less_again (suc n) k e = ap Some (omega (arith, e))

pub deeper_again : (n k : ℕ) → n ≡ k + 1 → deeper n ≡ Some (term_at k)
deeper_again zero k e = absurd (omega (arith, e))
deeper_again (suc n) k e = ap (λ m. Some (term_at m)) (omega (arith, e))

-- The first byte of a term's text is no closing bracket or brace.
record Begins (text : List ℕ) : Type 0 where
  head : ℕ
  others : List ℕ
  is : text ≡ head ∷ others
  no_bracket : (head == 93) ≡ false
  no_brace : (head == 125) ≡ false

-- The first byte of a text with neither parts nor brackets.
record IsFlat (text : List ℕ) : Type 0 where
  head : ℕ
  others : List ℕ
  is : text ≡ head ∷ others
  no_bracket : (head == 93) ≡ false
  no_brace : (head == 125) ≡ false
  no_tuple : (head == 123) ≡ false
  no_list : (head == 91) ≡ false

-- the first digit of any number
record IsNumber (ds : List ℕ) : Type 0 where
  head : ℕ
  others : List ℕ
  is : ds ≡ head ∷ others
  digit : is_ascii_digit head ≡ true

number_begins : (n : ℕ) → n < 10 ^ 64 → IsNumber (decimal n)
number_begins n wide = decimal_by_steps_wide (λ n ds. IsNumber ds) one more n wide
  where
    one : (n : ℕ) → n < 10 → IsNumber ((48 + n) ∷ [])
    one n small = record { head = 48 + n; others = []; is = refl; digit = grind (arith, nat_tests) }

    more : (n : ℕ) (ds : List ℕ) → 10 ≤ n → IsNumber ds → IsNumber (ds ++ (48 + n % 10) ∷ [])
    more n ds large l = record { head = l.head; others = l.others ++ (48 + n % 10) ∷ []; is = ap (λ xs. xs ++ (48 + n % 10) ∷ []) l.is; digit = l.digit }

digit_flat : (c : ℕ) → is_ascii_digit c ≡ true → ((c == 93) ≡ false) × ((c == 125) ≡ false) × ((c == 123) ≡ false) × ((c == 91) ≡ false) × ((c == 45) ≡ false)
digit_flat c h = (grind (arith, nat_tests), grind (arith, nat_tests), grind (arith, nat_tests), grind (arith, nat_tests), grind (arith, nat_tests))

letter_flat : (c : ℕ) → is_ascii_lowercase c ≡ true → ((c == 93) ≡ false) × ((c == 125) ≡ false) × ((c == 123) ≡ false) × ((c == 91) ≡ false) × ((is_ascii_digit c || c == 45) ≡ false)
letter_flat c h = (grind (arith, nat_tests), grind (arith, nat_tests), grind (arith, nat_tests), grind (arith, nat_tests), grind (arith, nat_tests))

integer_flat : (i : ℤ) → IsWritten i → IsFlat (signed_decimal i)
integer_flat (pos n) h =
    let l = number_begins n (omega (arith, h)) in
    let d = digit_flat l.head l.digit in
    record { head = l.head; others = l.others; is = l.is; no_bracket = d.0; no_brace = d.1; no_tuple = d.2; no_list = d.3 }
integer_flat (negsuc n) h = record { head = 45; others = decimal (suc n); is = refl; no_bracket = refl; no_brace = refl; no_tuple = refl; no_list = refl }

-- an atom's first byte, which begins no integer
record IsWord (text : List ℕ) : Type 0 where
  flat : IsFlat text
  no_integer : (is_ascii_digit flat.head || flat.head == 45) ≡ false

atom_word : (name : List ℕ) → IsWord (atom_text name)
atom_word name = step (is_bare name) refl
  where
    bare_word : (name : List ℕ) → is_bare name ≡ true → IsWord name
    bare_word [] e = absurd (none_some (ap (λ b. if b then Some b else None) e))
    bare_word (c ∷ cs) e =
        let p = both (is_ascii_lowercase c) (list_all is_name_byte cs && not (list_any (same_name (c ∷ cs)) reserved_words)) e in
        let d = letter_flat c p.0 in
        record { flat = record { head = c; others = cs; is = refl; no_bracket = d.0; no_brace = d.1; no_tuple = d.2; no_list = d.3 }; no_integer = d.4 }

    step : (b : Bool) → is_bare name ≡ b → IsWord (if b then name else quoted 39 name)
    step true e = bare_word name e
    step false e = record { flat = record { head = 39; others = _; is = refl; no_bracket = refl; no_brace = refl; no_tuple = refl; no_list = refl }; no_integer = refl }

begins : (t : Datum) → IsLiteral t → Begins (text false false t)
unfolding text tuple_text items_text
begins (int i) h = let f = integer_flat i h in record { head = f.head; others = f.others; is = f.is; no_bracket = f.no_bracket; no_brace = f.no_brace }
begins (atom a) h = let f = (atom_word a).flat in record { head = f.head; others = f.others; is = f.is; no_bracket = f.no_bracket; no_brace = f.no_brace }
begins (reference r) h = absurd h
begins (made m v i a cs) h = absurd h
begins (named m f a) h = absurd h
begins (pid p) h = absurd h
begins (tuple none) h = record { head = 123; others = _; is = refl; no_bracket = refl; no_brace = refl }
begins (tuple (more t ts)) h = record { head = 123; others = _; is = refl; no_bracket = refl; no_brace = refl }
begins nil h = record { head = 91; others = _; is = refl; no_bracket = refl; no_brace = refl }
begins (cons h t) l = record { head = 91; others = _; is = refl; no_bracket = refl; no_brace = refl }

no_digit_of : (rest : List ℕ) → Stops rest → NoDigit rest
no_digit_of [] h = tt
no_digit_of (c ∷ cs) h = grind (arith, nat_tests)

integer_again : (i : ℤ) (rest : List ℕ) → IsWritten i → Stops rest → integer_at (signed_decimal i ++ rest) ≡ Some (i, rest)
integer_again (pos n) rest h stops =
    let l = number_begins n (omega (arith, h)) in
    let d = digit_flat l.head l.digit in
    ap (λ ds. integer_at (ds ++ rest)) l.is ∙ told l.head (l.others ++ rest) d.4 ∙ ap (λ ds. positive (numeral_at most_integer (ds ++ rest))) (sym l.is)
    ∙ ap positive (numeral_again most_integer n rest (omega (arith, h)) (omega (arith, h)) (no_digit_of rest stops))
  where
    told : (c : ℕ) (cs : List ℕ) → (c == 45) ≡ false → integer_at (c ∷ cs) ≡ positive (numeral_at most_integer (c ∷ cs))
    told c cs h = rw h refl
integer_again (negsuc n) rest h stops = ap negative (numeral_again most_integer (suc n) rest (omega (arith, h)) (omega (arith, h)) (no_digit_of rest stops))

-- a text that is read as a leaf, as a term by itself
leaf_again : (n left : ℕ) (t : Datum) (own rest : List ℕ) → IsFlat own → leaf_at (own ++ rest) ≡ Some (t, rest) → own_at (deeper n) (1 + left) (own ++ rest) ≡ Some (t, left, rest)
leaf_again n left t own rest flat e =
    ap (λ os. own_at (deeper n) (1 + left) (os ++ rest)) flat.is ∙ told flat.head (flat.others ++ rest) flat.no_tuple flat.no_list
    ∙ ap (λ os. roomy_leaf (1 + left) (os ++ rest)) (sym flat.is) ∙ roomy
  where
    told : (c : ℕ) (cs : List ℕ) → (c == 123) ≡ false → (c == 91) ≡ false → own_at (deeper n) (1 + left) (c ∷ cs) ≡ roomy_leaf (1 + left) (c ∷ cs)
    told c cs h g = rw h (rw g refl)

    roomy : roomy_leaf (1 + left) (own ++ rest) ≡ Some (t, left, rest)
    roomy = rw (less_again (1 + left) left (omega arith)) (rw e refl)

integer_leaf : (i : ℤ) (rest : List ℕ) → IsWritten i → Stops rest → leaf_at (signed_decimal i ++ rest) ≡ Some (int i, rest)
integer_leaf (pos n) rest h stops =
    let l = number_begins n (omega (arith, h)) in
    ap (λ ds. leaf_at (ds ++ rest)) l.is ∙ told l.head (l.others ++ rest) l.digit ∙ ap (λ ds. integer_term (integer_at (ds ++ rest))) (sym l.is)
    ∙ ap integer_term (integer_again (pos n) rest h stops)
  where
    told : (c : ℕ) (cs : List ℕ) → is_ascii_digit c ≡ true → leaf_at (c ∷ cs) ≡ integer_term (integer_at (c ∷ cs))
    told c cs h = rw h refl
integer_leaf (negsuc n) rest h stops = ap integer_term (integer_again (negsuc n) rest h stops)

atom_leaf : (name rest : List ℕ) → IsAtomName name → Stops rest → leaf_at (atom_text name ++ rest) ≡ Some (atom name, rest)
atom_leaf name rest is stops =
    let w = atom_word name in
    ap (λ ds. leaf_at (ds ++ rest)) w.flat.is ∙ told w.flat.head (w.flat.others ++ rest) w.no_integer ∙ ap (λ ds. atom_term (atom_at (ds ++ rest))) (sym w.flat.is)
    ∙ ap atom_term (atom_again name rest is stops)
  where
    told : (c : ℕ) (cs : List ℕ) → (is_ascii_digit c || c == 45) ≡ false → leaf_at (c ∷ cs) ≡ atom_term (atom_at (c ∷ cs))
    told c cs h = rw h refl

-- a term that is read by itself is read where a list ends in it
placed : (n room left : ℕ) (t : Datum) (own : List ℕ) → ((rest : List ℕ) → Stops rest → own_at (deeper n) room (own ++ rest) ≡ Some (t, left, rest))
    → (tail : Bool) (rest : List ℕ) → Stops rest → term_at n tail room (around tail own ++ rest) ≡ Some (t, left, rest)
placed n room left t own law false rest stops = own_node n false room (own ++ rest) refl ∙ law rest stops
placed n room left t own law true rest stops =
    tail_node n true room (((124 ∷ own) ++ 93 ∷ []) ++ rest) refl ∙ ap (λ os. last_at (deeper n) room os) (append_assoc own (93 ∷ []) rest)
    ∙ rw (law (93 ∷ rest) refl) refl

-- a cell, after its bracket or comma
cell_again : (n m : ℕ) → n ≡ m + 1 → (h t : Datum) (left : ℕ) (rest : List ℕ)
    → term_at m false (size h + (size t + left)) (text false false h ++ (text false true t ++ rest)) ≡ Some (h, size t + left, text false true t ++ rest)
    → term_at m true (size t + left) (text false true t ++ rest) ≡ Some (t, left, rest)
    → cell_at (deeper n) (size (cons h t) + left) ((text false false h ++ text false true t) ++ rest) ≡ Some (cons h t, left, rest)
cell_again n m e h t left rest first second =
    rw (deeper_again n m e) (rw (less_again (size (cons h t) + left) (size h + (size t + left)) (omega arith))
    (rw (append_assoc (text false false h) (text false true t) rest) (rw first (rw second refl))))

abbrev elements_back : Datums → List Datum
elements_back none = []
elements_back (more t ts) = t ∷ elements_back ts

size_some : (t : Datum) → 1 ≤ size t
size_some (int i) = omega arith
size_some (atom a) = omega arith
size_some (reference r) = omega arith
size_some (made m v i a cs) = omega arith
size_some (named m f a) = omega arith
size_some (pid p) = omega arith
size_some (tuple ts) = omega arith
size_some nil = omega arith
size_some (cons h t) = omega arith

count_small : (ts : Datums) → count ts ≤ sizes ts
count_small none = omega arith
count_small (more t ts) = omega (arith, size_some t, count_small ts)

back_of : (ts : Datums) → of_list (elements_back ts) ≡ ts
back_of none = refl
back_of (more t ts) = ap (λ us. more t us) (back_of ts)

-- text that goes on
goes_on : (own others : List ℕ) → Begins own → Begins (own ++ others)
goes_on own others b = record { head = b.head; others = b.others ++ others; is = ap (λ os. os ++ others) b.is; no_bracket = b.no_bracket; no_brace = b.no_brace }

list_open : (n room : ℕ) (own rest : List ℕ) → Begins own → list_at (deeper n) room (own ++ rest) ≡ cell_at (deeper n) room (own ++ rest)
list_open n room own rest b = rw b.is (rw b.no_bracket refl)

tuple_open : (m room : ℕ) (own rest : List ℕ) → Begins own
    → (first_at (own ++ rest) >>= (λ c. if c.0 == 125 then Some (tuple none, room, c.1) else elements_at (term_at m) room (own ++ rest))) ≡ elements_at (term_at m) room (own ++ rest)
tuple_open m room own rest b = rw b.is (rw b.no_brace refl)

-- how a term's text is read
abbrev TermLaw : ℕ → Datum → Type 0
TermLaw n t = (left : ℕ) (tail : Bool) (rest : List ℕ) → Stops rest → term_at n tail (size t + left) (text false tail t ++ rest) ≡ Some (t, left, rest)

-- an element with those after it
last_item : (n : ℕ) (t : Datum) → TermLaw n t → (turns left : ℕ) (found : List Datum) (rest : List ℕ)
    → items_at (term_at n) (suc turns) found (size t + (0 + left)) ((text false false t ++ 125 ∷ []) ++ rest) ≡ Some (found ++ t ∷ [], left, rest)
last_item n t law turns left found rest =
    rw (append_assoc (text false false t) (125 ∷ []) rest) (rw (law (0 + left) false (125 ∷ rest) refl) (ap (λ k. Some (found ++ t ∷ [], k, rest)) (omega arith)))

next_item : (n : ℕ) (t : Datum) → TermLaw n t → (turns left : ℕ) (found : List Datum) (others rest : List ℕ)
    → items_at (term_at n) (suc turns) found (size t + left) ((text false false t ++ 44 ∷ others) ++ rest) ≡ items_at (term_at n) turns (found ++ t ∷ []) left (others ++ rest)
next_item n t law turns left found others rest =
    rw (append_assoc (text false false t) (44 ∷ others) rest) (rw (law left false (44 ∷ (others ++ rest)) refl) refl)

-- a tuple with elements, by itself
tuple_again : (n m : ℕ) → n ≡ m + 1 → (t : Datum) (ts : Datums) → Begins (text false false t) → (left : ℕ) (rest : List ℕ)
    → ((turns : ℕ) → count ts < turns → items_at (term_at m) turns [] (size t + (sizes ts + left)) ((text false false t ++ items_text false 44 ts) ++ rest) ≡ Some (elements_back (more t ts), left, rest))
    → own_at (deeper n) (size (tuple (more t ts)) + left) (tuple_text false (more t ts) ++ rest) ≡ Some (tuple (more t ts), left, rest)
unfolding tuple_text
tuple_again n m e t ts b left rest law =
    rw (deeper_again n m e) (rw (less_again (size (tuple (more t ts)) + left) (size t + (sizes ts + left)) (omega arith))
    (tuple_open m (size t + (sizes ts + left)) (text false false t ++ items_text false 44 ts) rest (goes_on (text false false t) (items_text false 44 ts) b)
    ∙ rw (law (size t + (sizes ts + left)) (omega (arith, size_some t, count_small ts))) (ap (λ us. Some (tuple us, left, rest)) (back_of (more t ts)))))

empty_again : (n m : ℕ) → n ≡ m + 1 → (left : ℕ) (rest : List ℕ) → own_at (deeper n) (size (tuple none) + left) (123 ∷ 125 ∷ rest) ≡ Some (tuple none, left, rest)
empty_again n m e left rest = rw (deeper_again n m e) (rw (less_again (size (tuple none) + left) left (omega arith)) refl)

-- what comes after a list's head ends it
tail_stops : (t : Datum) (rest : List ℕ) → IsLiteral t → Stops (text false true t ++ rest)
unfolding text tuple_text items_text
tail_stops (int i) rest lit = refl
tail_stops (atom a) rest lit = refl
tail_stops (reference r) rest lit = absurd lit
tail_stops (made m v i a cs) rest lit = absurd lit
tail_stops (named m f a) rest lit = absurd lit
tail_stops (pid p) rest lit = absurd lit
tail_stops (tuple ts) rest lit = refl
tail_stops nil rest lit = refl
tail_stops (cons h t) rest lit = refl

head_read : (h t : Datum) (m left : ℕ) (rest : List ℕ) → IsLiteral t → TermLaw m h
    → term_at m false (size h + (size t + left)) (text false false h ++ (text false true t ++ rest)) ≡ Some (h, size t + left, text false true t ++ rest)
head_read h t m left rest lit law = law (size t + left) false (text false true t ++ rest) (tail_stops t rest lit)

mutual
  unfolding text tuple_text items_text

  pub term_again : (t : Datum) (n : ℕ) → height t ≤ n → IsLiteral t → HasText t → TermLaw n t
  term_again (int i) n low lit txt left tail rest stops =
      placed n (1 + left) left (int i) (signed_decimal i) (λ rest stops. leaf_again n left (int i) (signed_decimal i) rest (integer_flat i lit) (integer_leaf i rest lit stops)) tail rest stops
  term_again (atom a) n low lit txt left tail rest stops =
      placed n (1 + left) left (atom a) (atom_text a) (λ rest stops. leaf_again n left (atom a) (atom_text a) rest (atom_word a).flat (atom_leaf a rest (txt, lit) stops)) tail rest stops
  term_again (reference r) n low lit txt left tail rest stops = absurd lit
  term_again (made m v i a cs) n low lit txt left tail rest stops = absurd lit
  term_again (named m f a) n low lit txt left tail rest stops = absurd lit
  term_again (pid p) n low lit txt left tail rest stops = absurd lit
  term_again (tuple ts) zero low lit txt left tail rest stops = absurd (omega (arith, low))
  term_again (tuple none) (suc m) low lit txt left tail rest stops =
      placed (suc m) (size (tuple none) + left) left (tuple none) (123 ∷ 125 ∷ []) (λ rest stops. empty_again (suc m) m (omega arith) left rest) tail rest stops
  term_again (tuple (more t ts)) (suc m) low lit txt left tail rest stops =
      let fits : heights (more t ts) ≤ m = omega (arith, low) in
      let law : TermLaw m t = term_again t m (omega (arith, fits)) lit.0 txt.0 in
      let all : heights ts ≤ m = omega (arith, fits) in
      placed (suc m) (size (tuple (more t ts)) + left) left (tuple (more t ts)) (tuple_text false (more t ts))
      (λ rest stops. tuple_again (suc m) m (omega arith) t ts (begins t lit.0) left rest (λ turns few. items_again ts m all lit.1 txt.1 t law turns left [] rest few)) tail rest stops
  term_again nil n low lit txt left false rest stops =
      own_node n false (1 + left) (91 ∷ 93 ∷ rest) refl ∙ rw (less_again (1 + left) left (omega arith)) refl
  term_again nil n low lit txt left true rest stops =
      tail_node n true (1 + left) (93 ∷ rest) refl ∙ rw (less_again (1 + left) left (omega arith)) refl
  term_again (cons h t) zero low lit txt left tail rest stops = absurd (omega (arith, low))
  term_again (cons h t) (suc m) low lit txt left true rest stops =
      let first : height h ≤ m = omega (arith, low) in
      let second : height t ≤ m = omega (arith, low) in
      tail_node (suc m) true (size (cons h t) + left) (44 ∷ ((text false false h ++ text false true t) ++ rest)) refl
      ∙ cell_again (suc m) m (omega arith) h t left rest (head_read h t m left rest lit.1 (term_again h m first lit.0 txt.0)) (term_again t m second lit.1 txt.1 left true rest stops)
  term_again (cons h t) (suc m) low lit txt left false rest stops =
      let first : height h ≤ m = omega (arith, low) in
      let second : height t ≤ m = omega (arith, low) in
      own_node (suc m) false (size (cons h t) + left) (91 ∷ ((text false false h ++ text false true t) ++ rest)) refl
      ∙ list_open (suc m) (size (cons h t) + left) (text false false h ++ text false true t) rest (goes_on (text false false h) (text false true t) (begins h lit.0))
      ∙ cell_again (suc m) m (omega arith) h t left rest (head_read h t m left rest lit.1 (term_again h m first lit.0 txt.0)) (term_again t m second lit.1 txt.1 left true rest stops)

  items_again : (ts : Datums) (n : ℕ) → heights ts ≤ n → AreLiteral ts → HaveText ts → (t : Datum) → TermLaw n t → (turns left : ℕ) (found : List Datum) (rest : List ℕ) → count ts < turns
      → items_at (term_at n) turns found (size t + (sizes ts + left)) ((text false false t ++ items_text false 44 ts) ++ rest) ≡ Some (found ++ elements_back (more t ts), left, rest)
  items_again ts n low lit txt t law zero left found rest few = absurd (omega (arith, few))
  items_again none n low lit txt t law (suc turns) left found rest few = last_item n t law turns left found rest
  items_again (more u us) n low lit txt t law (suc turns) left found rest few =
      let first : height u ≤ n = omega (arith, low) in
      let second : heights us ≤ n = omega (arith, low) in
      let fewer : count us < turns = omega (arith, few) in
      next_item n t law turns (sizes (more u us) + left) found (text false false u ++ items_text false 44 us) rest
      ∙ ap (λ k. items_at (term_at n) turns (found ++ t ∷ []) k ((text false false u ++ items_text false 44 us) ++ rest)) (omega arith)
      ∙ items_again us n second lit.1 txt.1 u (term_again u n first lit.0 txt.0) turns left (found ++ t ∷ []) rest fewer
      ∙ ap (λ es. Some (es, left, rest)) (append_assoc found (t ∷ []) (elements_back (more u us)))

pub literal_again : (levels room : ℕ) (t : Datum) (rest : List ℕ) → IsPlain levels room t → Stops rest → literal_at levels room (plain_text t ++ rest) ≡ Some (t, rest)
unfolding plain_text
literal_again levels room t rest is stops =
    let sum : room ≡ size t + (room - size t) = omega (arith, is.small) in
    ap (λ r. literal_at levels r (text false false t ++ rest)) sum
    ∙ rw (term_again t levels is.low is.literal is.names (room - size t) false rest stops) refl

plain_sound : (levels room : ℕ) (bytes : List ℕ) (t : Datum) (rest : List ℕ) → plain_at levels room bytes ≡ Some (t, rest) → IsFront plain_text (IsPlain levels room) bytes t rest
plain_sound levels room bytes t rest e =
    let p = field_parts plain_text (literal_at levels room) bytes t rest e in
    record { parts = p.0; closed = p.1; fits = fits }
  where
    value : (u : Datum) (o : Option (List ℕ)) → field_end u o ≡ Some (t, rest) → u ≡ t
    value u None e = absurd (none_some e)
    value u (Some after) e = ap (λ y. y.0) (passed (ends after) e).1

    whole : (u : Datum) (left : ℕ) → Fits levels room u left → IsPlain levels room u
    whole u left is = record { literal = is.literal; names = is.names; low = is.low; small = omega (arith, is.small) }

    fits : IsPlain levels room t
    fits = taken (space_at bytes) (λ from. literal_at levels room from >>= (λ x. field_end x.0 (after_text (plain_text x.0) from))) e
        (λ from s e1. taken (literal_at levels room from) (λ x. field_end x.0 (after_text (plain_text x.0) from)) e1
        (λ x a e2. taken (term_at levels false room from) (λ y. Some (y.0, y.2)) a
        (λ y k e3. subst (IsPlain levels room) (ap (λ z. z.0) (same_some e3) ∙ value x.0 (after_text (plain_text x.0) from) e2) (whole y.0 y.1 (term_fits levels false room from y k)))))

pub plain_exact : (levels room : ℕ) (bytes : List ℕ) → Exact plain_text (IsPlain levels room) bytes (plain_at levels room bytes)
plain_exact levels room bytes = record {
  sound = plain_sound levels room bytes;
  complete = λ t rest front. ap (λ b. plain_at levels room b) front.parts
      ∙ field_again plain_text (literal_at levels room) t rest (literal_again levels room t rest front.fits (stops_at_end rest front.closed)) front.closed;
}

no_proper : false ≡ true → ⊥
no_proper e = cc

-- the test of the code
proper_is : (t : Datum) → is_proper t ≡ true → IsProper t
proper_is nil h = tt
proper_is (cons x t) h = proper_is t h
proper_is (int i) h = absurd (no_proper h)
proper_is (atom a) h = absurd (no_proper h)
proper_is (reference r) h = absurd (no_proper h)
proper_is (made m v i a cs) h = absurd (no_proper h)
proper_is (named m f a) h = absurd (no_proper h)
proper_is (pid p) h = absurd (no_proper h)
proper_is (tuple ts) h = absurd (no_proper h)

is_proper_again : (t : Datum) → IsProper t → is_proper t ≡ true
is_proper_again nil h = refl
is_proper_again (cons x t) h = is_proper_again t h
is_proper_again (int i) h = absurd h
is_proper_again (atom a) h = absurd h
is_proper_again (reference r) h = absurd h
is_proper_again (made m v i a cs) h = absurd h
is_proper_again (named m f a) h = absurd h
is_proper_again (pid p) h = absurd h
is_proper_again (tuple ts) h = absurd h

pub args_exact : (bytes : List ℕ) → Exact plain_text IsPlainList bytes (args_at bytes)
args_exact bytes = record { sound = sound; complete = complete }
  where
    plain : Exact plain_text (IsPlain most_high most_large) bytes (plain_at most_high most_large bytes)
    plain = plain_exact most_high most_large bytes

    sound : (t : Datum) (rest : List ℕ) → args_at bytes ≡ Some (t, rest) → IsFront plain_text IsPlainList bytes t rest
    sound t rest e = taken (plain_at most_high most_large bytes) (λ x. if is_proper x.0 then Some (x.0, x.1) else None) e
        (λ x k e1.
        let p = passed (is_proper x.0) e1 in
        let front = plain.sound x.0 x.1 k in
        let Front : Datum × List ℕ → Type 0 = λ y. IsFront plain_text IsPlainList bytes y.0 y.1 in
        subst Front p.1 (record {
          parts = front.parts;
          closed = front.closed;
          fits = ((proper_is x.0 p.0, front.fits.literal, record { height = front.fits.low; size = front.fits.small }), front.fits.names);
        }))

    complete : (t : Datum) (rest : List ℕ) → IsFront plain_text IsPlainList bytes t rest → args_at bytes ≡ Some (t, rest)
    complete t rest front =
        let list = front.fits.0 in
        let read = plain.complete t rest (record { parts = front.parts; closed = front.closed; fits = record { literal = list.1; names = front.fits.1; low = list.2.height; small = list.2.size } }) in
        rw read (rw (is_proper_again t list.0) refl)
