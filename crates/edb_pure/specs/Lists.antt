-- Lists: the rows of `lists` but those on keys, `hd`, `tl`, `length`, `max`, `min`, `++` and `--`. A list whose elements are
-- asked for has to be proper.

use Rattle.std.specs.Prelude.{pos, ◌+ℤ◌, ◌-ℤ◌, Bool, true, false, if◌then◌else◌, ◌==◌, nat_le, List, [], ◌∷◌, ◌++◌, map, reverse, length, take, drop, replicate, slice_get, fold, flat_map, zip, Option, None, Some, Ok}
use Rattle.std.specs.List.{list_any, dedup, range_with_len, reduce, last_or}
use Rattle.std.specs.Option.{option_and_then, option_map}
use Rattle.std.specs.Ordering.{ord_max, ord_min}
use Rattle.edb_lang.specs.Terms.{Datum, int, tuple, nil, cons, none, more, of_list}
use Rattle.edb_lang.specs.Order.{term_cmp}
use Rattle.edb_lang.specs.ListTerms.{list_of, elements_of}
use Rattle.edb_pure.specs.Answers.{Answer, badarg, limited_answer, list_answer, counted_answer, given}
use Rattle.edb_pure.specs.Integers.{integer_of, count_of, integer_answer}
use Rattle.edb_pure.specs.Truths.{same_term, truth_answer}
use Rattle.edb_pure.specs.Tuples.{place_of}
use Rattle.edb_pure.specs.Sorting.{sorted, is_below}

-- what f gives of each, if it gives something of all
abbrev pub each : {A B : Type 0} → (A → Option B) → List A → Option (List B)
each f [] = Some []
each f (x ∷ xs) = option_and_then (λ y. option_map (λ ys. y ∷ ys) (each f xs)) (f x)

-- a list without the first element that equals x
abbrev pub without_first : Datum → List Datum → List Datum
without_first x [] = []
without_first x (y ∷ ys) = if same_term x y then ys else y ∷ without_first x ys

-- the answer to the elements of a list
abbrev pub of_list_items : (List Datum → Answer) → Datum → Answer
of_list_items f t = given (elements_of t) f

-- the answer to the elements of two
abbrev pub of_lists : (List Datum → List Datum → Answer) → Datum → Datum → Answer
of_lists f t u = given (elements_of t) (λ ts. given (elements_of u) (f ts))

-- Operators.

-- the elements of the left one, and then the right one, which may be any term
abbrev pub append_operator : Datum → Datum → Answer
append_operator t u = given (elements_of t) (λ ts. limited_answer (list_of ts u))

-- each element of the right one takes the first that equals it out of the left one
abbrev pub remove_each : Datum → Datum → Answer
remove_each = of_lists (λ ts us. list_answer (fold (λ rest u. without_first u rest) ts us))

-- Parts of a list.

-- the first element
abbrev pub hd : Datum → Answer
hd (cons h t) = Ok h
hd _ = badarg

-- what follows the first element, which need not be a list
abbrev pub tl : Datum → Answer
tl (cons h t) = Ok t
tl _ = badarg

-- how many elements
abbrev pub list_length : Datum → Answer
list_length = of_list_items (λ ts. Ok (int (pos (length ts))))

-- the last element; an empty list has none
abbrev pub last : Datum → Answer
last = of_list_items (λ ts. given (last_or None ts) Ok)

-- the element at a position, of which the first is 1
abbrev pub nth : Datum → Datum → Answer
nth n t = given (place_of n) (λ i. given (elements_of t) (λ ts. given (slice_get ts i) Ok))

-- what follows so many elements, which are all there
abbrev pub nthtail : Datum → Datum → Answer
nthtail n t = given (count_of n) (λ k. given (elements_of t) (λ ts. if nat_le k (length ts) then list_answer (drop k ts) else badarg))

-- so many elements from the first on, or all
abbrev pub sublist : Datum → Datum → Answer
sublist t n = given (elements_of t) (λ ts. given (count_of n) (λ k. list_answer (take k ts)))

-- Lists put together.

-- the elements of one, and then those of the other
abbrev pub append_two : Datum → Datum → Answer
append_two = of_lists (λ ts us. list_answer (ts ++ us))

-- the lists in a list, put together
abbrev pub append_all : Datum → Answer
append_all = of_list_items (λ ts. given (each elements_of ts) (λ lists. list_answer (flat_map (λ us. us) lists)))

-- the last element first
abbrev pub reverse_one : Datum → Answer
reverse_one = of_list_items (λ ts. list_answer (reverse ts))

-- the first list reversed, and then the second
abbrev pub reverse_onto : Datum → Datum → Answer
reverse_onto = of_lists (λ ts us. list_answer (reverse ts ++ us))

-- The elements that are not lists, of a list and of the lists in it at any depth. Each of these lists has to be proper.
-- `is_item`: the term is an element, and not what follows one.
abbrev pub flat_items : Bool → Datum → Option (List Datum)
flat_items is_item nil = Some []
flat_items is_item (cons h t) = option_and_then (λ front. option_map (λ back. front ++ back) (flat_items false t)) (flat_items true h)
flat_items true t = Some (t ∷ [])
flat_items false _ = None

-- all of them in one list
abbrev pub flatten : Datum → Answer
flatten t = given (flat_items false t) list_answer

-- Lists made by a count.

-- the same element so many times
abbrev pub duplicate : Datum → Datum → Answer
duplicate n t = given (count_of n) (λ k. counted_answer k (λ k. replicate k t))

-- The integers from one to another. The second may be one less than the first, and the list is then empty; it is not
-- lower than that.
abbrev pub seq : Datum → Datum → Answer
seq from to =
    given (integer_of from)
    (λ i. given (integer_of to)
    (λ j. given (count_of (int ((j -ℤ i) +ℤ pos 1)))
    (λ k. counted_answer k (λ k. map (λ n. int (i +ℤ pos n)) (range_with_len 0 k)))))

-- Questions.

-- whether an element equals x
abbrev pub member : Datum → Datum → Answer
member x = of_list_items (λ ts. truth_answer (list_any (same_term x) ts))

-- the total of the integers, `badarg` if an element isn't one; the total alone has to be in the range
abbrev pub sum : Datum → Answer
sum = of_list_items (λ ts. given (each integer_of ts) (λ is. integer_answer (fold ◌+ℤ◌ (pos 0) is)))

-- the greatest element in the order of terms; an empty list has none
abbrev pub greatest : Datum → Answer
greatest = of_list_items (λ ts. given (reduce (ord_max term_cmp) ts) Ok)

-- the least, likewise
abbrev pub least : Datum → Answer
least = of_list_items (λ ts. given (reduce (ord_min term_cmp) ts) Ok)

-- the greater of two terms
abbrev pub max_of : Datum → Datum → Answer
max_of a b = Ok (ord_max term_cmp a b)

-- the lesser of two terms
abbrev pub min_of : Datum → Datum → Answer
min_of a b = Ok (ord_min term_cmp a b)

-- Changes.

-- without the first element that equals x
abbrev pub delete : Datum → Datum → Answer
delete x = of_list_items (λ ts. list_answer (without_first x ts))

-- in the order of terms
abbrev pub sort : Datum → Answer
sort = of_list_items (λ ts. list_answer (sorted is_below ts))

-- in order, each of equal elements once
abbrev pub usort : Datum → Answer
usort = of_list_items (λ ts. list_answer (dedup same_term (sorted is_below ts)))

-- Lists of pairs.

-- the tuple of two terms
abbrev pub pair : Datum → Datum → Datum
pair a b = tuple (of_list (a ∷ b ∷ []))

-- the pairs of elements at one place, in order; both lists have one length
abbrev pub zip_lists : Datum → Datum → Answer
zip_lists = of_lists (λ ts us. if length ts == length us then list_answer (map (λ p. pair p.0 p.1) (zip ts us)) else badarg)

-- the two terms of a pair
abbrev pub pair_of : Datum → Option (Datum × Datum)
pair_of (tuple (more a (more b none))) = Some (a, b)
pair_of _ = None

-- the list of the first terms, and the list of the second ones
abbrev pub unzip : Datum → Answer
unzip = of_list_items (λ ts. given (each pair_of ts) (λ ps. limited_answer (pair (list_of (map (λ p. p.0) ps) nil) (list_of (map (λ p. p.1) ps) nil))))
