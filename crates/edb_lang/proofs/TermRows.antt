-- Single cases of the definitions, each by computation.

use Rattle.std.proofs.Common.{◌≡◌, ℕ, pos, negsuc, List, [], ◌∷◌, Some, None, refl}
use Rattle.std.specs.declared.cmp.Ordering.TheVariants.{Less, Greater}
use Rattle.edb_lang.specs.Terms.{Datum, int, atom, made, named, pid, tuple, nil, cons, none, uncaptured, captured, height, size, of_list, elements, framed}
use Rattle.edb_lang.specs.Order.{term_cmp}
use Rattle.edb_lang.specs.Pairs.{Pairs, bound, with_pair, bindings_of, captures_of}

abbrev a : List ℕ
a = 97 ∷ []

abbrev b : List ℕ
b = 98 ∷ []

abbrev c : List ℕ
c = 99 ∷ []

abbrev one : Datum
one = int (pos 1)

abbrev two : Datum
two = int (pos 2)

-- [1, 2]
abbrev one_two : Datum
one_two = cons one (cons two nil)

-- a fun of module a that took along b with this value
abbrev closure : Datum → Datum
closure t = made a 1 0 2 (captured b t uncaptured)

height_list : height one_two ≡ 2
height_list = refl

size_list : size one_two ≡ 5
size_list = refl

height_no_elements : height (tuple none) ≡ 1
height_no_elements = refl

size_no_elements : size (tuple none) ≡ 1
size_no_elements = refl

height_named : height (named a b 0) ≡ 1
height_named = refl

height_closure : height (closure one_two) ≡ 3
height_closure = refl

size_closure : size (closure one_two) ≡ 6
size_closure = refl

height_tuple : height (tuple (of_list (one ∷ one_two ∷ nil ∷ []))) ≡ 3
height_tuple = refl

size_tuple : size (tuple (of_list (one ∷ one_two ∷ nil ∷ []))) ≡ 8
size_tuple = refl

negative_first : term_cmp (int (negsuc 4)) one ≡ Less
negative_first = refl

number_before_atom : term_cmp (int (pos 1000)) (atom []) ≡ Less
number_before_atom = refl

pid_behind_named : term_cmp (pid 0) (named a a 0) ≡ Greater
pid_behind_named = refl

made_before_named : term_cmp (made b 9 9 9 uncaptured) (named a a 0) ≡ Less
made_before_named = refl

nil_before_cons : term_cmp nil one_two ≡ Less
nil_before_cons = refl

tuple_before_nil : term_cmp (tuple (of_list (one ∷ two ∷ []))) nil ≡ Less
tuple_before_nil = refl

atoms_by_bytes : term_cmp (atom (97 ∷ 98 ∷ [])) (atom b) ≡ Less
atoms_by_bytes = refl

tuples_by_size : term_cmp (tuple (of_list (two ∷ []))) (tuple (of_list (one ∷ one ∷ []))) ≡ Less
tuples_by_size = refl

tuples_by_element : term_cmp (tuple (of_list (one ∷ two ∷ []))) (tuple (of_list (one ∷ one ∷ []))) ≡ Greater
tuples_by_element = refl

lists_by_element : term_cmp one_two (cons two nil) ≡ Less
lists_by_element = refl

shorter_captured_first : term_cmp (made a 1 0 2 uncaptured) (closure one) ≡ Less
shorter_captured_first = refl

captured_by_value : term_cmp (closure two) (closure one) ≡ Greater
captured_by_value = refl

place_before_captured : term_cmp (made a 1 1 2 uncaptured) (closure one) ≡ Greater
place_before_captured = refl

abbrev two_pairs : Pairs
two_pairs = (a, one) ∷ (c, two) ∷ []

found : bound c two_pairs ≡ Some two
found = refl

missing : bound b two_pairs ≡ None
missing = refl

put_between : with_pair b nil two_pairs ≡ (a, one) ∷ (b, nil) ∷ (c, two) ∷ []
put_between = refl

put_last : with_pair (100 ∷ []) nil two_pairs ≡ (a, one) ∷ (c, two) ∷ ((100 ∷ []), nil) ∷ []
put_last = refl

first_counts : bindings_of ((c, two) ∷ (a, one) ∷ (c, nil) ∷ []) ≡ two_pairs
first_counts = refl

taken_along : captures_of two_pairs ≡ captured a one (captured c two uncaptured)
taken_along = refl

elements_to_the_end : elements (cons one (cons two (atom a))) ≡ one ∷ two ∷ []
elements_to_the_end = refl

framed_within : framed (λ t. tuple (of_list (t ∷ []))) one ≡ tuple (of_list (one ∷ []))
framed_within = refl
