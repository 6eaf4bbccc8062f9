-- Lists, row by row.

use Rattle.std.proofs.Common.{◌≡◌, [], ◌∷◌, Ok, true, is_ok, refl}
use Rattle.edb_lang.specs.declared.operators.BinaryOp.TheVariants.{Append, Remove}
use Rattle.edb_lang.specs.Terms.{nil}
use Rattle.edb_lang.specs.ListTerms.{list_of}
use Rattle.edb_pure.specs.Answers.{badarg, system_limit}
use Rattle.edb_pure.specs.Operators.{operate}
use Rattle.edb_pure.specs.Table.{rows}
use Rattle.edb_pure.proofs.RowTerms.{number, minus, highest, lowest, word, list, tuple, zeros, erlang, lists}

-- `++` and `--`.

append_operator : operate Append (list ((number 1) ∷ (number 2) ∷ [])) (list ((number 3) ∷ [])) ≡ Ok (list ((number 1) ∷ (number 2) ∷ (number 3) ∷ []))
append_operator = refl

append_to_any : operate Append (list ((number 1) ∷ [])) (number 2) ≡ Ok (list_of ((number 1) ∷ []) (number 2))
append_to_any = refl

nothing_before_any : operate Append nil (word "a") ≡ Ok (word "a")
nothing_before_any = refl

append_to_atom : operate Append (word "a") nil ≡ badarg
append_to_atom = refl

append_to_improper : operate Append (list_of ((number 1) ∷ []) (number 2)) nil ≡ badarg
append_to_improper = refl

append_to_4000 : operate Append (list (zeros 4000)) (list ((number 0) ∷ [])) ≡ system_limit
append_to_4000 = refl

append_to_3999 : is_ok (operate Append (list (zeros 3999)) (list ((number 0) ∷ []))) ≡ true
append_to_3999 = refl

remove_each : operate Remove (list ((number 1) ∷ (number 2) ∷ (number 3) ∷ (number 2) ∷ (number 1) ∷ (number 2) ∷ [])) (list ((number 2) ∷ (number 1) ∷ (number 2) ∷ [])) ≡ Ok (list ((number 3) ∷ (number 1) ∷ (number 2) ∷ []))
remove_each = refl

remove_absent : operate Remove (list ((number 1) ∷ (number 2) ∷ [])) (list ((number 5) ∷ [])) ≡ Ok (list ((number 1) ∷ (number 2) ∷ []))
remove_absent = refl

remove_any : operate Remove (list ((number 1) ∷ [])) (number 2) ≡ badarg
remove_any = refl

remove_from_any : operate Remove (number 2) nil ≡ badarg
remove_from_any = refl

-- Parts of a list.

head : erlang "hd" ((list ((number 1) ∷ (number 2) ∷ [])) ∷ []) ≡ Ok (number 1)
unfolding rows
head = refl

head_of_improper : erlang "hd" ((list_of ((number 1) ∷ []) (number 2)) ∷ []) ≡ Ok (number 1)
unfolding rows
head_of_improper = refl

head_of_nil : erlang "hd" (nil ∷ []) ≡ badarg
unfolding rows
head_of_nil = refl

tail : erlang "tl" ((list ((number 1) ∷ (number 2) ∷ [])) ∷ []) ≡ Ok (list ((number 2) ∷ []))
unfolding rows
tail = refl

tail_of_improper : erlang "tl" ((list_of ((number 1) ∷ []) (number 2)) ∷ []) ≡ Ok (number 2)
unfolding rows
tail_of_improper = refl

tail_of_nil : erlang "tl" (nil ∷ []) ≡ badarg
unfolding rows
tail_of_nil = refl

length_of_list : erlang "length" ((list ((number 7) ∷ (number 8) ∷ (number 9) ∷ [])) ∷ []) ≡ Ok (number 3)
unfolding rows
length_of_list = refl

length_of_improper : erlang "length" ((list_of ((number 1) ∷ []) (number 2)) ∷ []) ≡ badarg
unfolding rows
length_of_improper = refl

last : lists "last" ((list ((number 1) ∷ (number 2) ∷ (number 3) ∷ [])) ∷ []) ≡ Ok (number 3)
unfolding rows
last = refl

last_of_nil : lists "last" (nil ∷ []) ≡ badarg
unfolding rows
last_of_nil = refl

nth : lists "nth" ((number 2) ∷ (list ((word "a") ∷ (word "b") ∷ (word "c") ∷ [])) ∷ []) ≡ Ok (word "b")
unfolding rows
nth = refl

nth_0 : lists "nth" ((number 0) ∷ (list ((word "a") ∷ [])) ∷ []) ≡ badarg
unfolding rows
nth_0 = refl

nth_past_the_end : lists "nth" ((number 2) ∷ (list ((word "a") ∷ [])) ∷ []) ≡ badarg
unfolding rows
nth_past_the_end = refl

nth_of_improper : lists "nth" ((number 1) ∷ (list_of ((number 1) ∷ []) (number 2)) ∷ []) ≡ badarg
unfolding rows
nth_of_improper = refl

tail_from : lists "nthtail" ((number 2) ∷ (list ((number 1) ∷ (number 2) ∷ (number 3) ∷ [])) ∷ []) ≡ Ok (list ((number 3) ∷ []))
unfolding rows
tail_from = refl

tail_from_the_end : lists "nthtail" ((number 3) ∷ (list ((number 1) ∷ (number 2) ∷ (number 3) ∷ [])) ∷ []) ≡ Ok nil
unfolding rows
tail_from_the_end = refl

tail_past_the_end : lists "nthtail" ((number 4) ∷ (list ((number 1) ∷ (number 2) ∷ (number 3) ∷ [])) ∷ []) ≡ badarg
unfolding rows
tail_past_the_end = refl

tail_before_the_start : lists "nthtail" ((minus 1) ∷ (list ((number 1) ∷ [])) ∷ []) ≡ badarg
unfolding rows
tail_before_the_start = refl

front : lists "sublist" ((list ((number 1) ∷ (number 2) ∷ (number 3) ∷ [])) ∷ (number 2) ∷ []) ≡ Ok (list ((number 1) ∷ (number 2) ∷ []))
unfolding rows
front = refl

front_is_all : lists "sublist" ((list ((number 1) ∷ (number 2) ∷ (number 3) ∷ [])) ∷ highest ∷ []) ≡ Ok (list ((number 1) ∷ (number 2) ∷ (number 3) ∷ []))
unfolding rows
front_is_all = refl

front_of_negative : lists "sublist" ((list ((number 1) ∷ (number 2) ∷ (number 3) ∷ [])) ∷ (minus 1) ∷ []) ≡ badarg
unfolding rows
front_of_negative = refl

-- Lists put together.

append_two : lists "append" ((list ((number 1) ∷ [])) ∷ (list ((number 2) ∷ (number 3) ∷ [])) ∷ []) ≡ Ok (list ((number 1) ∷ (number 2) ∷ (number 3) ∷ []))
unfolding rows
append_two = refl

append_two_improper : lists "append" ((list ((number 1) ∷ [])) ∷ (number 2) ∷ []) ≡ badarg
unfolding rows
append_two_improper = refl

append_all : lists "append" ((list ((list ((number 1) ∷ (number 2) ∷ [])) ∷ nil ∷ (list ((number 3) ∷ [])) ∷ [])) ∷ []) ≡ Ok (list ((number 1) ∷ (number 2) ∷ (number 3) ∷ []))
unfolding rows
append_all = refl

append_all_improper : lists "append" ((list ((list ((number 1) ∷ [])) ∷ (number 2) ∷ [])) ∷ []) ≡ badarg
unfolding rows
append_all_improper = refl

reverse : lists "reverse" ((list ((number 1) ∷ (number 2) ∷ (number 3) ∷ [])) ∷ []) ≡ Ok (list ((number 3) ∷ (number 2) ∷ (number 1) ∷ []))
unfolding rows
reverse = refl

reverse_of_atom : lists "reverse" ((word "a") ∷ []) ≡ badarg
unfolding rows
reverse_of_atom = refl

reverse_onto : lists "reverse" ((list ((number 1) ∷ (number 2) ∷ [])) ∷ (list ((number 3) ∷ [])) ∷ []) ≡ Ok (list ((number 2) ∷ (number 1) ∷ (number 3) ∷ []))
unfolding rows
reverse_onto = refl

reverse_onto_any : lists "reverse" ((list ((number 1) ∷ (number 2) ∷ [])) ∷ (number 3) ∷ []) ≡ badarg
unfolding rows
reverse_onto_any = refl

flatten : lists "flatten" ((list ((list ((number 1) ∷ (list ((number 2) ∷ nil ∷ [])) ∷ [])) ∷ (tuple ((number 3) ∷ [])) ∷ (list ((list ((number 4) ∷ [])) ∷ [])) ∷ [])) ∷ []) ≡ Ok (list ((number 1) ∷ (number 2) ∷ (tuple ((number 3) ∷ [])) ∷ (number 4) ∷ []))
unfolding rows
flatten = refl

flatten_nil : lists "flatten" (nil ∷ []) ≡ Ok nil
unfolding rows
flatten_nil = refl

flatten_improper : lists "flatten" ((list ((number 1) ∷ (list_of ((number 1) ∷ []) (number 2)) ∷ [])) ∷ []) ≡ badarg
unfolding rows
flatten_improper = refl

flatten_atom : lists "flatten" ((word "a") ∷ []) ≡ badarg
unfolding rows
flatten_atom = refl

duplicate : lists "duplicate" ((number 3) ∷ (word "a") ∷ []) ≡ Ok (list ((word "a") ∷ (word "a") ∷ (word "a") ∷ []))
unfolding rows
duplicate = refl

duplicate_none : lists "duplicate" ((number 0) ∷ (word "a") ∷ []) ≡ Ok nil
unfolding rows
duplicate_none = refl

duplicate_negative : lists "duplicate" ((minus 1) ∷ (word "a") ∷ []) ≡ badarg
unfolding rows
duplicate_negative = refl

duplicate_4000 : is_ok (lists "duplicate" ((number 4000) ∷ (word "a") ∷ [])) ≡ true
unfolding rows
duplicate_4000 = refl

duplicate_4001 : lists "duplicate" ((number 4001) ∷ (word "a") ∷ []) ≡ system_limit
unfolding rows
duplicate_4001 = refl

duplicate_far : lists "duplicate" (highest ∷ (word "a") ∷ []) ≡ system_limit
unfolding rows
duplicate_far = refl

duplicate_large : lists "duplicate" ((number 991) ∷ (tuple (zeros 99)) ∷ []) ≡ system_limit
unfolding rows
duplicate_large = refl

duplicate_less_large : is_ok (lists "duplicate" ((number 990) ∷ (tuple (zeros 99)) ∷ [])) ≡ true
unfolding rows
duplicate_less_large = refl

seq : lists "seq" ((minus 1) ∷ (number 2) ∷ []) ≡ Ok (list ((minus 1) ∷ (number 0) ∷ (number 1) ∷ (number 2) ∷ []))
unfolding rows
seq = refl

seq_none : lists "seq" ((number 5) ∷ (number 4) ∷ []) ≡ Ok nil
unfolding rows
seq_none = refl

seq_lower : lists "seq" ((number 5) ∷ (number 3) ∷ []) ≡ badarg
unfolding rows
seq_lower = refl

seq_of_atom : lists "seq" ((word "a") ∷ (number 3) ∷ []) ≡ badarg
unfolding rows
seq_of_atom = refl

seq_4000 : is_ok (lists "seq" ((number 1) ∷ (number 4000) ∷ [])) ≡ true
unfolding rows
seq_4000 = refl

seq_4001 : lists "seq" ((number 1) ∷ (number 4001) ∷ []) ≡ system_limit
unfolding rows
seq_4001 = refl

seq_of_all : lists "seq" (lowest ∷ highest ∷ []) ≡ system_limit
unfolding rows
seq_of_all = refl

-- Questions.

member : lists "member" ((number 2) ∷ (list ((number 1) ∷ (number 2) ∷ [])) ∷ []) ≡ Ok (word "true")
unfolding rows
member = refl

not_member : lists "member" ((word "a") ∷ (list ((number 1) ∷ (number 2) ∷ [])) ∷ []) ≡ Ok (word "false")
unfolding rows
not_member = refl

member_of_improper : lists "member" ((number 1) ∷ (list_of ((number 1) ∷ []) (number 2)) ∷ []) ≡ badarg
unfolding rows
member_of_improper = refl

sum : lists "sum" ((list ((number 1) ∷ (number 2) ∷ (minus 5) ∷ [])) ∷ []) ≡ Ok (minus 2)
unfolding rows
sum = refl

sum_of_none : lists "sum" (nil ∷ []) ≡ Ok (number 0)
unfolding rows
sum_of_none = refl

sum_that_comes_back : lists "sum" ((list (highest ∷ (number 1) ∷ (minus 1) ∷ [])) ∷ []) ≡ Ok highest
unfolding rows
sum_that_comes_back = refl

sum_too_large : lists "sum" ((list (highest ∷ (number 1) ∷ [])) ∷ []) ≡ system_limit
unfolding rows
sum_too_large = refl

sum_of_atom : lists "sum" ((list (highest ∷ (number 1) ∷ (word "a") ∷ [])) ∷ []) ≡ badarg
unfolding rows
sum_of_atom = refl

greatest : lists "max" ((list ((number 3) ∷ (word "a") ∷ (number 5) ∷ [])) ∷ []) ≡ Ok (word "a")
unfolding rows
greatest = refl

greatest_of_none : lists "max" (nil ∷ []) ≡ badarg
unfolding rows
greatest_of_none = refl

least : lists "min" ((list ((number 3) ∷ (word "a") ∷ (minus 5) ∷ [])) ∷ []) ≡ Ok (minus 5)
unfolding rows
least = refl

least_of_none : lists "min" (nil ∷ []) ≡ badarg
unfolding rows
least_of_none = refl

-- Changes.

delete_the_first : lists "delete" ((number 2) ∷ (list ((number 1) ∷ (number 2) ∷ (number 3) ∷ (number 2) ∷ [])) ∷ []) ≡ Ok (list ((number 1) ∷ (number 3) ∷ (number 2) ∷ []))
unfolding rows
delete_the_first = refl

delete_absent : lists "delete" ((number 9) ∷ (list ((number 1) ∷ [])) ∷ []) ≡ Ok (list ((number 1) ∷ []))
unfolding rows
delete_absent = refl

delete_of_atom : lists "delete" ((number 9) ∷ (word "a") ∷ []) ≡ badarg
unfolding rows
delete_of_atom = refl

sort : lists "sort" ((list ((number 3) ∷ (word "a") ∷ (number 1) ∷ nil ∷ (number 2) ∷ (number 1) ∷ [])) ∷ []) ≡ Ok (list ((number 1) ∷ (number 1) ∷ (number 2) ∷ (number 3) ∷ (word "a") ∷ nil ∷ []))
unfolding rows
sort = refl

sort_improper : lists "sort" ((list_of ((number 1) ∷ []) (number 2)) ∷ []) ≡ badarg
unfolding rows
sort_improper = refl

sort_once : lists "usort" ((list ((number 3) ∷ (number 1) ∷ (number 2) ∷ (number 1) ∷ (number 3) ∷ [])) ∷ []) ≡ Ok (list ((number 1) ∷ (number 2) ∷ (number 3) ∷ []))
unfolding rows
sort_once = refl

sort_once_none : lists "usort" (nil ∷ []) ≡ Ok nil
unfolding rows
sort_once_none = refl

zip : lists "zip" ((list ((number 1) ∷ (number 2) ∷ [])) ∷ (list ((word "a") ∷ (word "b") ∷ [])) ∷ []) ≡ Ok (list ((tuple ((number 1) ∷ (word "a") ∷ [])) ∷ (tuple ((number 2) ∷ (word "b") ∷ [])) ∷ []))
unfolding rows
zip = refl

zip_unequal : lists "zip" ((list ((number 1) ∷ [])) ∷ nil ∷ []) ≡ badarg
unfolding rows
zip_unequal = refl

unzip : lists "unzip" ((list ((tuple ((number 1) ∷ (word "a") ∷ [])) ∷ (tuple ((number 2) ∷ (word "b") ∷ [])) ∷ [])) ∷ []) ≡ Ok (tuple ((list ((number 1) ∷ (number 2) ∷ [])) ∷ (list ((word "a") ∷ (word "b") ∷ [])) ∷ []))
unfolding rows
unzip = refl

unzip_none : lists "unzip" (nil ∷ []) ≡ Ok (tuple (nil ∷ nil ∷ []))
unfolding rows
unzip_none = refl

unzip_triple : lists "unzip" ((list ((tuple ((number 1) ∷ (number 2) ∷ (number 3) ∷ [])) ∷ [])) ∷ []) ≡ badarg
unfolding rows
unzip_triple = refl
