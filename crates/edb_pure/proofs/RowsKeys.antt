-- Lists of tuples and of bindings, row by row.

use Rattle.std.proofs.Common.{◌≡◌, [], ◌∷◌, Ok, refl}
use Rattle.edb_lang.specs.Terms.{nil}
use Rattle.edb_lang.specs.ListTerms.{list_of}
use Rattle.edb_pure.specs.Answers.{badarg, system_limit}
use Rattle.edb_pure.specs.Table.{rows}
use Rattle.edb_pure.proofs.RowTerms.{number, word, text, list, tuple, zeros, call, lists}

-- Key functions pass over what has no such position.

find : lists "keyfind" ((word "b") ∷ (number 1) ∷ (list ((tuple ((word "a") ∷ (number 1) ∷ [])) ∷ (word "b") ∷ (tuple ((word "c") ∷ [])) ∷ (tuple ((word "b") ∷ (number 2) ∷ [])) ∷ (tuple ((word "b") ∷ (number 3) ∷ [])) ∷ [])) ∷ []) ≡ Ok (tuple ((word "b") ∷ (number 2) ∷ []))
unfolding rows
find = refl

find_second : lists "keyfind" ((number 3) ∷ (number 2) ∷ (list ((tuple ((word "a") ∷ (number 1) ∷ [])) ∷ (word "b") ∷ (tuple ((word "c") ∷ [])) ∷ (tuple ((word "b") ∷ (number 2) ∷ [])) ∷ (tuple ((word "b") ∷ (number 3) ∷ [])) ∷ [])) ∷ []) ≡ Ok (tuple ((word "b") ∷ (number 3) ∷ []))
unfolding rows
find_second = refl

find_absent : lists "keyfind" ((word "z") ∷ (number 1) ∷ (list ((tuple ((word "a") ∷ (number 1) ∷ [])) ∷ (word "b") ∷ (tuple ((word "c") ∷ [])) ∷ (tuple ((word "b") ∷ (number 2) ∷ [])) ∷ (tuple ((word "b") ∷ (number 3) ∷ [])) ∷ [])) ∷ []) ≡ Ok (word "false")
unfolding rows
find_absent = refl

find_past_each : lists "keyfind" ((word "a") ∷ (number 9) ∷ (list ((tuple ((word "a") ∷ (number 1) ∷ [])) ∷ (word "b") ∷ (tuple ((word "c") ∷ [])) ∷ (tuple ((word "b") ∷ (number 2) ∷ [])) ∷ (tuple ((word "b") ∷ (number 3) ∷ [])) ∷ [])) ∷ []) ≡ Ok (word "false")
unfolding rows
find_past_each = refl

find_at_0 : lists "keyfind" ((word "a") ∷ (number 0) ∷ (list ((tuple ((word "a") ∷ (number 1) ∷ [])) ∷ (word "b") ∷ (tuple ((word "c") ∷ [])) ∷ (tuple ((word "b") ∷ (number 2) ∷ [])) ∷ (tuple ((word "b") ∷ (number 3) ∷ [])) ∷ [])) ∷ []) ≡ badarg
unfolding rows
find_at_0 = refl

find_in_improper : lists "keyfind" ((word "a") ∷ (number 1) ∷ (list_of ((number 1) ∷ []) (number 2)) ∷ []) ≡ badarg
unfolding rows
find_in_improper = refl

member : lists "keymember" ((number 2) ∷ (number 2) ∷ (list ((tuple ((word "a") ∷ (number 1) ∷ [])) ∷ (word "b") ∷ (tuple ((word "c") ∷ [])) ∷ (tuple ((word "b") ∷ (number 2) ∷ [])) ∷ (tuple ((word "b") ∷ (number 3) ∷ [])) ∷ [])) ∷ []) ≡ Ok (word "true")
unfolding rows
member = refl

not_member : lists "keymember" ((number 4) ∷ (number 2) ∷ (list ((tuple ((word "a") ∷ (number 1) ∷ [])) ∷ (word "b") ∷ (tuple ((word "c") ∷ [])) ∷ (tuple ((word "b") ∷ (number 2) ∷ [])) ∷ (tuple ((word "b") ∷ (number 3) ∷ [])) ∷ [])) ∷ []) ≡ Ok (word "false")
unfolding rows
not_member = refl

member_at_atom : lists "keymember" ((number 4) ∷ (word "a") ∷ (list ((tuple ((word "a") ∷ (number 1) ∷ [])) ∷ (word "b") ∷ (tuple ((word "c") ∷ [])) ∷ (tuple ((word "b") ∷ (number 2) ∷ [])) ∷ (tuple ((word "b") ∷ (number 3) ∷ [])) ∷ [])) ∷ []) ≡ badarg
unfolding rows
member_at_atom = refl

delete : lists "keydelete" ((word "b") ∷ (number 1) ∷ (list ((tuple ((word "a") ∷ (number 1) ∷ [])) ∷ (word "b") ∷ (tuple ((word "c") ∷ [])) ∷ (tuple ((word "b") ∷ (number 2) ∷ [])) ∷ (tuple ((word "b") ∷ (number 3) ∷ [])) ∷ [])) ∷ []) ≡ Ok (list ((tuple ((word "a") ∷ (number 1) ∷ [])) ∷ (word "b") ∷ (tuple ((word "c") ∷ [])) ∷ (tuple ((word "b") ∷ (number 3) ∷ [])) ∷ []))
unfolding rows
delete = refl

delete_absent : lists "keydelete" ((word "z") ∷ (number 1) ∷ (list ((tuple ((word "a") ∷ (number 1) ∷ [])) ∷ (word "b") ∷ (tuple ((word "c") ∷ [])) ∷ (tuple ((word "b") ∷ (number 2) ∷ [])) ∷ (tuple ((word "b") ∷ (number 3) ∷ [])) ∷ [])) ∷ []) ≡ Ok (list ((tuple ((word "a") ∷ (number 1) ∷ [])) ∷ (word "b") ∷ (tuple ((word "c") ∷ [])) ∷ (tuple ((word "b") ∷ (number 2) ∷ [])) ∷ (tuple ((word "b") ∷ (number 3) ∷ [])) ∷ []))
unfolding rows
delete_absent = refl

replace : lists "keyreplace" ((word "b") ∷ (number 1) ∷ (list ((tuple ((word "a") ∷ (number 1) ∷ [])) ∷ (word "b") ∷ (tuple ((word "c") ∷ [])) ∷ (tuple ((word "b") ∷ (number 2) ∷ [])) ∷ (tuple ((word "b") ∷ (number 3) ∷ [])) ∷ [])) ∷ (tuple ((word "x") ∷ [])) ∷ []) ≡ Ok (list ((tuple ((word "a") ∷ (number 1) ∷ [])) ∷ (word "b") ∷ (tuple ((word "c") ∷ [])) ∷ (tuple ((word "x") ∷ [])) ∷ (tuple ((word "b") ∷ (number 3) ∷ [])) ∷ []))
unfolding rows
replace = refl

replace_absent : lists "keyreplace" ((word "z") ∷ (number 1) ∷ (list ((tuple ((word "a") ∷ (number 1) ∷ [])) ∷ [])) ∷ (tuple ((word "x") ∷ [])) ∷ []) ≡ Ok (list ((tuple ((word "a") ∷ (number 1) ∷ [])) ∷ []))
unfolding rows
replace_absent = refl

replace_by_atom : lists "keyreplace" ((word "a") ∷ (number 1) ∷ (list ((tuple ((word "a") ∷ (number 1) ∷ [])) ∷ [])) ∷ (word "x") ∷ []) ≡ badarg
unfolding rows
replace_by_atom = refl

store : lists "keystore" ((word "a") ∷ (number 1) ∷ (list ((tuple ((word "a") ∷ (number 1) ∷ [])) ∷ (tuple ((word "b") ∷ (number 2) ∷ [])) ∷ [])) ∷ (tuple ((word "a") ∷ (number 9) ∷ [])) ∷ []) ≡ Ok (list ((tuple ((word "a") ∷ (number 9) ∷ [])) ∷ (tuple ((word "b") ∷ (number 2) ∷ [])) ∷ []))
unfolding rows
store = refl

store_last : lists "keystore" ((word "c") ∷ (number 1) ∷ (list ((tuple ((word "a") ∷ (number 1) ∷ [])) ∷ [])) ∷ (tuple ((word "c") ∷ (number 3) ∷ [])) ∷ []) ≡ Ok (list ((tuple ((word "a") ∷ (number 1) ∷ [])) ∷ (tuple ((word "c") ∷ (number 3) ∷ [])) ∷ []))
unfolding rows
store_last = refl

store_in_none : lists "keystore" ((word "c") ∷ (number 1) ∷ nil ∷ (tuple ((word "c") ∷ (number 3) ∷ [])) ∷ []) ≡ Ok (list ((tuple ((word "c") ∷ (number 3) ∷ [])) ∷ []))
unfolding rows
store_in_none = refl

store_atom : lists "keystore" ((word "c") ∷ (number 1) ∷ nil ∷ (word "c") ∷ []) ≡ badarg
unfolding rows
store_atom = refl

store_past_4000 : lists "keystore" ((word "c") ∷ (number 1) ∷ (list (zeros 4000)) ∷ (tuple ((word "c") ∷ [])) ∷ []) ≡ system_limit
unfolding rows
store_past_4000 = refl

sort : lists "keysort" ((number 2) ∷ (list ((tuple ((word "a") ∷ (number 2) ∷ [])) ∷ (tuple ((word "b") ∷ (number 1) ∷ [])) ∷ (tuple ((word "c") ∷ (number 2) ∷ [])) ∷ (tuple ((word "d") ∷ (number 1) ∷ [])) ∷ [])) ∷ []) ≡ Ok (list ((tuple ((word "b") ∷ (number 1) ∷ [])) ∷ (tuple ((word "d") ∷ (number 1) ∷ [])) ∷ (tuple ((word "a") ∷ (number 2) ∷ [])) ∷ (tuple ((word "c") ∷ (number 2) ∷ [])) ∷ []))
unfolding rows
sort = refl

sort_none : lists "keysort" ((number 1) ∷ nil ∷ []) ≡ Ok nil
unfolding rows
sort_none = refl

sort_none_at_0 : lists "keysort" ((number 0) ∷ nil ∷ []) ≡ badarg
unfolding rows
sort_none_at_0 = refl

sort_short : lists "keysort" ((number 2) ∷ (list ((tuple ((word "a") ∷ (number 2) ∷ [])) ∷ (tuple ((word "b") ∷ [])) ∷ [])) ∷ []) ≡ badarg
unfolding rows
sort_short = refl

sort_atom : lists "keysort" ((number 1) ∷ (list ((tuple ((word "a") ∷ (number 2) ∷ [])) ∷ (word "b") ∷ [])) ∷ []) ≡ badarg
unfolding rows
sort_atom = refl

-- Bindings.

binding : call "int" "get_binding" ((word "X") ∷ (list ((tuple ((word "Y") ∷ (number 1) ∷ [])) ∷ (tuple ((word "X") ∷ (number 2) ∷ [])) ∷ (tuple ((word "X") ∷ (number 3) ∷ [])) ∷ [])) ∷ []) ≡ Ok (tuple ((word "value") ∷ (number 2) ∷ []))
unfolding rows
binding = refl

binding_absent : call "int" "get_binding" ((word "Z") ∷ (list ((tuple ((word "Y") ∷ (number 1) ∷ [])) ∷ [])) ∷ []) ≡ Ok (word "unbound")
unfolding rows
binding_absent = refl

binding_of_none : call "int" "get_binding" ((word "Z") ∷ nil ∷ []) ≡ Ok (word "unbound")
unfolding rows
binding_of_none = refl

binding_of_text : call "int" "get_binding" ((text "X") ∷ (list ((tuple ((word "X") ∷ (number 2) ∷ [])) ∷ [])) ∷ []) ≡ badarg
unfolding rows
binding_of_text = refl

binding_in_triple : call "int" "get_binding" ((word "X") ∷ (list ((tuple ((word "X") ∷ (number 2) ∷ [])) ∷ (tuple ((word "Y") ∷ (number 1) ∷ (number 1) ∷ [])) ∷ [])) ∷ []) ≡ badarg
unfolding rows
binding_in_triple = refl

binding_of_number : call "int" "get_binding" ((word "X") ∷ (list ((tuple ((word "X") ∷ (number 2) ∷ [])) ∷ (tuple ((number 1) ∷ (number 1) ∷ [])) ∷ [])) ∷ []) ≡ badarg
unfolding rows
binding_of_number = refl

binding_in_improper : call "int" "get_binding" ((word "X") ∷ (list_of ((tuple ((word "X") ∷ (number 2) ∷ [])) ∷ []) (word "a")) ∷ []) ≡ badarg
unfolding rows
binding_in_improper = refl
