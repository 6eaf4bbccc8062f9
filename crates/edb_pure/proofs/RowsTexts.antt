-- Atoms and integers as texts, row by row.

use Rattle.std.proofs.Common.{◌≡◌, [], ◌∷◌, Ok, true, is_ok, replicate, refl}
use Rattle.std.specs.Str.{chars}
use Rattle.std.specs.Fmt.{digits}
use lib.Utf8.{encode}
use Rattle.edb_lang.specs.Terms.{atom, nil}
use Rattle.edb_lang.specs.ListTerms.{list_of}
use Rattle.edb_pure.specs.Answers.{badarg, system_limit}
use Rattle.edb_pure.specs.Table.{rows}
use Rattle.edb_pure.proofs.RowTerms.{number, minus, highest, lowest, word, text, list, erlang}

-- Atoms.

of_atom : erlang "atom_to_list" ((word "ok") ∷ []) ≡ Ok (text "ok")
unfolding rows chars
of_atom = refl

of_wide_atom : erlang "atom_to_list" ((atom (195 ∷ 164 ∷ 98 ∷ [])) ∷ []) ≡ Ok (list ((number 228) ∷ (number 98) ∷ []))
unfolding rows chars
of_wide_atom = refl

of_no_atom : erlang "atom_to_list" ((number 1) ∷ []) ≡ badarg
unfolding rows
of_no_atom = refl

to_atom : erlang "list_to_atom" ((text "ok") ∷ []) ≡ Ok (word "ok")
unfolding rows encode
to_atom = refl

to_empty_atom : erlang "list_to_atom" (nil ∷ []) ≡ Ok (atom [])
unfolding rows encode
to_empty_atom = refl

to_wide_atom : erlang "list_to_atom" ((list ((number 228) ∷ (number 98) ∷ [])) ∷ []) ≡ Ok (atom (195 ∷ 164 ∷ 98 ∷ []))
unfolding rows encode
to_wide_atom = refl

to_atom_of_surrogate : erlang "list_to_atom" ((list ((number 55296) ∷ [])) ∷ []) ≡ badarg
unfolding rows
to_atom_of_surrogate = refl

to_atom_past_unicode : erlang "list_to_atom" ((list ((number 97) ∷ (number 1114112) ∷ [])) ∷ []) ≡ badarg
unfolding rows
to_atom_past_unicode = refl

to_atom_of_negative : erlang "list_to_atom" ((list ((minus 1) ∷ [])) ∷ []) ≡ badarg
unfolding rows
to_atom_of_negative = refl

to_atom_improper : erlang "list_to_atom" ((list_of ((number 97) ∷ []) (number 98)) ∷ []) ≡ badarg
unfolding rows
to_atom_improper = refl

to_atom_of_255 : is_ok (erlang "list_to_atom" ((list (replicate 255 (number 228))) ∷ [])) ≡ true
unfolding rows
to_atom_of_255 = refl

to_atom_of_256 : erlang "list_to_atom" ((list (replicate 256 (number 97))) ∷ []) ≡ system_limit
unfolding rows
to_atom_of_256 = refl

to_atom_of_256_and_a_bad_one : erlang "list_to_atom" ((list_of (replicate 256 (number 97)) (list (word "a" ∷ []))) ∷ []) ≡ badarg
unfolding rows
to_atom_of_256_and_a_bad_one = refl

-- Integers.

of_integer : erlang "integer_to_list" ((minus 42) ∷ []) ≡ Ok (text "-42")
unfolding rows digits
of_integer = refl

of_zero : erlang "integer_to_list" ((number 0) ∷ []) ≡ Ok (text "0")
unfolding rows digits
of_zero = refl

of_lowest : erlang "integer_to_list" (lowest ∷ []) ≡ Ok (text "-170141183460469231731687303715884105728")
unfolding rows digits
of_lowest = refl

of_no_integer : erlang "integer_to_list" ((word "a") ∷ []) ≡ badarg
unfolding rows
of_no_integer = refl

to_integer : erlang "list_to_integer" ((text "123") ∷ []) ≡ Ok (number 123)
unfolding rows
to_integer = refl

to_negative : erlang "list_to_integer" ((text "-123") ∷ []) ≡ Ok (minus 123)
unfolding rows
to_negative = refl

to_integer_with_plus : erlang "list_to_integer" ((text "+7") ∷ []) ≡ Ok (number 7)
unfolding rows
to_integer_with_plus = refl

to_integer_with_zeros : erlang "list_to_integer" ((text "007") ∷ []) ≡ Ok (number 7)
unfolding rows
to_integer_with_zeros = refl

to_integer_of_minus_zero : erlang "list_to_integer" ((text "-0") ∷ []) ≡ Ok (number 0)
unfolding rows
to_integer_of_minus_zero = refl

to_integer_of_none : erlang "list_to_integer" (nil ∷ []) ≡ badarg
unfolding rows
to_integer_of_none = refl

to_integer_of_sign : erlang "list_to_integer" ((text "-") ∷ []) ≡ badarg
unfolding rows
to_integer_of_sign = refl

to_integer_of_two_signs : erlang "list_to_integer" ((text "+-1") ∷ []) ≡ badarg
unfolding rows
to_integer_of_two_signs = refl

to_integer_of_letter : erlang "list_to_integer" ((text "12a") ∷ []) ≡ badarg
unfolding rows
to_integer_of_letter = refl

to_integer_of_blank : erlang "list_to_integer" ((text " 1") ∷ []) ≡ badarg
unfolding rows
to_integer_of_blank = refl

to_integer_of_atom : erlang "list_to_integer" ((word "a") ∷ []) ≡ badarg
unfolding rows
to_integer_of_atom = refl

to_highest : erlang "list_to_integer" ((text "170141183460469231731687303715884105727") ∷ []) ≡ Ok highest
unfolding rows
to_highest = refl

to_lowest : erlang "list_to_integer" ((text "-170141183460469231731687303715884105728") ∷ []) ≡ Ok lowest
unfolding rows
to_lowest = refl

past_highest : erlang "list_to_integer" ((text "170141183460469231731687303715884105728") ∷ []) ≡ system_limit
unfolding rows
past_highest = refl

past_lowest : erlang "list_to_integer" ((text "-170141183460469231731687303715884105729") ∷ []) ≡ system_limit
unfolding rows
past_lowest = refl

past_highest_and_a_letter : erlang "list_to_integer" ((text "170141183460469231731687303715884105728x") ∷ []) ≡ badarg
unfolding rows
past_highest_and_a_letter = refl
