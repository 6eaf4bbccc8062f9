-- Words, and what they ask for.

use Rattle.std.proofs.Common.{◌≡◌, true, false, List, [], ◌∷◌, Some, None, codes, refl}
use Rattle.edb_options.specs.Words.{Text, behind}
use Rattle.edb_options.specs.Reading.{read_words}
use Rattle.edb_options.specs.Options.{options_in}

abbrev both : List Text
both = codes "s" ∷ (codes "m.erl" ∷ [])

names_alone : options_in both ≡ Some (record { options = record { slice = 100; moves = 100000; journal = false }; names = both })
unfolding read_words
names_alone = refl

numbers_behind_names : options_in (codes "s" ∷ (codes "m.erl" ∷ (codes "--slice" ∷ (codes "4096" ∷ (codes "--hands=1" ∷ [])))))
    ≡ Some (record { options = record { slice = 4096; moves = 100000; journal = false }; names = both })
unfolding read_words behind
numbers_behind_names = refl

zeros_in_front : options_in (codes "--moves=0000020" ∷ (codes "--journal" ∷ both)) ≡ Some (record { options = record { slice = 100; moves = 20; journal = true }; names = both })
unfolding read_words behind
zeros_in_front = refl

hyphen_is_a_name : options_in (codes "s" ∷ (codes "-" ∷ (codes "--" ∷ [])))
    ≡ Some (record { options = record { slice = 100; moves = 100000; journal = false }; names = codes "s" ∷ (codes "-" ∷ []) })
unfolding read_words
hyphen_is_a_name = refl

names_behind_the_end : options_in (codes "--" ∷ (codes "s" ∷ (codes "--slice" ∷ [])))
    ≡ Some (record { options = record { slice = 100; moves = 100000; journal = false }; names = codes "s" ∷ (codes "--slice" ∷ []) })
unfolding read_words
names_behind_the_end = refl

two_hands : options_in (codes "--hands" ∷ (codes "2" ∷ both)) ≡ None
unfolding read_words
two_hands = refl

slice_past_its_range : options_in (codes "--slice" ∷ (codes "4097" ∷ both)) ≡ None
unfolding read_words
slice_past_its_range = refl

no_moves : options_in (codes "--moves=0" ∷ both) ≡ None
unfolding read_words behind
no_moves = refl

slice_twice : options_in (codes "--slice=7" ∷ (codes "--slice" ∷ (codes "1" ∷ both))) ≡ None
unfolding read_words behind
slice_twice = refl

journal_twice : options_in (codes "--journal" ∷ (codes "--journal" ∷ both)) ≡ None
unfolding read_words
journal_twice = refl

journal_with_a_value : options_in (codes "--journal=1" ∷ both) ≡ None
unfolding read_words behind
journal_with_a_value = refl

no_such_option : options_in (codes "s" ∷ (codes "m.erl" ∷ (codes "--help" ∷ []))) ≡ None
unfolding read_words behind
no_such_option = refl

one_hyphen : options_in (codes "-x" ∷ both) ≡ None
unfolding read_words behind
one_hyphen = refl

no_name_before_the_sign : options_in (codes "s" ∷ (codes "m.erl" ∷ (codes "--=" ∷ []))) ≡ None
unfolding read_words behind
no_name_before_the_sign = refl

option_as_a_number : options_in (codes "--slice" ∷ (codes "--journal" ∷ both)) ≡ None
unfolding read_words
option_as_a_number = refl

end_as_a_number : options_in (codes "s" ∷ (codes "m.erl" ∷ (codes "--slice" ∷ (codes "--" ∷ (codes "7" ∷ []))))) ≡ None
unfolding read_words
end_as_a_number = refl

no_number_at_the_end : options_in (codes "s" ∷ (codes "m.erl" ∷ (codes "--moves" ∷ []))) ≡ None
unfolding read_words
no_number_at_the_end = refl

eight_digits : options_in (codes "--slice" ∷ (codes "00000020" ∷ both)) ≡ None
unfolding read_words
eight_digits = refl

no_digits : options_in (codes "--slice=" ∷ both) ≡ None
unfolding read_words behind
no_digits = refl

a_sign : options_in (codes "--moves" ∷ (codes "+5" ∷ both)) ≡ None
unfolding read_words
a_sign = refl

one_name : options_in (codes "--moves=50" ∷ (codes "s" ∷ [])) ≡ None
unfolding read_words behind
one_name = refl
