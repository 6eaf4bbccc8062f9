-- Tuples: their elements, of which the first has the position 1.

use Rattle.std.specs.Prelude.{ℕ, suc, pos, if◌then◌else◌, nat_lt, List, [], ◌∷◌, length, set, slice_get, Option, None, Some, Ok}
use Rattle.std.specs.List.{push}
use Rattle.edb_lang.specs.Terms.{Datum, int, tuple, Datums, none, more, of_list}
use Rattle.edb_lang.specs.ListTerms.{elements_of}
use Rattle.edb_pure.specs.Answers.{Answer, badarg, limited_answer, list_answer, given}

-- the elements of a tuple, as a list
abbrev pub items_of : Datums → List Datum
items_of none = []
items_of (more t ts) = t ∷ items_of ts

-- the elements of a tuple
abbrev pub tuple_items : Datum → Option (List Datum)
tuple_items (tuple ts) = Some (items_of ts)
tuple_items _ = None

-- the place among elements, counted from 0, that a position names
abbrev pub place_of : Datum → Option ℕ
place_of (int (pos (suc n))) = Some n
place_of _ = None

-- the tuple of these elements, as a result
abbrev pub tuple_answer : List Datum → Answer
tuple_answer ts = limited_answer (tuple (of_list ts))

-- the element at a position, which the tuple has
abbrev pub element : Datum → Datum → Answer
element n t = given (place_of n) (λ i. given (tuple_items t) (λ ts. given (slice_get ts i) Ok))

-- the tuple with another element at a position that it has
abbrev pub setelement : Datum → Datum → Datum → Answer
setelement n t v =
    given (place_of n) (λ i. given (tuple_items t) (λ ts. if nat_lt i (length ts) then tuple_answer (set ts i v) else badarg))

-- the tuple with one element more at its end
abbrev pub append_element : Datum → Datum → Answer
append_element t v = given (tuple_items t) (λ ts. tuple_answer (push ts v))

-- how many elements
abbrev pub tuple_size : Datum → Answer
tuple_size t = given (tuple_items t) (λ ts. Ok (int (pos (length ts))))

-- the elements of a tuple as a list
abbrev pub tuple_to_list : Datum → Answer
tuple_to_list t = given (tuple_items t) list_answer

-- the elements of a list as a tuple
abbrev pub list_to_tuple : Datum → Answer
list_to_tuple t = given (elements_of t) tuple_answer
