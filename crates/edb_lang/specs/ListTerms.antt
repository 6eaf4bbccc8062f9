-- Lists as terms: the list of some elements, and the elements or the characters of a list.

use Rattle.std.specs.Prelude.{ℕ, pos, if◌then◌else◌, List, [], ◌∷◌, Option, None, Some}
use lib.Utf8.{scalar}
use Rattle.std.specs.Option.{option_and_then, option_map}
use Rattle.edb_lang.specs.Terms.{Datum, int, nil, cons}

-- the list with these elements, which ends in this term
abbrev pub list_of : List Datum → Datum → Datum
list_of [] t = t
list_of (d ∷ ds) t = cons d (list_of ds t)

-- the elements of a proper list, which is one that ends in nil; no other term has any
abbrev pub elements_of : Datum → Option (List Datum)
elements_of nil = Some []
elements_of (cons h t) = option_map (λ ts. h ∷ ts) (elements_of t)
elements_of _ = None

-- the code point that a term is: an integer up to 1114111 that is not a surrogate
abbrev pub point_of : Datum → Option ℕ
point_of (int (pos c)) = if scalar c then Some c else None
point_of _ = None

-- the characters of a string, which is a proper list of code points
abbrev pub characters_of : Datum → Option (List ℕ)
characters_of nil = Some []
characters_of (cons h t) = option_and_then (λ c. option_map (λ cs. c ∷ cs) (characters_of t)) (point_of h)
characters_of _ = None

-- the string of these characters
abbrev pub string_of : List ℕ → Datum
string_of [] = nil
string_of (c ∷ cs) = cons (int (pos c)) (string_of cs)
