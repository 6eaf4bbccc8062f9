-- Texts: atoms and integers as lists of characters, and back.

use Rattle.std.specs.Prelude.{ℕ, ◌+◌, ◌-◌, ◌*◌, ℤ, pos, neg_ℤ, if◌then◌else◌, ◌==◌, nat_le, List, [], ◌∷◌, length, fold, chars, encode_utf8_all, Option, None, Some, Ok}
use Rattle.std.specs.List.{list_all}
use Rattle.std.specs.Option.{option_map}
use Rattle.std.specs.Char.{is_ascii_digit}
use Rattle.std.specs.Fmt.{signed_decimal}
use Rattle.edb_lang.specs.Terms.{Datum, int, atom}
use Rattle.edb_lang.specs.ListTerms.{characters_of, string_of}
use Rattle.edb_pure.specs.Answers.{Answer, badarg, system_limit, limited_answer, given}
use Rattle.edb_pure.specs.Integers.{integer_answer}

-- an atom has at most this many characters
abbrev pub most_characters : ℕ
most_characters = 255

-- the characters that the bytes of an atom spell
abbrev pub atom_to_list : Datum → Answer
atom_to_list (atom a) = limited_answer (string_of (chars a))
atom_to_list _ = badarg

-- the atom of these characters, in UTF-8. A wrong element, or a list that isn't proper, counts before the length does.
abbrev pub list_to_atom : Datum → Answer
list_to_atom t = given (characters_of t) (λ cs. if nat_le (length cs) most_characters then Ok (atom (encode_utf8_all cs)) else system_limit)

-- the decimal digits, after a minus sign if it is negative
abbrev pub integer_to_list : Datum → Answer
integer_to_list (int i) = limited_answer (string_of (signed_decimal i))
integer_to_list _ = badarg

-- the number that decimal digits write; there is at least one, and zeros may stand before it
abbrev pub digits_number : List ℕ → Option ℕ
digits_number [] = None
digits_number (c ∷ cs) = if list_all is_ascii_digit (c ∷ cs) then Some (fold (λ n d. 10 * n + (d - 48)) 0 (c ∷ cs)) else None

-- the integer that digits write, with or without a sign before them
abbrev pub decimal_integer : List ℕ → Option ℤ
decimal_integer [] = None
decimal_integer (c ∷ cs) =
    if c == 45 then option_map (λ n. neg_ℤ (pos n)) (digits_number cs)
    else if c == 43 then option_map pos (digits_number cs)
    else option_map pos (digits_number (c ∷ cs))

-- the integer that the characters write. A wrong character counts before the range does.
abbrev pub list_to_integer : Datum → Answer
list_to_integer t = given (characters_of t) (λ cs. given (decimal_integer cs) integer_answer)
