-- A tuple that isn't empty is its elements after a brace and commas.

use Rattle.std.proofs.Common.{◌≡◌, Bool, false, List, [], ◌∷◌, length, eqb, refl}
use Rattle.edb_lang.specs.Terms.{Datum, of_list}
use Rattle.edb_lang.specs.TermText.{text, tuple_text, items_text}

pub braced : (strings : Bool) (ts : List Datum) → eqb (length ts) 0 ≡ false → tuple_text strings (of_list ts) ≡ items_text strings 123 (of_list ts)
unfolding text tuple_text items_text
braced strings [] h = cc
braced strings (t ∷ ts) h = refl
