-- Terms and calls in a short form, for the rows.

use Rattle.std.proofs.Common.{ℕ, ◌-◌, ◌^◌, pos, negsuc, neg_ℤ, List, length, replicate, codes}
use Prim.Native.String.{String}
use Rattle.edb_lang.specs.Terms as term
use Rattle.edb_lang.specs.Terms.{Datum, int, atom, nil, of_list}
use Rattle.edb_lang.specs.ListTerms.{list_of, string_of}
use Rattle.edb_pure.specs.Answers.{Answer}
use Rattle.edb_pure.specs.Table.{pure}

abbrev pub number : ℕ → Datum
number n = int (pos n)

abbrev pub minus : ℕ → Datum
minus n = int (neg_ℤ (pos n))

-- the ends of the range
abbrev pub highest : Datum
highest = int (pos (2 ^ 127 - 1))

abbrev pub lowest : Datum
lowest = int (negsuc (2 ^ 127 - 1))

abbrev pub word : String → Datum
word name = atom (codes name)

abbrev pub text : String → Datum
text characters = string_of (codes characters)

abbrev pub list : List Datum → Datum
list ts = list_of ts nil

abbrev pub tuple : List Datum → Datum
tuple ts = term.tuple (of_list ts)

-- so many zeros
abbrev pub zeros : ℕ → List Datum
zeros n = replicate n (number 0)

-- a built-in called by the process 7
abbrev pub call : String → String → List Datum → Answer
call home name vs = pure (codes home, (codes name, length vs)) 7 vs

abbrev pub erlang : String → List Datum → Answer
erlang = call "erlang"

abbrev pub lists : String → List Datum → Answer
lists = call "lists"
