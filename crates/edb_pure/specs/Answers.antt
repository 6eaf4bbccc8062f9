-- Answers: what an operator or a built-in gives, which is a value or a raise.

use Rattle.std.specs.Prelude.{ℕ, Bool, true, false, cond, nat_le, List, codes, Option, None, Some, Result, Ok, Err}
use Rattle.edb_lang.specs.declared.small.Class.{Class}
use Rattle.edb_lang.specs.declared.small.Class.TheVariants.{Error}
use Rattle.edb_lang.specs.Terms.{Datum, atom, nil, is_within, most_high}
use Rattle.edb_lang.specs.ListTerms.{list_of}
use Rattle.edb_pure.specs.declared.Raise.{Raise}

-- a value, or an exception
abbrev pub Answer : Type 0
Answer = Result Datum Raise

-- an exception of this class with this reason
abbrev pub raise : Class → Datum → Answer
raise class reason = Err (record { class = class; reason = reason })

-- an argument is not of the kind that is wanted, or names what isn't there
abbrev pub badarg : Answer
badarg = raise Error (atom (codes "badarg"))

-- an operand of arithmetic is not an integer, a divisor is 0, or the operator is `/`
abbrev pub badarith : Answer
badarith = raise Error (atom (codes "badarith"))

-- the result passes a limit
abbrev pub system_limit : Answer
system_limit = raise Error (atom (codes "system_limit"))

-- a result, if it is within the limits of height and size
abbrev pub limited_answer : Datum → Answer
limited_answer t = cond (is_within t) (Ok t) system_limit

-- the list of these elements, as a result
abbrev pub list_answer : List Datum → Answer
list_answer ts = limited_answer (list_of ts nil)

-- A list of so many elements as a result. One of more than 4,000 is too high, whatever its elements are.
abbrev pub counted_answer : ℕ → (ℕ → List Datum) → Answer
counted_answer n items = by (nat_le n most_high)
  where
    by : Bool → Answer
    by true = list_answer (items n)
    by false = system_limit

-- what comes of an argument that is of the kind that is wanted; `badarg` of any other
abbrev pub given : {A : Type 0} → Option A → (A → Answer) → Answer
given (Some a) answer = answer a
given None answer = badarg
