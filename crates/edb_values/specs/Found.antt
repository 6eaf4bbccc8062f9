-- A binding that is looked for: what was found so far, and what it comes to.

use Rattle.std.specs.Prelude.{ℕ, Bool, true, false, List, codes, Option, None, Some, Ok}
use Rattle.std.specs.Option.{option_and_then}
use Rattle.edb_lang.specs.Terms.{Datum, atom, nil, cons}
use Rattle.edb_lang.specs.TermText.{same_name}
use Rattle.edb_pure.specs.Answers.{Answer, limited_answer}
use Rattle.edb_pure.specs.Lists.{pair}
use Rattle.edb_pure.specs.Lookups.{binding_of}

-- what was found before, or else the value, if its name is the one that is looked for
abbrev pub first_of : Option Datum → Bool → Datum → Option Datum
first_of (Some v) b w = Some v
first_of None true w = Some w
first_of None false w = None

-- what is found once the bindings of a list are looked at too, if it is a proper list of bindings
abbrev pub found_from : Option Datum → List ℕ → Datum → Option (Option Datum)
found_from found x nil = Some found
found_from found x (cons h t) = option_and_then (λ p. found_from (first_of found (same_name x p.0) p.1) x t) (binding_of h)
found_from found x _ = None

-- the answer to what was found
abbrev pub value_answer : Option Datum → Answer
value_answer (Some v) = limited_answer (pair (atom (codes "value")) v)
value_answer None = Ok (atom (codes "unbound"))
