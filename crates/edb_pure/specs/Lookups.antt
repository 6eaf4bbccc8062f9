-- Look-ups: a variable's value in a list of bindings, as `int:get_binding/2` gives it.

use Rattle.std.specs.Prelude.{ℕ, List, codes, find, Option, None, Some, Ok}
use Rattle.std.specs.Option.{option_and_then, option_map_or}
use Rattle.edb_lang.specs.Terms.{Datum, atom, tuple, none, more}
use Rattle.edb_lang.specs.ListTerms.{elements_of}
use Rattle.edb_lang.specs.TermText.{same_name}
use Rattle.edb_pure.specs.Answers.{Answer, limited_answer, given}
use Rattle.edb_pure.specs.Lists.{each, pair}

-- the name that a term is
abbrev pub name_of : Datum → Option (List ℕ)
name_of (atom a) = Some a
name_of _ = None

-- the name and the value of a binding
abbrev pub binding_of : Datum → Option (List ℕ × Datum)
binding_of (tuple (more (atom x) (more v none))) = Some (x, v)
binding_of _ = None

-- `{value,V}` of the first pair with the name, or `unbound`; all pairs are looked at
abbrev pub get_binding : Datum → Datum → Answer
get_binding x t =
    given (name_of x)
    (λ x. given (option_and_then (each binding_of) (elements_of t)) (λ ps. option_map_or (λ p. limited_answer (pair (atom (codes "value")) p.1)) (find (λ p. same_name x p.0) ps) (Ok (atom (codes "unbound")))))
