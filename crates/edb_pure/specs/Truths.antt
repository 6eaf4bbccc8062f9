-- Truth values: the atoms `true` and `false`, comparisons by the order of terms, and the operators on truth values.

use Rattle.std.specs.Prelude.{Bool, true, false, if◌then◌else◌, not, codes, Option, None, Some, Ok}
use Rattle.std.specs.declared.cmp.Ordering.{Ordering}
use Rattle.std.specs.Ordering.{is_eq}
use Rattle.edb_lang.specs.Terms.{Datum, atom}
use Rattle.edb_lang.specs.Order.{term_cmp}
use Rattle.edb_lang.specs.TermText.{same_name}
use Rattle.edb_pure.specs.Answers.{Answer, given}

-- the atom of a truth value
abbrev pub truth : Bool → Datum
truth true = atom (codes "true")
truth false = atom (codes "false")

-- a truth value as a result
abbrev pub truth_answer : Bool → Answer
truth_answer b = Ok (truth b)

-- the truth value that a term is
abbrev pub truth_of : Datum → Option Bool
truth_of (atom a) = if same_name a (codes "true") then Some true else if same_name a (codes "false") then Some false else None
truth_of _ = None

-- whether two terms are one
abbrev pub same_term : Datum → Datum → Bool
same_term a b = is_eq (term_cmp a b)

-- a comparison is a test of how the terms are ordered
abbrev pub comparison : (Ordering → Bool) → Datum → Datum → Answer
comparison test a b = truth_answer (test (term_cmp a b))

-- one of two, and not both
abbrev pub one_alone : Bool → Bool → Bool
one_alone true b = not b
one_alone false b = b

-- both operands have to be truth values
abbrev pub of_truths : (Bool → Bool → Bool) → Datum → Datum → Answer
of_truths f a b = given (truth_of a) (λ p. given (truth_of b) (λ q. truth_answer (f p q)))

-- the operand has to be a truth value
abbrev pub of_truth : (Bool → Bool) → Datum → Answer
of_truth f a = given (truth_of a) (λ p. truth_answer (f p))
