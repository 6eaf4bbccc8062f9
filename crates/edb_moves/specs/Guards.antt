-- Guards: whether a guard holds for a process under bindings. A test that raises doesn't give `true`.

use Rattle.std.specs.Prelude.{ℕ, Bool, true, false, if◌then◌else◌, ◌&&◌, ◌||◌, List, [], ◌∷◌, length, codes, Option, None, Some, Ok, Err}
use Rattle.std.specs.Option.{option_and_then, option_map, option_map_or}
use Rattle.edb_lang.specs.Terms as term
use Rattle.edb_lang.specs.Terms.{Datum}
use Rattle.edb_lang.specs.ListTerms.{string_of}
use Rattle.edb_lang.specs.Pairs.{Pairs, bound}
use Rattle.edb_syntax.specs.declared.operation.Operation.{Operation}
use Rattle.edb_syntax.specs.declared.operation.Operation.TheVariants.{Tuple, List as ListOf, ListWithTail, Unary, Binary, Send, LocalCall, RemoteCall, FunCall}
use Rattle.edb_syntax.specs.Syntax.{Exp, Exps, Guards, int, atom, string, variable, apply, and_also, or_else, none, more, no_guard, alternative}
use Rattle.edb_pure.specs.Answers.{Answer, badarg, limited_answer}
use Rattle.edb_pure.specs.Truths.{truth, truth_of}
use Rattle.edb_pure.specs.Operators.{operate, operate_one}
use Rattle.edb_pure.specs.Table.{pure, of_one, of_two}
use Rattle.edb_moves.specs.Built.{tuple_built, list_built, list_with_tail_built}

-- the value of an answer that is no raise
abbrev pub value_in : Answer → Option Datum
value_in (Ok v) = Some v
value_in (Err r) = None

-- What an operation in a guard gives to the values of its operands. A call without a module names a built-in of
-- `erlang`, and no call in a guard names a function of a program.
abbrev pub guard_answer : ℕ → Operation → List Datum → Answer
guard_answer me Tuple vs = tuple_built vs
guard_answer me ListOf vs = list_built vs
guard_answer me ListWithTail vs = list_with_tail_built vs
guard_answer me (Unary o) vs = of_one (operate_one o) me vs
guard_answer me (Binary o) vs = of_two (operate o) me vs
guard_answer me (LocalCall f) vs = pure (codes "erlang", (f, length vs)) me vs
guard_answer me RemoteCall (term.atom m ∷ term.atom f ∷ vs) = pure (m, (f, length vs)) me vs
guard_answer me RemoteCall vs = badarg
guard_answer me Send vs = badarg
guard_answer me FunCall vs = badarg

-- the right side of `andalso` counts where the left one is true, and that of `orelse` where it is false
abbrev pub both_true : Option Datum → Option Datum → Option Datum
both_true left right = option_and_then (λ b. if b then right else Some (truth false)) (option_and_then truth_of left)

abbrev pub either_true : Option Datum → Option Datum → Option Datum
either_true left right = option_and_then (λ b. if b then Some (truth true) else right) (option_and_then truth_of left)

-- The value of a test; none where it raises. What may not stand in a guard has none.
abbrev mutual
  pub test_value : ℕ → Pairs → Exp → Option Datum
  test_value me bs (int l i) = Some (term.int i)
  test_value me bs (atom l a) = Some (term.atom a)
  test_value me bs (string l s) = value_in (limited_answer (string_of s))
  test_value me bs (variable l x) = bound x bs
  test_value me bs (apply l o es) = option_and_then (λ vs. value_in (guard_answer me o vs)) (test_values me bs es)
  test_value me bs (and_also l a b) = both_true (test_value me bs a) (test_value me bs b)
  test_value me bs (or_else l a b) = either_true (test_value me bs a) (test_value me bs b)
  test_value me bs _ = None

  -- the values of all
  pub test_values : ℕ → Pairs → Exps → Option (List Datum)
  test_values me bs none = Some []
  test_values me bs (more e es) = option_and_then (λ v. option_map (λ vs. v ∷ vs) (test_values me bs es)) (test_value me bs e)

-- whether a value is there, and is `true`
abbrev pub is_true : Option Datum → Bool
is_true v = option_map_or (λ b. b) (option_and_then truth_of v) false

-- whether each test of an alternative gives `true`
abbrev pub all_true : ℕ → Pairs → Exps → Bool
all_true me bs none = true
all_true me bs (more e es) = is_true (test_value me bs e) && all_true me bs es

-- whether some alternative has only tests that give `true`
abbrev pub some_holds : ℕ → Pairs → Guards → Bool
some_holds me bs no_guard = false
some_holds me bs (alternative es gs) = all_true me bs es || some_holds me bs gs

-- Whether a guard holds for process `me`: some alternative does, or there is none because no guard is written.
abbrev pub holds : ℕ → Pairs → Guards → Bool
holds me bs no_guard = true
holds me bs (alternative es gs) = some_holds me bs (alternative es gs)
