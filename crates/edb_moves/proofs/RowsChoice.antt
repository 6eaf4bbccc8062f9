-- `andalso`, `orelse`, matches, `case` and `if`: moves counted by hand, with the opening call.

use Rattle.std.proofs.Common.{[], ◌∷◌, codes, refl}
use Rattle.edb_table.specs.BuiltIns.{erlang_keys}
use Rattle.edb_table.specs.Marking.{named_keys}
use Rattle.edb_pure.specs.Table.{rows}
use Rattle.edb_syntax.specs.Patterns as pattern
use Rattle.edb_syntax.specs.Syntax as syntax
use Rattle.edb_syntax.specs.Syntax.{Exp, Seq, clauses_of, catches_of, qualifiers_of}
use Rattle.edb_moves.specs.Running.{value}
use Rattle.edb_moves.specs.Going.{go}
use Rattle.edb_moves.specs.Moves.{moved}
use Rattle.edb_moves.specs.Next.{redex, next}
use Rattle.edb_moves.proofs.RowForms.{num, word, var, tuple, list, local, assign, seq, pnum, pvar, pword, any, clause, guarded, greater, Makes, number, atom, terms, tuple_of, fails}

-- `true andalso false`
both_sides : Makes 4 (seq (syntax.and_also 1 (word "true") (word "false")) []) (value (atom "false"))
unfolding go moved redex next rows erlang_keys named_keys
both_sides = refl

-- `false andalso 1`
decided : Makes 4 (seq (syntax.and_also 1 (word "false") (num 1)) []) (value (atom "false"))
unfolding go moved redex next rows erlang_keys named_keys
decided = refl

-- `1 andalso true`
no_truth : Makes 3 (seq (syntax.and_also 1 (num 1) (word "true")) []) (fails (atom "badarg"))
unfolding go moved redex next rows erlang_keys named_keys
no_truth = refl

-- `false orelse 1`: the right operand may be anything
right_side : Makes 4 (seq (syntax.or_else 1 (word "false") (num 1)) []) (value (number 1))
unfolding go moved redex next rows erlang_keys named_keys
right_side = refl

-- `true orelse 1`
left_side : Makes 4 (seq (syntax.or_else 1 (word "true") (num 1)) []) (value (atom "true"))
unfolding go moved redex next rows erlang_keys named_keys
left_side = refl

-- `a orelse true`
no_truth_left : Makes 3 (seq (syntax.or_else 1 (word "a") (word "true")) []) (fails (atom "badarg"))
unfolding go moved redex next rows erlang_keys named_keys
no_truth_left = refl

-- `{ok, Y} = {ok, 2}, Y`
tuples_match : Makes 8 (seq (syntax.match 1 (pattern.tuple 1 (pattern.pats_of ((pword "ok") ∷ (pvar "Y") ∷ []))) (tuple ((word "ok") ∷ (num 2) ∷ []))) ((var "Y") ∷ [])) (value (number 2))
unfolding go moved redex next rows erlang_keys named_keys
tuples_match = refl

-- `[A, B|C] = "abc", C`
lists_match : Makes 8 (seq (syntax.match 1 (pattern.list_with_tail 1 (pattern.pats_of ((pvar "A") ∷ (pvar "B") ∷ [])) (pvar "C")) (syntax.string 1 (codes "abc"))) ((var "C") ∷ [])) (value (terms ((number 99) ∷ [])))
unfolding go moved redex next rows erlang_keys named_keys
lists_match = refl

-- `{A, A} = {1, 1}, A`
same_twice : Makes 8 (seq (syntax.match 1 (pattern.tuple 1 (pattern.pats_of ((pvar "A") ∷ (pvar "A") ∷ []))) (tuple ((num 1) ∷ (num 1) ∷ []))) ((var "A") ∷ [])) (value (number 1))
unfolding go moved redex next rows erlang_keys named_keys
same_twice = refl

-- `{A, A} = {1, 2}`
not_the_same : Makes 4 (seq (syntax.match 1 (pattern.tuple 1 (pattern.pats_of ((pvar "A") ∷ (pvar "A") ∷ []))) (tuple ((num 1) ∷ (num 2) ∷ []))) []) (fails (tuple_of ((atom "badmatch") ∷ (tuple_of ((number 1) ∷ (number 2) ∷ [])) ∷ [])))
unfolding go moved redex next rows erlang_keys named_keys
not_the_same = refl

-- `{_} = {1, 2}`
other_size : Makes 4 (seq (syntax.match 1 (pattern.tuple 1 (pattern.pats_of (any ∷ []))) (tuple ((num 1) ∷ (num 2) ∷ []))) []) (fails (tuple_of ((atom "badmatch") ∷ (tuple_of ((number 1) ∷ (number 2) ∷ [])) ∷ [])))
unfolding go moved redex next rows erlang_keys named_keys
other_size = refl

-- `[_] = [1, 2]`
too_long : Makes 4 (seq (syntax.match 1 (pattern.list 1 (pattern.pats_of (any ∷ []))) (list ((num 1) ∷ (num 2) ∷ []))) []) (fails (tuple_of ((atom "badmatch") ∷ (terms ((number 1) ∷ (number 2) ∷ [])) ∷ [])))
unfolding go moved redex next rows erlang_keys named_keys
too_long = refl

-- `case 5 of 1 -> a; N when N > 3 -> {N} end`
case_with_guard : Makes 8 (seq (syntax.case 1 (num 5) (clauses_of ((clause ((pnum 1) ∷ []) (word "a")) ∷ (guarded ((pvar "N") ∷ []) (greater (var "N") (num 3)) (tuple ((var "N") ∷ []))) ∷ []))) []) (value (tuple_of ((number 5) ∷ [])))
unfolding go moved redex next rows erlang_keys named_keys
case_with_guard = refl

-- `case 5 of 1 -> a end`
no_case : Makes 3 (seq (syntax.case 1 (num 5) (clauses_of ((clause ((pnum 1) ∷ []) (word "a")) ∷ []))) []) (fails (tuple_of ((atom "case_clause") ∷ (number 5) ∷ [])))
unfolding go moved redex next rows erlang_keys named_keys
no_case = refl

-- `N = 5, case 6 of N -> a; _ -> b end`: the pattern sees what is bound
case_sees : Makes 9 (seq (assign "N" (num 5)) ((syntax.case 1 (num 6) (clauses_of ((clause ((pvar "N") ∷ []) (word "a")) ∷ (clause (any ∷ []) (word "b")) ∷ []))) ∷ [])) (value (atom "b"))
unfolding go moved redex next rows erlang_keys named_keys
case_sees = refl

-- `if 1 > 2 -> a; true -> b end`
if_second : Makes 6 (seq (syntax.if_clauses 1 (clauses_of ((guarded [] (greater (num 1) (num 2)) (word "a")) ∷ (guarded [] (word "true") (word "b")) ∷ []))) []) (value (atom "b"))
unfolding go moved redex next rows erlang_keys named_keys
if_second = refl

-- `if 1 > 2 -> a end`
no_if : Makes 3 (seq (syntax.if_clauses 1 (clauses_of ((guarded [] (greater (num 1) (num 2)) (word "a")) ∷ []))) []) (fails (atom "if_clause"))
unfolding go moved redex next rows erlang_keys named_keys
no_if = refl

-- `if hd([]) > 0 -> a; true -> b end`: a test that raises does not hold
raising_test : Makes 6 (seq (syntax.if_clauses 1 (clauses_of ((guarded [] (greater (local "hd" ((list []) ∷ [])) (num 0)) (word "a")) ∷ (guarded [] (word "true") (word "b")) ∷ []))) []) (value (atom "b"))
unfolding go moved redex next rows erlang_keys named_keys
raising_test = refl

-- `case 1 of 1 -> id(2) end`: the call replaces the Body of `main`
tail_of_case : Makes 8 (seq (syntax.case 1 (num 1) (clauses_of ((clause ((pnum 1) ∷ []) (local "id" ((num 2) ∷ []))) ∷ []))) []) (value (number 2))
unfolding go moved redex next rows erlang_keys named_keys
tail_of_case = refl
