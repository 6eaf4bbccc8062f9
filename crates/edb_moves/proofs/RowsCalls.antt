-- Literals, operands, sequences, calls, funs and `apply`: moves counted by hand, with the opening call.

use Rattle.std.proofs.Common.{pos, neg_ℤ, [], ◌∷◌, codes, refl}
use Rattle.edb_table.specs.BuiltIns.{erlang_keys}
use Rattle.edb_table.specs.Marking.{named_keys}
use Rattle.edb_pure.specs.Table.{rows}
use Rattle.edb_lang.specs.declared.operators.UnaryOp.TheVariants.{Minus}
use Rattle.edb_lang.specs.declared.operators.BinaryOp.TheVariants.{Add, Multiply}
use Rattle.edb_lang.specs.Terms as term
use Rattle.edb_syntax.specs.Syntax as syntax
use Rattle.edb_syntax.specs.Syntax.{Exp, Seq, clauses_of, catches_of, qualifiers_of}
use Rattle.edb_syntax.specs.Forms as forms
use Rattle.edb_moves.specs.Running.{value}
use Rattle.edb_moves.specs.Going.{go}
use Rattle.edb_moves.specs.Moves.{moved}
use Rattle.edb_moves.specs.Next.{redex, next}
use Rattle.edb_moves.proofs.RowForms.{num, word, var, tuple, list, local, remote, fun_call, assign, seq, pvar, clause, Makes, number, atom, terms, tuple_of, fails}

-- `1`
integer : Makes 3 (seq (num 1) []) (value (number 1))
unfolding go moved redex next rows erlang_keys named_keys
integer = refl

-- `[]`
empty_list : Makes 4 (seq (list []) []) (value term.nil)
unfolding go moved redex next rows erlang_keys named_keys
empty_list = refl

-- `"ab"`
a_string : Makes 4 (seq (syntax.string 1 (codes "ab")) []) (value (terms ((number 97) ∷ (number 98) ∷ [])))
unfolding go moved redex next rows erlang_keys named_keys
a_string = refl

-- `{a, 1}`
a_tuple : Makes 4 (seq (tuple ((word "a") ∷ (num 1) ∷ [])) []) (value (tuple_of ((atom "a") ∷ (number 1) ∷ [])))
unfolding go moved redex next rows erlang_keys named_keys
a_tuple = refl

-- `[1|2]`
improper_list : Makes 4 (seq (forms.list_with_tail 1 (syntax.exps_of ((num 1) ∷ [])) (num 2)) []) (value (term.cons (number 1) (number 2)))
unfolding go moved redex next rows erlang_keys named_keys
improper_list = refl

-- `- 5`
negative : Makes 4 (seq (forms.unary 1 Minus (num 5)) []) (value (term.int (neg_ℤ (pos 5))))
unfolding go moved redex next rows erlang_keys named_keys
negative = refl

-- `1 + 2 * 3`
sum_of_product : Makes 5 (seq (forms.binary 1 Add (num 1) (forms.binary 1 Multiply (num 2) (num 3))) []) (value (number 7))
unfolding go moved redex next rows erlang_keys named_keys
sum_of_product = refl

-- `begin 1, 2 end`
a_block : Makes 7 (seq (syntax.begin 1 (seq (num 1) ((num 2) ∷ []))) []) (value (number 2))
unfolding go moved redex next rows erlang_keys named_keys
a_block = refl

-- `id(3)`
own_function : Makes 6 (seq (local "id" ((num 3) ∷ [])) []) (value (number 3))
unfolding go moved redex next rows erlang_keys named_keys
own_function = refl

-- `f(-1)`
no_clause : Makes 4 (seq (local "f" ((forms.unary 1 Minus (num 1)) ∷ [])) []) (fails (atom "function_clause"))
unfolding go moved redex next rows erlang_keys named_keys
no_clause = refl

-- `f(0)`
first_clause : Makes 5 (seq (local "f" ((num 0) ∷ [])) []) (value (atom "zero"))
unfolding go moved redex next rows erlang_keys named_keys
first_clause = refl

-- `f(4)`
guarded_clause : Makes 6 (seq (local "f" ((num 4) ∷ [])) []) (value (number 4))
unfolding go moved redex next rows erlang_keys named_keys
guarded_clause = refl

-- `m:nope(4)`
not_there : Makes 3 (seq (remote (word "m") "nope" ((num 4) ∷ [])) []) (fails (atom "undef"))
unfolding go moved redex next rows erlang_keys named_keys
not_there = refl

-- `m:f(4)`
not_exported : Makes 3 (seq (remote (word "m") "f" ((num 4) ∷ [])) []) (fails (atom "undef"))
unfolding go moved redex next rows erlang_keys named_keys
not_exported = refl

-- `n:id(4)`
no_module_there : Makes 3 (seq (remote (word "n") "id" ((num 4) ∷ [])) []) (fails (atom "undef"))
unfolding go moved redex next rows erlang_keys named_keys
no_module_there = refl

-- `1:id(5)`
module_no_atom : Makes 3 (seq (remote (num 1) "id" ((num 5) ∷ [])) []) (fails (atom "badarg"))
unfolding go moved redex next rows erlang_keys named_keys
module_no_atom = refl

-- `m:id(5)`
exported : Makes 6 (seq (remote (word "m") "id" ((num 5) ∷ [])) []) (value (number 5))
unfolding go moved redex next rows erlang_keys named_keys
exported = refl

-- `length([a])`
imported : Makes 5 (seq (local "length" ((list ((word "a") ∷ [])) ∷ [])) []) (value (number 1))
unfolding go moved redex next rows erlang_keys named_keys
imported = refl

-- `append_element(1, 2)`, which is called with its module alone
not_imported : Makes 3 (seq (local "append_element" ((num 1) ∷ (num 2) ∷ [])) []) (fails (atom "undef"))
unfolding go moved redex next rows erlang_keys named_keys
not_imported = refl

-- `lists:reverse([1, 2])`
of_lists : Makes 5 (seq (remote (word "lists") "reverse" ((list ((num 1) ∷ (num 2) ∷ [])) ∷ [])) []) (value (terms ((number 2) ∷ (number 1) ∷ [])))
unfolding go moved redex next rows erlang_keys named_keys
of_lists = refl

-- `B = 7, F = fun(A) -> A + B end, F(1)`
closure : Makes 16 (seq (assign "B" (num 7)) ((assign "F" (syntax.fun_clauses 1 0 (clauses_of ((clause ((pvar "A") ∷ []) (forms.binary 1 Add (var "A") (var "B"))) ∷ [])))) ∷ (fun_call (var "F") ((num 1) ∷ [])) ∷ [])) (value (number 8))
unfolding go moved redex next rows erlang_keys named_keys
closure = refl

-- `A = 7, F = fun(A) -> A end, F(1)`: the parameter is new
fresh_parameter : Makes 14 (seq (assign "A" (num 7)) ((assign "F" (syntax.fun_clauses 1 0 (clauses_of ((clause ((pvar "A") ∷ []) (var "A")) ∷ [])))) ∷ (fun_call (var "F") ((num 1) ∷ [])) ∷ [])) (value (number 1))
unfolding go moved redex next rows erlang_keys named_keys
fresh_parameter = refl

-- `F = fun id/1, F(9)`
own_fun : Makes 12 (seq (assign "F" (syntax.fun_local 1 0 (codes "id") 1)) ((fun_call (var "F") ((num 9) ∷ [])) ∷ [])) (value (number 9))
unfolding go moved redex next rows erlang_keys named_keys
own_fun = refl

-- `F = fun m:id/1, F(9)`
remote_fun : Makes 12 (seq (assign "F" (syntax.fun_remote 1 (codes "m") (codes "id") 1)) ((fun_call (var "F") ((num 9) ∷ [])) ∷ [])) (value (number 9))
unfolding go moved redex next rows erlang_keys named_keys
remote_fun = refl

-- `F = fun length/1, F([a])`
built_in_fun : Makes 11 (seq (assign "F" (syntax.fun_local 1 0 (codes "length") 1)) ((fun_call (var "F") ((list ((word "a") ∷ [])) ∷ [])) ∷ [])) (value (number 1))
unfolding go moved redex next rows erlang_keys named_keys
built_in_fun = refl

-- `F = fun(A) -> A end, F()`
wrong_arity : Makes 8 (seq (assign "F" (syntax.fun_clauses 1 0 (clauses_of ((clause ((pvar "A") ∷ []) (var "A")) ∷ [])))) ((fun_call (var "F") []) ∷ [])) (fails (tuple_of ((atom "badarity") ∷ (tuple_of ((term.made (codes "m") 1 0 1 term.uncaptured) ∷ term.nil ∷ [])) ∷ [])))
unfolding go moved redex next rows erlang_keys named_keys
wrong_arity = refl

-- `F = 1, F(2)`
no_fun : Makes 7 (seq (assign "F" (num 1)) ((fun_call (var "F") ((num 2) ∷ [])) ∷ [])) (fails (tuple_of ((atom "badfun") ∷ (number 1) ∷ [])))
unfolding go moved redex next rows erlang_keys named_keys
no_fun = refl

-- `apply(m, id, [1])`
apply_name : Makes 8 (seq (local "apply" ((word "m") ∷ (word "id") ∷ (list ((num 1) ∷ [])) ∷ [])) []) (value (number 1))
unfolding go moved redex next rows erlang_keys named_keys
apply_name = refl

-- `apply(fun id/1, [1])`
apply_fun : Makes 10 (seq (local "apply" ((syntax.fun_local 1 0 (codes "id") 1) ∷ (list ((num 1) ∷ [])) ∷ [])) []) (value (number 1))
unfolding go moved redex next rows erlang_keys named_keys
apply_fun = refl

-- `apply(m, id, [1|2])`
apply_improper : Makes 4 (seq (local "apply" ((word "m") ∷ (word "id") ∷ (forms.list_with_tail 1 (syntax.exps_of ((num 1) ∷ [])) (num 2)) ∷ [])) []) (fails (atom "badarg"))
unfolding go moved redex next rows erlang_keys named_keys
apply_improper = refl

-- `erlang:apply(m, id, [1])`
apply_with_module : Makes 8 (seq (remote (word "erlang") "apply" ((word "m") ∷ (word "id") ∷ (list ((num 1) ∷ [])) ∷ [])) []) (value (number 1))
unfolding go moved redex next rows erlang_keys named_keys
apply_with_module = refl

-- `Y`, which no checked module has
unbound_variable : Makes 3 (seq (var "Y") []) (fails (tuple_of ((atom "unbound") ∷ (atom "Y") ∷ [])))
unfolding go moved redex next rows erlang_keys named_keys
unbound_variable = refl

-- `X = 1, fun id/1`: a fun that names a function takes nothing along
takes_nothing : Makes 7 (seq (assign "X" (num 1)) ((syntax.fun_local 1 0 (codes "id") 1) ∷ [])) (value (term.made (codes "m") 1 0 1 term.uncaptured))
unfolding go moved redex next rows erlang_keys named_keys
takes_nothing = refl

-- `X = 1, fun(A) -> A end`: one with clauses takes all bindings along
takes_bindings : Makes 7 (seq (assign "X" (num 1)) ((syntax.fun_clauses 1 0 (clauses_of ((clause ((pvar "A") ∷ []) (var "A")) ∷ []))) ∷ []))
    (value (term.made (codes "m") 1 0 1 (term.captured (codes "X") (number 1) term.uncaptured)))
unfolding go moved redex next rows erlang_keys named_keys
takes_bindings = refl
