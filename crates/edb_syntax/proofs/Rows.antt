-- Single cases of the definitions, each by computation; all tokens stand on line 1.

use Rattle.std.proofs.Common.{◌≡◌, ℕ, pos, negsuc, List, [], ◌∷◌, Some, refl}
use Rattle.edb_lang.specs.declared.operators.UnaryOp.TheVariants.{Minus}
use Rattle.edb_lang.specs.declared.operators.BinaryOp.TheVariants.{Add, Multiply, GreaterThan}
use Rattle.edb_syntax.specs.declared.operation.Operation.TheVariants.{LocalCall, FunCall}
use Rattle.edb_syntax.specs.Patterns.{Pat}
use Rattle.edb_syntax.specs.Patterns as pattern
use Rattle.edb_syntax.specs.Syntax.{Exp, Seq, ClauseTree, int, atom, string, float, variable, apply, and_also, match, catch, begin, case, if_clauses, receive_after, try, fun_clauses, fun_local, fun_remote, comprehension, none, more, sequence, no_after, after, no_guard, alternative, clause, no_clauses, more_clauses, catch_clause, no_catches, more_catches, generator, filter, no_qualifiers, more_qualifiers}
use Rattle.edb_syntax.specs.Forms.{tuple, list, list_with_tail, unary, binary, send, remote_call, call}
use Rattle.edb_syntax.specs.Depths.{pattern_depth, depth, function_depth}

abbrev a : List ℕ
a = 97 ∷ []

-- X and f, as expressions; {X} as an expression and as a pattern
abbrev x : Exp
x = variable 1 (88 ∷ [])

abbrev f : Exp
f = atom 1 a

abbrev tuple_x : Exp
tuple_x = tuple 1 (more x none)

abbrev p : Pat
p = pattern.variable 1 (88 ∷ [])

abbrev tuple_p : Pat
tuple_p = pattern.tuple 1 (pattern.more p pattern.none)

-- a body of one expression, and `P -> X`
abbrev body : Exp → Seq
body e = sequence e none

abbrev clause_x : Pat → ClauseTree
clause_x q = clause (pattern.more q pattern.none) no_guard (body x)

-- literals, variables, `_`, `[]`, `{}`, `fun f/1`, `fun m:f/1`
depth_variable : depth x ≡ 1
depth_variable = refl

depth_string : depth (string 1 a) ≡ 1
depth_string = refl

depth_float : depth (float 1) ≡ 1
depth_float = refl

depth_no_elements : depth (list 1 none) ≡ 1
depth_no_elements = refl

depth_no_parts : depth (tuple 1 none) ≡ 1
depth_no_parts = refl

depth_fun_local : depth (fun_local 1 0 a 1) ≡ 1
depth_fun_local = refl

depth_fun_remote : depth (fun_remote 1 a a 1) ≡ 1
depth_fun_remote = refl

-- a list is one node: `[X, {X}]`, `[X | {X}]`
depth_list : depth (list 1 (more x (more tuple_x none))) ≡ 3
depth_list = refl

depth_list_with_tail : depth (list_with_tail 1 (more x none) tuple_x) ≡ 3
depth_list_with_tail = refl

-- the name of a call is a part: `f()`, `(f)()`, `X()`, `f(f())`, `f:f()`
depth_call : depth (apply 1 (LocalCall a) none) ≡ 2
depth_call = refl

call_of_atom : call 1 f none ≡ apply 1 (LocalCall a) none
call_of_atom = refl

call_of_variable : call 1 x none ≡ apply 1 FunCall (more x none)
call_of_variable = refl

depth_fun_call : depth (call 1 x none) ≡ 2
depth_fun_call = refl

depth_nested_call : depth (call 1 f (more (call 1 f none) none)) ≡ 3
depth_nested_call = refl

depth_remote_call : depth (remote_call 1 f f none) ≡ 2
depth_remote_call = refl

-- `- 1` is an operator before an integer, and the pattern `-1` an integer
depth_minus : depth (unary 1 Minus (int 1 (pos 1))) ≡ 2
depth_minus = refl

depth_negative_pattern : pattern_depth (pattern.int 1 (negsuc 0)) ≡ 1
depth_negative_pattern = refl

-- `X + X * X`, `X ! X`, `X andalso {X}`, `{X} = X`, `catch X`
depth_operators : depth (binary 1 Add x (binary 1 Multiply x x)) ≡ 3
depth_operators = refl

depth_send : depth (send 1 x x) ≡ 2
depth_send = refl

depth_and_also : depth (and_also 1 x tuple_x) ≡ 3
depth_and_also = refl

depth_match : depth (match 1 tuple_p x) ≡ 3
depth_match = refl

depth_catch : depth (catch 1 x) ≡ 2
depth_catch = refl

-- `begin X, {X} end`
depth_begin : depth (begin 1 (sequence x (more tuple_x none))) ≡ 3
depth_begin = refl

-- a clause is no node, and its pattern and guard are parts: `case X of X -> X end`, `case X of {X} -> X end`,
-- `if X > X + X -> X end`
depth_case : depth (case 1 x (more_clauses (clause_x p) no_clauses)) ≡ 2
depth_case = refl

depth_case_pattern : depth (case 1 x (more_clauses (clause_x tuple_p) no_clauses)) ≡ 3
depth_case_pattern = refl

abbrev test : Exp
test = binary 1 GreaterThan x (binary 1 Add x x)

depth_guard : depth (if_clauses 1 (more_clauses (clause pattern.none (alternative (more test none) no_guard) (body x)) no_clauses)) ≡ 4
depth_guard = refl

-- `receive after X -> X end`, `try X catch f:{X}:X -> X after {{X}} end`
depth_receive_after : depth (receive_after 1 no_clauses x (body x)) ≡ 2
depth_receive_after = refl

depth_try : depth (try 1 (body x) no_clauses (more_catches (catch_clause (pattern.atom 1 a) tuple_p (Some p) no_guard (body x)) no_catches) no_after) ≡ 3
depth_try = refl

depth_after : depth (try 1 (body x) no_clauses no_catches (after (body (tuple 1 (more tuple_x none))))) ≡ 4
depth_after = refl

-- `fun(X) -> X end`, `[X || {X} <- X, X]`
depth_fun : depth (fun_clauses 1 0 (more_clauses (clause_x p) no_clauses)) ≡ 2
depth_fun = refl

depth_comprehension : depth (comprehension 1 x (more_qualifiers (generator tuple_p x) (more_qualifiers (filter x) no_qualifiers))) ≡ 3
depth_comprehension = refl

-- patterns: `[X, X]`, `[X | {X}]`, `X = {X}`, `_`
depth_list_pattern : pattern_depth (pattern.list 1 (pattern.more p (pattern.more p pattern.none))) ≡ 2
depth_list_pattern = refl

depth_tail_pattern : pattern_depth (pattern.list_with_tail 1 (pattern.more p pattern.none) tuple_p) ≡ 3
depth_tail_pattern = refl

depth_both : pattern_depth (pattern.both 1 p tuple_p) ≡ 3
depth_both = refl

depth_any : pattern_depth (pattern.any 1) ≡ 1
depth_any = refl

-- `f(X) -> X.` and `f({X}) -> X.`
depth_function : function_depth (record { name = a; arity = 1; line = 1; clauses = more_clauses (clause_x p) no_clauses }) ≡ 1
depth_function = refl

depth_head : function_depth (record { name = a; arity = 1; line = 1; clauses = more_clauses (clause_x tuple_p) no_clauses }) ≡ 2
depth_head = refl
