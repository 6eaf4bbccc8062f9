-- Single cases of the rules, each by computation. Where a row has no other lines, all tokens stand on line 1; `{..}`
-- below is a tuple, and the variables of a row have no other binding than those that it tells.

use Rattle.std.proofs.Common.{◌≡◌, ℕ, pos, List, [], ◌∷◌, ◌++◌, None, Some, codes, refl}
use Rattle.edb_lang.specs.declared.operators.BinaryOp.TheVariants.{Divide, Add, Append, GreaterThan}
use Rattle.edb_syntax.specs.Patterns as pattern
use Rattle.edb_syntax.specs.Patterns.{Pat}
use Rattle.edb_syntax.specs.Syntax.{Exp, ClauseTree, Clauses, Catches, FunctionTree, ModuleTree, int, atom, string, float, variable, and_also, or_else, match, catch, begin, case, if_clauses, receive, receive_after, try, fun_clauses, fun_local, fun_remote, comprehension, none, more, sequence, no_after, after, no_guard, alternative, clause, no_clauses, more_clauses, catch_clause, no_catches, more_catches, generator, filter, no_qualifiers, more_qualifiers}
use Rattle.edb_syntax.specs.Forms.{tuple, list, list_with_tail, binary, send, remote_call, call}
use Rattle.edb_table.specs.Keys.{Key}
use Rattle.edb_table.specs.BuiltIns.{erlang_keys}
use Rattle.edb_table.specs.Marking.{named_keys, guard_keys}
use Rattle.edb_check.specs.declared.fault.CheckFault.{CheckFault}
use Rattle.edb_check.specs.declared.fault.CheckKind.TheVariants.{Unbound, Unsafe, Sibling, Float, Undefined, Duplicate, NotExported, BadGuard}
use Rattle.edb_check.specs.Faults.{fault}
use Rattle.edb_check.specs.Scopes.{sure, partly}
use Rattle.edb_check.specs.Rules.{faults}
use Rattle.edb_check.specs.Modules.{module_faults}
use Rattle.edb_check.specs.Stops.{stops, module_stops}

-- X, Y and f; X and Y as expressions; X as a pattern
abbrev nx : List ℕ
nx = codes "X"

abbrev ny : List ℕ
ny = codes "Y"

abbrev nf : List ℕ
nf = codes "f"

abbrev x : Exp
x = variable 1 nx

abbrev y : Exp
y = variable 1 ny

abbrev px : Pat
px = pattern.variable 1 nx

abbrev one : Exp
one = int 1 (pos 1)

-- `X = 1` and `Y = 1`
abbrev bind_x : Exp
bind_x = match 1 px one

abbrev bind_y : Exp
bind_y = match 1 (pattern.variable 1 ny) one

abbrev pair : Exp → Exp → Exp
pair a b = tuple 1 (more a (more b none))

-- `A, B` between `begin` and `end`
abbrev in_turn : Exp → Exp → Exp
in_turn a b = begin 1 (sequence a (more b none))

-- clauses `_ -> A`, `_ -> A; _ -> B`, `P when A -> B`, and those of `fun() -> A end` and `fun(X) -> A end`
abbrev way : Exp → ClauseTree
way a = clause (pattern.more (pattern.any 1) pattern.none) no_guard (sequence a none)

abbrev one_way : Exp → Clauses
one_way a = more_clauses (way a) no_clauses

abbrev two_ways : Exp → Exp → Clauses
two_ways a b = more_clauses (way a) (one_way b)

abbrev guarded : Pat → Exp → Exp → Clauses
guarded p a b = more_clauses (clause (pattern.more p pattern.none) (alternative (more a none) no_guard) (sequence b none)) no_clauses

abbrev fun_of : Exp → Exp
fun_of a = fun_clauses 1 0 (more_clauses (clause pattern.none no_guard (sequence a none)) no_clauses)

abbrev fun_x : Exp → Exp
fun_x a = fun_clauses 1 0 (more_clauses (clause (pattern.more px pattern.none) no_guard (sequence a none)) no_clauses)

-- the faults where nothing is bound and the module has no function; the same where X is bound, and where it is bound
-- on some ways alone
abbrev found : Exp → List CheckFault
found e = faults [] [] e

abbrev with_x : Exp → List CheckFault
with_x e = faults [] (sure nx ∷ []) e

abbrev with_some_x : Exp → List CheckFault
with_some_x e = faults [] (partly (sure nx) ∷ []) e

-- USES: `X`, `_`, X where it is bound, and where it is bound on some ways alone
unbound : found x ≡ fault 1 Unbound
unbound = refl

no_name : with_x (variable 1 (codes "_")) ≡ fault 1 Unbound
no_name = refl

bound : with_x x ≡ []
bound = refl

some_ways : with_some_x x ≡ fault 1 Unsafe
some_ways = refl

-- `X = 1` where X is bound, and where it is bound on some ways alone
matches : with_x bind_x ≡ []
matches = refl

matches_some : with_some_x bind_x ≡ fault 1 Unsafe
matches_some = refl

-- OPERANDS. `{X = 1, X}`, with the node on line 1 and the later X on line 2
sibling : found (tuple 1 (more bind_x (more (variable 2 nx) none))) ≡ fault 1 Sibling
sibling = refl

-- `{X, X = 1}`: two faults on one line
use_before : found (pair x bind_x) ≡ fault 1 Unbound ++ fault 1 Sibling
use_before = refl

-- and with X on line 2
use_below : found (tuple 1 (more (variable 2 nx) (more bind_x none))) ≡ fault 2 Unbound ++ fault 1 Sibling
use_below = refl

-- `{X = 1, X = 1}`, `{X = 1, Y}` where Y is bound, and `{X, X = 1}` where X is bound
both_bind : found (pair bind_x bind_x) ≡ fault 1 Sibling
both_bind = refl

others : faults [] (sure ny ∷ []) (pair bind_x y) ≡ []
others = refl

not_newly : with_x (pair x bind_x) ≡ []
not_newly = refl

-- the first and the third: `{X = 1, 1, X}`
third : found (tuple 1 (more bind_x (more one (more x none)))) ≡ fault 1 Sibling
third = refl

-- `X = (X = 1)`: a pattern is no operand, and comes after the expression
pattern_apart : found (match 1 px bind_x) ≡ []
pattern_apart = refl

-- `[X = 1 | X]`, `(X = 1) ! X`, `(X = 1) + X`
tail_operand : found (list_with_tail 1 (more bind_x none) x) ≡ fault 1 Sibling
tail_operand = refl

send_operands : found (send 1 bind_x x) ≡ fault 1 Sibling
send_operands = refl

operator_operands : found (binary 1 Add bind_x x) ≡ fault 1 Sibling
operator_operands = refl

-- `(X = 1):f(X)`, `a:(X = 1)(X)`, `(X = 1)(X)`, `self(X = 1, X)`
module_operand : found (remote_call 1 bind_x (atom 1 nf) (more x none)) ≡ fault 1 Sibling
module_operand = refl

name_operand : found (remote_call 1 (atom 1 nf) bind_x (more x none)) ≡ fault 1 Sibling
name_operand = refl

fun_operand : found (call 1 bind_x (more x none)) ≡ fault 1 Sibling
fun_operand = refl

arguments : faults ((nf, 2) ∷ []) [] (call 1 (atom 1 nf) (more bind_x (more x none))) ≡ fault 1 Sibling
arguments = refl

-- nested two deep: `{{X = 1}, [X]}`
nested : found (pair (tuple 1 (more bind_x none)) (list 1 (more x none))) ≡ fault 1 Sibling
nested = refl

-- `{fun() -> X = 1 end, X = 1}`, `{X = 1, fun() -> X = 1 end}`, `{X = 1, fun(X) -> X end}`, and both operands funs
-- with an X of their own
fun_apart : found (pair (fun_of bind_x) bind_x) ≡ []
fun_apart = refl

fun_shares : found (pair bind_x (fun_of bind_x)) ≡ fault 1 Sibling
fun_shares = refl

head_apart : found (pair bind_x (fun_x x)) ≡ []
head_apart = refl

own_each : found (pair (fun_of (in_turn bind_x x)) (fun_of (in_turn bind_x x))) ≡ []
own_each = refl

-- `{[X || X <- []], X = 1}`, `{[X = 1 || 1], X = 1}`, and `{X = 1, [Y || Y <- X]}`, whose list names the X outside
comprehension_apart : found (pair (comprehension 1 x (more_qualifiers (generator px (list 1 none)) no_qualifiers)) bind_x) ≡ []
comprehension_apart = refl

comprehension_binds : found (pair (comprehension 1 bind_x (more_qualifiers (filter one) no_qualifiers)) bind_x) ≡ []
comprehension_binds = refl

comprehension_shares : found (pair bind_x (comprehension 1 y (more_qualifiers (generator (pattern.variable 1 ny) x) no_qualifiers))) ≡ fault 1 Sibling
comprehension_shares = refl

-- `{catch X = 1, X}`, `{catch X = 1, catch X = 1}`
caught_shares : found (pair (catch 1 bind_x) x) ≡ fault 1 Unsafe ++ fault 1 Sibling
caught_shares = refl

both_caught : found (pair (catch 1 bind_x) (catch 1 bind_x)) ≡ fault 1 Unsafe ++ fault 1 Sibling
both_caught = refl

-- `(X = 1) andalso X`, `X orelse (X = 1)`
and_also_operands : found (and_also 1 bind_x x) ≡ fault 1 Sibling
and_also_operands = refl

or_else_operands : found (or_else 1 x bind_x) ≡ fault 1 Unbound ++ fault 1 Sibling
or_else_operands = refl

-- WHAT IS BOUND. `X = 1, X`; `begin X = 1, 1 end, X`
in_sequence : found (in_turn bind_x x) ≡ []
in_sequence = refl

begin_binds : found (in_turn (in_turn bind_x one) x) ≡ []
begin_binds = refl

-- `(X = 1) andalso 1, X`, `1 andalso (X = 1), X`, `1 orelse (X = 1), X`, `catch X = 1, X`
left_side : found (in_turn (and_also 1 bind_x one) x) ≡ []
left_side = refl

right_side : found (in_turn (and_also 1 one bind_x) x) ≡ fault 1 Unsafe
right_side = refl

right_of_or : found (in_turn (or_else 1 one bind_x) x) ≡ fault 1 Unsafe
right_of_or = refl

after_catch : found (in_turn (catch 1 bind_x) x) ≡ fault 1 Unsafe
after_catch = refl

-- a `case` that binds X in each clause, and one that binds it in the first alone, in the second alone
each_clause : found (in_turn (case 1 one (two_ways bind_x bind_x)) x) ≡ []
each_clause = refl

first_clause : found (in_turn (case 1 one (two_ways bind_x one)) x) ≡ fault 1 Unsafe
first_clause = refl

second_clause : found (in_turn (case 1 one (two_ways one bind_x)) x) ≡ fault 1 Unsafe
second_clause = refl

-- in each clause, but in one of them on some ways alone; two deep
not_in_each : found (in_turn (case 1 one (two_ways bind_x (case 1 one (two_ways bind_x one)))) x) ≡ fault 1 Unsafe
not_in_each = refl

two_deep : found (in_turn (case 1 one (two_ways bind_x (case 1 one (two_ways bind_x bind_x)))) x) ≡ []
two_deep = refl

-- its expression binds for its clauses and after it; a clause binds for no other
case_value : found (in_turn (case 1 bind_x (one_way x)) x) ≡ []
case_value = refl

other_clause : found (case 1 one (two_ways bind_x x)) ≡ fault 1 Unbound
other_clause = refl

-- `if true -> X = 1 end, X`, `receive X -> 1 end, X`
after_if : found (in_turn (if_clauses 1 (more_clauses (clause pattern.none (alternative (more (atom 1 (codes "true")) none) no_guard) (sequence bind_x none)) no_clauses)) x) ≡ []
after_if = refl

after_receive : found (in_turn (receive 1 (more_clauses (clause (pattern.more px pattern.none) no_guard (sequence one none)) no_clauses)) x) ≡ []
after_receive = refl

-- `receive _ -> X after (X = 1) -> X end, X`; what follows the timeout is one more way
timeout : found (in_turn (receive_after 1 (one_way x) bind_x (sequence x none)) x) ≡ []
timeout = refl

timeout_way : found (in_turn (receive_after 1 (one_way bind_x) one (sequence one none)) x) ≡ fault 1 Unsafe
timeout_way = refl

timeout_ways : found (in_turn (receive_after 1 (one_way bind_x) one (sequence bind_x none)) x) ≡ []
timeout_ways = refl

no_clauses_way : found (in_turn (receive_after 1 no_clauses one (sequence bind_x none)) x) ≡ []
no_clauses_way = refl

-- TRY. `try X = 1 of _ -> X catch _ -> X after X end, X`, with the uses on lines 1 to 4
abbrev caught : Exp → Catches
caught e = more_catches (catch_clause (pattern.atom 1 (codes "throw")) (pattern.any 1) None no_guard (sequence e none)) no_catches

try_body : found (in_turn (try 1 (sequence bind_x none) (one_way x) (caught (variable 2 nx)) (after (sequence (variable 3 nx) none))) (variable 4 nx)) ≡ fault 2 Unsafe ++ (fault 3 Unsafe ++ fault 4 Unsafe)
try_body = refl

-- `try 1 of _ -> X = 1 catch _ -> X after X end, X`
try_of : found (in_turn (try 1 (sequence one none) (one_way bind_x) (caught (variable 2 nx)) (after (sequence (variable 3 nx) none))) (variable 4 nx)) ≡ fault 2 Unbound ++ (fault 3 Unsafe ++ fault 4 Unsafe)
try_of = refl

-- `try 1 catch _ -> X = 1 after X end, X` and `try 1 after X = 1 end, X`
try_catch : found (in_turn (try 1 (sequence one none) no_clauses (caught bind_x) (after (sequence (variable 3 nx) none))) (variable 4 nx)) ≡ fault 3 Unsafe ++ fault 4 Unsafe
try_catch = refl

try_after : found (in_turn (try 1 (sequence one none) no_clauses no_catches (after (sequence bind_x none))) x) ≡ fault 1 Unsafe
try_after = refl

-- `try 1 catch X:_:Y when X > Y -> {X, Y} end`: the class and the stack are bound in the guard and in the body
abbrev x_above_y : Exp
x_above_y = binary 1 GreaterThan x y

class_and_stack : found (try 1 (sequence one none) no_clauses (more_catches (catch_clause px (pattern.any 1) (Some (pattern.variable 1 ny)) (alternative (more x_above_y none) no_guard) (sequence (pair x y) none)) no_catches) no_after) ≡ []
class_and_stack = refl

-- FUNS AND COMPREHENSIONS. `fun(X) -> X end` where X is bound on some ways alone: a head's variables are new
head_is_new : with_some_x (fun_x x) ≡ []
head_is_new = refl

-- `fun(X) -> X end, X`, and a fun that uses what is bound round it, two deep
fun_keeps : found (in_turn (fun_x x) x) ≡ fault 1 Unbound
fun_keeps = refl

fun_sees : with_x (fun_of (fun_of x)) ≡ []
fun_sees = refl

-- `[X || X <- X]`, with X bound, and on some ways alone; `[X || X <- [], X <- X]`
generator_is_new : with_x (comprehension 1 x (more_qualifiers (generator px x) no_qualifiers)) ≡ []
generator_is_new = refl

generator_list : with_some_x (comprehension 1 x (more_qualifiers (generator px x) no_qualifiers)) ≡ fault 1 Unsafe
generator_list = refl

generators : found (comprehension 1 x (more_qualifiers (generator px (list 1 none)) (more_qualifiers (generator px x) no_qualifiers))) ≡ []
generators = refl

-- `[X || X = 1], X`: a filter binds within the comprehension; `[[Y || Y <- X] || X <- []]`
filter_binds : found (in_turn (comprehension 1 x (more_qualifiers (filter bind_x) no_qualifiers)) (variable 2 nx)) ≡ fault 2 Unbound
filter_binds = refl

comprehensions : found (comprehension 1 (comprehension 1 y (more_qualifiers (generator (pattern.variable 1 ny) x) no_qualifiers)) (more_qualifiers (generator px (list 1 none)) no_qualifiers)) ≡ []
comprehensions = refl

-- PATTERNS. `{X, X} = Y, X` and `[X | X] = X = Y, X`, with Y bound: a variable that stands twice is a match
pattern_twice : faults [] (sure ny ∷ []) (in_turn (match 1 (pattern.tuple 1 (pattern.more px (pattern.more px pattern.none))) y) x) ≡ []
pattern_twice = refl

pattern_both : faults [] (sure ny ∷ []) (in_turn (match 1 (pattern.both 1 (pattern.list_with_tail 1 (pattern.more px pattern.none) px) px) y) x) ≡ []
pattern_both = refl

-- FLOATS AND CALLS. `1.5`, `1 / 2`
a_float : found (float 1) ≡ fault 1 Float
a_float = refl

division : found (binary 1 Divide one (int 2 (pos 2))) ≡ fault 1 Float
division = refl

-- `f(1)` and `fun f/1`, where the module has no f/1, and where it has; `f:f(1)` and `fun f:f/1`
undefined_call : found (call 1 (atom 1 nf) (more one none)) ≡ fault 1 Undefined
unfolding erlang_keys
undefined_call = refl

other_arity : faults ((nf, 2) ∷ []) [] (call 1 (atom 1 nf) (more one none)) ≡ fault 1 Undefined
unfolding erlang_keys
other_arity = refl

defined_call : faults ((nf, 1) ∷ []) [] (call 1 (atom 1 nf) (more one none)) ≡ []
defined_call = refl

undefined_fun : found (fun_local 1 0 nf 1) ≡ fault 1 Undefined
unfolding erlang_keys
undefined_fun = refl

remote : found (pair (remote_call 1 (atom 1 nf) (atom 1 nf) (more one none)) (fun_remote 1 nf nf 1)) ≡ []
remote = refl

-- `self()` and `fun self/0` are imported, `display(1)` is not
imported : found (pair (call 1 (atom 1 (codes "self")) none) (fun_local 1 0 (codes "self") 0)) ≡ []
unfolding erlang_keys named_keys
imported = refl

not_imported : found (call 1 (atom 1 (codes "display")) (more one none)) ≡ fault 1 Undefined
unfolding erlang_keys named_keys
not_imported = refl

-- GUARDS, of `case 1 of X when .. -> 1 end`, with the guard on line 2
abbrev test : List Key → Exp → List CheckFault
test keys t = faults keys [] (case 1 one (guarded px t one))

abbrev x2 : Exp
x2 = variable 2 nx

-- `{X, [1 | X]}`, `X > 1 andalso "s"`
parts : test [] (tuple 2 (more x2 (more (list_with_tail 2 (more one none) x2) none))) ≡ []
parts = refl

operators : test [] (and_also 2 (binary 2 GreaterThan x2 one) (string 2 (codes "s"))) ≡ []
operators = refl

-- `abs(X)`, `erlang:abs(X)`; abs(X) where the module has an abs/1
guard_test : test [] (call 2 (atom 2 (codes "abs")) (more x2 none)) ≡ []
unfolding erlang_keys named_keys guard_keys
guard_test = refl

named_test : test [] (remote_call 2 (atom 2 (codes "erlang")) (atom 2 (codes "abs")) (more x2 none)) ≡ []
unfolding guard_keys
named_test = refl

own_function : test ((codes "abs", 1) ∷ []) (call 2 (atom 2 (codes "abs")) (more x2 none)) ≡ fault 2 BadGuard
unfolding erlang_keys named_keys guard_keys
own_function = refl

-- `f(X)`, of the module, and of no module; `lists:abs(X)`; `spawn(X)`, which is imported but no test
own_call : test ((nf, 1) ∷ []) (call 2 (atom 2 nf) (more x2 none)) ≡ fault 2 BadGuard
unfolding erlang_keys named_keys guard_keys
own_call = refl

no_function : test [] (call 2 (atom 2 nf) (more x2 none)) ≡ fault 2 Undefined ++ fault 2 BadGuard
unfolding erlang_keys named_keys guard_keys
no_function = refl

other_module : test [] (remote_call 2 (atom 2 (codes "lists")) (atom 2 (codes "abs")) (more x2 none)) ≡ fault 2 BadGuard
unfolding guard_keys
other_module = refl

no_test : test [] (call 2 (atom 2 (codes "spawn")) (more x2 none)) ≡ fault 2 BadGuard
unfolding erlang_keys named_keys guard_keys
no_test = refl

-- the outermost parts: `{X ++ X, {X ! (X ++ X)}}` on lines 2, 3, and 4
outermost : test [] (tuple 2 (more (binary 2 Append x2 x2) (more (tuple 2 (more (send 3 x2 (binary 4 Append x2 x2)) none)) none))) ≡ fault 2 BadGuard ++ fault 3 BadGuard
outermost = refl

-- `Y = 1, Y`: what a test binds is seen within it alone; `catch X`
test_binds : faults [] [] (case 1 one (more_clauses (clause (pattern.more px pattern.none) (alternative (more bind_y (more y none)) no_guard) (sequence y none)) no_clauses)) ≡ fault 1 BadGuard ++ (fault 1 Unbound ++ fault 1 Unbound)
test_binds = refl

catch_in_guard : test [] (catch 2 x2) ≡ fault 2 BadGuard
catch_in_guard = refl

-- MODULES: a function of no parameters with one expression; a module of functions
abbrev function : ℕ → List ℕ → Exp → FunctionTree
function l f e = record { name = f; arity = 0; line = l; clauses = more_clauses (clause pattern.none no_guard (sequence e none)) no_clauses }

abbrev of_functions : List FunctionTree → ModuleTree
of_functions fs = record { name = codes "m"; line = 1; exports = []; functions = fs }

twice : module_faults (of_functions (function 2 nf one ∷ function 3 nf one ∷ [])) ≡ fault 3 Duplicate
twice = refl

two_functions : module_faults (of_functions (function 2 nf one ∷ function 3 nx (call 3 (atom 3 nf) none) ∷ [])) ≡ []
two_functions = refl

-- a function sees no other's variables
apart : module_faults (of_functions (function 2 nf bind_x ∷ function 3 nx (variable 3 nx) ∷ [])) ≡ fault 3 Unbound
apart = refl

name_taken : module_faults (record { name = codes "lists"; line = 1; exports = []; functions = [] }) ≡ fault 1 Duplicate
name_taken = refl

exported : module_faults (record { name = codes "m"; line = 1; exports = record { name = nf; arity = 0; line = 2 } ∷ record { name = nf; arity = 1; line = 2 } ∷ []; functions = function 3 nf one ∷ [] }) ≡ fault 2 NotExported
exported = refl

-- Lines 1 and 3 to 8 of `f(A) -> case A of 1 -> B = 2; _ -> C = 3 end, B.`, each clause and the last B on a line of
-- its own: only that B is refused.
abbrev un : ModuleTree
un = of_functions (record {
  name = nf;
  arity = 1;
  line = 3;
  clauses = more_clauses (clause (pattern.more (pattern.variable 3 (codes "A")) pattern.none) no_guard
      (sequence (case 4 (variable 4 (codes "A"))
      (more_clauses (clause (pattern.more (pattern.int 5 (pos 1)) pattern.none) no_guard (sequence (match 5 (pattern.variable 5 (codes "B")) (int 5 (pos 2))) none))
      (more_clauses (clause (pattern.more (pattern.any 6) pattern.none) no_guard (sequence (match 6 (pattern.variable 6 (codes "C")) (int 6 (pos 3))) none)) no_clauses)))
      (more (variable 8 (codes "B")) none))) no_clauses;
} ∷ [])

unsafe_module : module_faults un ≡ fault 8 Unsafe
unsafe_module = refl

-- its stop points
unsafe_stops : module_stops un ≡ 4 ∷ 5 ∷ 6 ∷ 8 ∷ []
unsafe_stops = refl

-- `begin 1, fun() -> 1 end end`, on lines 2 and 3, has the two in `begin` and that of the fun; `[1 || 1]` has none
nested_stops : stops (begin 1 (sequence (int 2 (pos 1)) (more (fun_of (int 3 (pos 1))) none))) ≡ 2 ∷ 1 ∷ 3 ∷ []
nested_stops = refl

comprehension_stops : stops (comprehension 1 one (more_qualifiers (filter one) no_qualifiers)) ≡ []
comprehension_stops = refl
