-- Bodies: begins, lines, levels, versions and what is shown, in small programs.

use Rattle.std.proofs.Common.{◌≡◌, ℕ, zero, suc, pos, List, [], ◌∷◌, map, codes, refl}
use Prim.Native.String.{String}
use Rattle.edb_lang.specs.declared.act.ActKind.TheVariants as act
use Rattle.edb_lang.specs.declared.operators.BinaryOp.TheVariants.{Add, Subtract}
use Rattle.edb_lang.specs.Terms as term
use Rattle.edb_lang.specs.Terms.{Datum}
use Rattle.edb_table.specs.BuiltIns.{erlang_keys}
use Rattle.edb_table.specs.Marking.{named_keys}
use Rattle.edb_pure.specs.Table.{rows}
use Rattle.edb_syntax.specs.declared.modules.Export.{Export}
use Rattle.edb_syntax.specs.Patterns as pattern
use Rattle.edb_syntax.specs.Patterns.{Pat, pats_of}
use Rattle.edb_syntax.specs.Syntax as syntax
use Rattle.edb_syntax.specs.Syntax.{Exp, ClauseTree, FunctionTree, ModuleTree, exps_of, clauses_of}
use Rattle.edb_syntax.specs.Forms as forms
use Rattle.edb_syntax.specs.Lookup.{first_versions}
use Rattle.edb_moves.specs.Running.{Run, opening_call}
use Rattle.edb_moves.specs.Going.{go}
use Rattle.edb_moves.specs.Moves.{moved}
use Rattle.edb_moves.specs.Next.{begins, acts, pure, redex, next}
use Rattle.edb_moves.specs.Innermost.{Shown, bodies_on_way, frames_of}

abbrev var : ℕ → String → Exp
var line name = syntax.variable line (codes name)

abbrev num : ℕ → ℕ → Exp
num line n = syntax.int line (pos n)

abbrev call : ℕ → String → List Exp → Exp
call line name es = forms.call line (syntax.atom line (codes name)) (exps_of es)

abbrev remote : ℕ → String → String → List Exp → Exp
remote line home name es = forms.remote_call line (syntax.atom line (codes home)) (syntax.atom line (codes name)) (exps_of es)

abbrev assign : ℕ → String → Exp → Exp
assign line name e = syntax.match line (pattern.variable line (codes name)) e

abbrev clause : List Pat → Exp → List Exp → ClauseTree
clause ps e es = syntax.clause (pats_of ps) syntax.no_guard (syntax.sequence e (exps_of es))

abbrev function : ℕ → String → ℕ → List ClauseTree → FunctionTree
function line name arity cs = record { name = codes name; arity = arity; line = line; clauses = clauses_of cs }

abbrev export : String → Export
export name = record { name = codes name; arity = 0; line = 2 }

-- after n moves of a call `M:main()`
abbrev after : List ModuleTree → List (List ℕ × ℕ) → String → ℕ → Run
after code current home zero = opening_call (codes home) (codes "main") []
after code current home (suc n) = moved code current 1 (after code current home n)

-- Two numbers are added, and the sum is displayed:
--     3  main() ->
--     4      X = sum(2, 3),
--     5      erlang:display(X).
--     6  sum(A, B) ->
--     7      C = A + B,
--     8      C.
abbrev shop : List ModuleTree
shop =
    record {
      name = codes "shop";
      line = 1;
      exports = export "main" ∷ [];
      functions =
          function 3 "main" 0 (clause [] (assign 4 "X" (call 4 "sum" (num 4 2 ∷ num 4 3 ∷ []))) (remote 5 "erlang" "display" (var 5 "X" ∷ []) ∷ []) ∷ [])
          ∷ function 6 "sum" 2 (clause (pattern.variable 6 (codes "A") ∷ pattern.variable 6 (codes "B") ∷ []) (assign 7 "C" (forms.binary 7 Add (var 7 "A") (var 7 "B"))) (var 8 "C" ∷ []) ∷ [])
          ∷ [];
    }
    ∷ []

abbrev shop_after : ℕ → Run
shop_after n = after shop (first_versions shop) "shop" n

opening_is_a_move : next (shop_after 0) ≡ pure
unfolding go moved redex next rows erlang_keys named_keys
opening_is_a_move = refl

first_line : next (shop_after 1) ≡ begins (codes "shop") 4
unfolding go moved redex next rows erlang_keys named_keys
first_line = refl

call_is_a_move : next (shop_after 2) ≡ pure
unfolding go moved redex next rows erlang_keys named_keys
call_is_a_move = refl

in_sum : next (shop_after 3) ≡ begins (codes "shop") 7
unfolding go moved redex next rows erlang_keys named_keys
in_sum = refl

behind_the_match : next (shop_after 9) ≡ begins (codes "shop") 8
unfolding go moved redex next rows erlang_keys named_keys
behind_the_match = refl

back_in_main : next (shop_after 14) ≡ begins (codes "shop") 5
unfolding go moved redex next rows erlang_keys named_keys
back_in_main = refl

display_is_an_act : next (shop_after 16) ≡ acts act.Print
unfolding go moved redex next rows erlang_keys named_keys
display_is_an_act = refl

-- what is shown as line 8 is to be begun; `main` is at line 4, where its call stands
shown_in_sum : frames_of (shop_after 9)
    ≡ (record {
      level = 2;
      home = codes "shop";
      name = codes "sum";
      arity = 2;
      line = 8;
      bindings = (codes "A", term.int (pos 2)) ∷ (codes "B", term.int (pos 3)) ∷ (codes "C", term.int (pos 5)) ∷ [];
    }
    ∷ record { level = 1; home = codes "shop"; name = codes "main"; arity = 0; line = 4; bindings = [] } ∷ [])
unfolding go moved redex next rows erlang_keys named_keys
shown_in_sum = refl

-- A tail call replaces its Body, and its level is one more:
--     3  main() ->
--     4      R = run(2),
--     5      R.
--     6  run(S) ->
--     7      loop(S).
--     8  loop(0) ->
--     9      done;
--    10  loop(S) ->
--    11      loop(S - 1).
abbrev tail : List ModuleTree
tail =
    record {
      name = codes "tail";
      line = 1;
      exports = export "main" ∷ [];
      functions =
          function 3 "main" 0 (clause [] (assign 4 "R" (call 4 "run" (num 4 2 ∷ []))) (var 5 "R" ∷ []) ∷ [])
          ∷ function 6 "run" 1 (clause (pattern.variable 6 (codes "S") ∷ []) (call 7 "loop" (var 7 "S" ∷ [])) [] ∷ [])
          ∷ function 8 "loop" 1 (clause (pattern.int 8 (pos 0) ∷ []) (syntax.atom 9 (codes "done")) [] ∷ clause (pattern.variable 10 (codes "S") ∷ []) (call 11 "loop" (forms.binary 11 Subtract (var 11 "S") (num 11 1) ∷ [])) [] ∷ [])
          ∷ [];
    }
    ∷ []

abbrev tail_after : ℕ → Run
tail_after n = after tail (first_versions tail) "tail" n

-- the levels of the Bodies, innermost first
abbrev levels : Run → List ℕ
levels t = map (λ b. b.0.level) (bodies_on_way t)

in_run : levels (tail_after 3) ≡ 2 ∷ 1 ∷ []
unfolding go moved redex next rows erlang_keys named_keys
in_run = refl

in_loop : levels (tail_after 6) ≡ 3 ∷ 1 ∷ []
unfolding go moved redex next rows erlang_keys named_keys
in_loop = refl

in_second_loop : levels (tail_after 10) ≡ 4 ∷ 1 ∷ []
unfolding go moved redex next rows erlang_keys named_keys
in_second_loop = refl

in_last_loop : levels (tail_after 14) ≡ 5 ∷ 1 ∷ []
unfolding go moved redex next rows erlang_keys named_keys
in_last_loop = refl

at_the_end : next (tail_after 18) ≡ begins (codes "tail") 5
unfolding go moved redex next rows erlang_keys named_keys
at_the_end = refl

-- A block within a body: the line that is shown is that of its own sequence.
--     3  main() ->
--     4      begin
--     5          X = 1,
--     6          X
--     7      end.
abbrev block : List ModuleTree
block =
    record {
      name = codes "block";
      line = 1;
      exports = export "main" ∷ [];
      functions = function 3 "main" 0 (clause [] (syntax.begin 4 (syntax.sequence (assign 5 "X" (num 5 1)) (exps_of (var 6 "X" ∷ [])))) [] ∷ []) ∷ [];
    }
    ∷ []

abbrev lines : Run → List ℕ
lines t = map (λ (r : Shown). r.line) (frames_of t)

abbrev block_after : ℕ → Run
block_after n = after block (first_versions block) "block" n

before_the_block : lines (block_after 1) ≡ 4 ∷ []
unfolding go moved redex next rows erlang_keys named_keys
before_the_block = refl

before_its_first : lines (block_after 2) ≡ 5 ∷ []
unfolding go moved redex next rows erlang_keys named_keys
before_its_first = refl

in_its_first : lines (block_after 3) ≡ 5 ∷ []
unfolding go moved redex next rows erlang_keys named_keys
in_its_first = refl

before_its_second : lines (block_after 5) ≡ 6 ∷ []
unfolding go moved redex next rows erlang_keys named_keys
before_its_second = refl

behind_the_block : lines (block_after 8) ≡ 4 ∷ []
unfolding go moved redex next rows erlang_keys named_keys
behind_the_block = refl

-- Two versions of a module, of which the second is current. A call from a running Body of the first stays in it:
--     3  main() ->
--     4      vers:name().
--     5  name() ->
--     6      one.        (in the second: two.)
abbrev version : String → ModuleTree
version answer =
    record {
      name = codes "vers";
      line = 1;
      exports = export "main" ∷ export "name" ∷ [];
      functions =
          function 3 "main" 0 (clause [] (remote 4 "vers" "name" []) [] ∷ [])
          ∷ function 5 "name" 0 (clause [] (syntax.atom 6 (codes answer)) [] ∷ [])
          ∷ [];
    }

abbrev versions : List ModuleTree
versions = version "one" ∷ version "two" ∷ []

-- after n moves, where version 1 was current for the first so many
abbrev loaded_after : ℕ → ℕ → Run
loaded_after n zero = after versions ((codes "vers", 1) ∷ []) "vers" n
loaded_after n (suc k) = moved versions ((codes "vers", 2) ∷ []) 1 (loaded_after n k)

abbrev numbers : Run → List ℕ
numbers t = map (λ b. b.0.version) (bodies_on_way t)

keeps_its_version : numbers (loaded_after 2 1) ≡ 1 ∷ []
unfolding go moved redex next rows erlang_keys named_keys
keeps_its_version = refl

takes_the_current : numbers (loaded_after 0 1) ≡ 2 ∷ []
unfolding go moved redex next rows erlang_keys named_keys
takes_the_current = refl

-- The second version of a module, whose first one has no function and is current. A fun runs in the version that made it,
-- also where no Body of its module runs:
--     3  main() ->
--     4      {fun() -> one end, fun name/0}.
--     5  name() ->
--     6      one.
abbrev funs : ModuleTree
funs =
    record {
      name = codes "funs";
      line = 1;
      exports = export "main" ∷ [];
      functions =
          function 3 "main" 0 (clause [] (forms.tuple 4 (exps_of (syntax.fun_clauses 4 0 (clauses_of (clause [] (syntax.atom 4 (codes "one")) [] ∷ [])) ∷ syntax.fun_local 4 1 (codes "name") 0 ∷ []))) [] ∷ [])
          ∷ function 5 "name" 0 (clause [] (syntax.atom 6 (codes "one")) [] ∷ [])
          ∷ [];
    }

-- after n moves of the call of the fun of this form, made by version 2
abbrev fun_after : ℕ → ℕ → Run
fun_after i zero = opening_call (codes "erlang") (codes "apply") (term.made (codes "funs") 2 i 0 term.uncaptured ∷ term.nil ∷ [])
fun_after i (suc n) = moved (record funs { functions = [] } ∷ funs ∷ []) ((codes "funs", 1) ∷ []) 1 (fun_after i n)

-- the version, the name and the level of each Body
abbrev shown_of : Run → List (ℕ × List ℕ × ℕ)
shown_of t = map (λ b. (b.0.version, b.0.name, b.0.level)) (bodies_on_way t)

fun_with_clauses : shown_of (fun_after 0 2) ≡ (2, codes "fun", 1) ∷ []
unfolding go moved redex next rows erlang_keys named_keys
fun_with_clauses = refl

fun_of_a_function : shown_of (fun_after 1 3) ≡ (2, codes "name", 1) ∷ []
unfolding go moved redex next rows erlang_keys named_keys
fun_of_a_function = refl
