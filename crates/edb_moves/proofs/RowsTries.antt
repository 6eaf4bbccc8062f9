-- `catch`, `try` and `after`: moves counted by hand, with the opening call.

use Rattle.std.proofs.Common.{◌≡◌, pos, neg_ℤ, List, [], ◌∷◌, Some, None, codes, refl}
use Rattle.edb_table.specs.BuiltIns.{erlang_keys}
use Rattle.edb_table.specs.Marking.{named_keys}
use Rattle.edb_pure.specs.Table.{rows}
use Rattle.edb_lang.specs.declared.small.Class.TheVariants.{Error, Exit, Throw}
use Rattle.edb_lang.specs.declared.operators.UnaryOp.TheVariants.{Minus}
use Rattle.edb_lang.specs.declared.operators.BinaryOp.TheVariants.{Add, Multiply, Append, Div, GreaterThan}
use Rattle.edb_lang.specs.Terms as term
use Rattle.edb_syntax.specs.Patterns as pattern
use Rattle.edb_syntax.specs.Syntax as syntax
use Rattle.edb_syntax.specs.Syntax.{Exp, Seq, clauses_of, catches_of, qualifiers_of}
use Rattle.edb_syntax.specs.Forms as forms
use Rattle.edb_moves.specs.Running.{Run, value, raised}
use Rattle.edb_moves.specs.Going.{go}
use Rattle.edb_moves.specs.Moves.{moved}
use Rattle.edb_moves.specs.Next.{redex, next}
use Rattle.edb_moves.proofs.RowForms.{num, word, var, tuple, list, local, remote, fun_call, assign, seq, pnum, pvar, pword, any, clause, guarded, handling, greater, Makes, number, atom, terms, tuple_of, fails}

-- `catch 1`
caught_value : Makes 5 (seq (syntax.catch 1 (num 1)) []) (value (number 1))
unfolding go moved redex next rows erlang_keys named_keys
caught_value = refl

-- `catch 1 div 0`
caught_error : Makes 5 (seq (syntax.catch 1 (forms.binary 1 Div (num 1) (num 0))) []) (value (tuple_of ((atom "EXIT") ∷ (tuple_of ((atom "badarith") ∷ term.nil ∷ [])) ∷ [])))
unfolding go moved redex next rows erlang_keys named_keys
caught_error = refl

-- `catch exit(a)`
caught_exit : Makes 5 (seq (syntax.catch 1 (local "exit" ((word "a") ∷ []))) []) (value (tuple_of ((atom "EXIT") ∷ (atom "a") ∷ [])))
unfolding go moved redex next rows erlang_keys named_keys
caught_exit = refl

-- `catch throw(a)`
caught_throw : Makes 5 (seq (syntax.catch 1 (local "throw" ((word "a") ∷ []))) []) (value (atom "a"))
unfolding go moved redex next rows erlang_keys named_keys
caught_throw = refl

-- `X = (catch id(1)), X`
caught_call : Makes 13 (seq (assign "X" (syntax.catch 1 (local "id" ((num 1) ∷ [])))) ((var "X") ∷ [])) (value (number 1))
unfolding go moved redex next rows erlang_keys named_keys
caught_call = refl

-- `catch begin X = 1, throw(a) end, X`: what was bound within is gone
bindings_restored : Makes 11 (seq (syntax.catch 1 (syntax.begin 1 (seq (assign "X" (num 1)) ((local "throw" ((word "a") ∷ [])) ∷ [])))) ((var "X") ∷ [])) (fails (tuple_of ((atom "unbound") ∷ (atom "X") ∷ [])))
unfolding go moved redex next rows erlang_keys named_keys
bindings_restored = refl

-- `catch X = 1, X`
bindings_stay : Makes 9 (seq (syntax.catch 1 (assign "X" (num 1))) ((var "X") ∷ [])) (value (number 1))
unfolding go moved redex next rows erlang_keys named_keys
bindings_stay = refl

-- `try 1 of 1 -> a catch _ -> b end`
try_of : Makes 9 (seq (syntax.try 1 (seq (num 1) []) (clauses_of ((clause ((pnum 1) ∷ []) (word "a")) ∷ [])) (catches_of ((handling (pword "throw") any None (word "b")) ∷ [])) syntax.no_after) []) (value (atom "a"))
unfolding go moved redex next rows erlang_keys named_keys
try_of = refl

-- `try 1 of 2 -> a catch _:_ -> b end`
try_clause : Makes 6 (seq (syntax.try 1 (seq (num 1) []) (clauses_of ((clause ((pnum 2) ∷ []) (word "a")) ∷ [])) (catches_of ((handling any any None (word "b")) ∷ [])) syntax.no_after) []) (fails (tuple_of ((atom "try_clause") ∷ (number 1) ∷ [])))
unfolding go moved redex next rows erlang_keys named_keys
try_clause = refl

-- `try 1 of _ -> throw(a) catch _ -> b end`: what follows `of` is outside `catch`
of_is_outside : Makes 8 (seq (syntax.try 1 (seq (num 1) []) (clauses_of ((clause (any ∷ []) (local "throw" ((word "a") ∷ []))) ∷ [])) (catches_of ((handling (pword "throw") any None (word "b")) ∷ [])) syntax.no_after) []) (raised Throw (atom "a"))
unfolding go moved redex next rows erlang_keys named_keys
of_is_outside = refl

-- `try throw(a) catch T -> {c, T} end`
try_throw : Makes 10 (seq (syntax.try 1 (seq (local "throw" ((word "a") ∷ [])) []) (clauses_of []) (catches_of ((handling (pword "throw") (pvar "T") None (tuple ((word "c") ∷ (var "T") ∷ []))) ∷ [])) syntax.no_after) []) (value (tuple_of ((atom "c") ∷ (atom "a") ∷ [])))
unfolding go moved redex next rows erlang_keys named_keys
try_throw = refl

-- `try 1 div 0 catch error:R:S -> {R, S} end`
with_stack : Makes 11 (seq (syntax.try 1 (seq (forms.binary 1 Div (num 1) (num 0)) []) (clauses_of []) (catches_of ((handling (pword "error") (pvar "R") (Some (pvar "S")) (tuple ((var "R") ∷ (var "S") ∷ []))) ∷ [])) syntax.no_after) []) (value (tuple_of ((atom "badarith") ∷ term.nil ∷ [])))
unfolding go moved redex next rows erlang_keys named_keys
with_stack = refl

-- `try exit(a) catch K:_ -> K end`
class_variable : Makes 9 (seq (syntax.try 1 (seq (local "exit" ((word "a") ∷ [])) []) (clauses_of []) (catches_of ((handling (pvar "K") any None (var "K")) ∷ [])) syntax.no_after) []) (value (atom "exit"))
unfolding go moved redex next rows erlang_keys named_keys
class_variable = refl

-- `try exit(a) catch _ -> b end`: a class that is not written is `throw`
other_class : Makes 5 (seq (syntax.try 1 (seq (local "exit" ((word "a") ∷ [])) []) (clauses_of []) (catches_of ((handling (pword "throw") any None (word "b")) ∷ [])) syntax.no_after) []) (raised Exit (atom "a"))
unfolding go moved redex next rows erlang_keys named_keys
other_class = refl

-- `try 1 after ok end`
after_value : Makes 11 (seq (syntax.try 1 (seq (num 1) []) (clauses_of []) (catches_of []) (syntax.after (seq (word "ok") []))) []) (value (number 1))
unfolding go moved redex next rows erlang_keys named_keys
after_value = refl

-- `try throw(a) after ok end`
after_throw : Makes 9 (seq (syntax.try 1 (seq (local "throw" ((word "a") ∷ [])) []) (clauses_of []) (catches_of []) (syntax.after (seq (word "ok") []))) []) (raised Throw (atom "a"))
unfolding go moved redex next rows erlang_keys named_keys
after_throw = refl

-- `try throw(a) of _ -> b catch T -> {c, T} after ok end`
after_handled : Makes 14 (seq (syntax.try 1 (seq (local "throw" ((word "a") ∷ [])) []) (clauses_of ((clause (any ∷ []) (word "b")) ∷ [])) (catches_of ((handling (pword "throw") (pvar "T") None (tuple ((word "c") ∷ (var "T") ∷ []))) ∷ [])) (syntax.after (seq (word "ok") []))) []) (value (tuple_of ((atom "c") ∷ (atom "a") ∷ [])))
unfolding go moved redex next rows erlang_keys named_keys
after_handled = refl

-- `catch (try throw(a) after throw(b) end)`: the first exception is lost
after_raises : Makes 10 (seq (syntax.catch 1 (syntax.try 1 (seq (local "throw" ((word "a") ∷ [])) []) (clauses_of []) (catches_of []) (syntax.after (seq (local "throw" ((word "b") ∷ [])) [])))) []) (value (atom "b"))
unfolding go moved redex next rows erlang_keys named_keys
after_raises = refl

-- `try begin X = 1, throw(a) end after X end`: after an exception what the body bound is gone
after_sees_kept : Makes 12 (seq (syntax.try 1 (seq (syntax.begin 1 (seq (assign "X" (num 1)) ((local "throw" ((word "a") ∷ [])) ∷ []))) []) (clauses_of []) (catches_of []) (syntax.after (seq (var "X") []))) []) (fails (tuple_of ((atom "unbound") ∷ (atom "X") ∷ [])))
unfolding go moved redex next rows erlang_keys named_keys
after_sees_kept = refl

-- `try X = 1 after X end`: after a value it is there
after_sees_body : Makes 13 (seq (syntax.try 1 (seq (assign "X" (num 1)) []) (clauses_of []) (catches_of []) (syntax.after (seq (var "X") []))) []) (value (number 1))
unfolding go moved redex next rows erlang_keys named_keys
after_sees_body = refl

-- `try begin X = 1, throw(2) end catch X -> {X} end`: X is new in the pattern
handler_sees_kept : Makes 14 (seq (syntax.try 1 (seq (syntax.begin 1 (seq (assign "X" (num 1)) ((local "throw" ((num 2) ∷ [])) ∷ []))) []) (clauses_of []) (catches_of ((handling (pword "throw") (pvar "X") None (tuple ((var "X") ∷ []))) ∷ [])) syntax.no_after) []) (value (tuple_of ((number 2) ∷ [])))
unfolding go moved redex next rows erlang_keys named_keys
handler_sees_kept = refl

-- `X = 1, try throw(2) catch X -> a; _ -> b end`: the pattern sees what was bound before
handler_sees_bound : Makes 11 (seq (assign "X" (num 1)) ((syntax.try 1 (seq (local "throw" ((num 2) ∷ [])) []) (clauses_of []) (catches_of ((handling (pword "throw") (pvar "X") None (word "a")) ∷ (handling (pword "throw") any None (word "b")) ∷ [])) syntax.no_after) ∷ [])) (value (atom "b"))
unfolding go moved redex next rows erlang_keys named_keys
handler_sees_bound = refl

-- `try begin X = 1, 2 end of X -> a; _ -> b catch _ -> c end`: the pattern sees what the body bound
of_sees_body : Makes 14 (seq (syntax.try 1 (seq (syntax.begin 1 (seq (assign "X" (num 1)) ((num 2) ∷ []))) []) (clauses_of ((clause ((pvar "X") ∷ []) (word "a")) ∷ (clause (any ∷ []) (word "b")) ∷ [])) (catches_of ((handling (pword "throw") any None (word "c")) ∷ [])) syntax.no_after) []) (value (atom "b"))
unfolding go moved redex next rows erlang_keys named_keys
of_sees_body = refl

-- `try 1 of 2 -> a catch _ -> b after ok end`: the `after` runs first
after_try_clause : Makes 10 (seq (syntax.try 1 (seq (num 1) []) (clauses_of ((clause ((pnum 2) ∷ []) (word "a")) ∷ [])) (catches_of ((handling (pword "throw") any None (word "b")) ∷ [])) (syntax.after (seq (word "ok") []))) []) (fails (tuple_of ((atom "try_clause") ∷ (number 1) ∷ [])))
unfolding go moved redex next rows erlang_keys named_keys
after_try_clause = refl

-- `try throw(a) catch a -> throw(b) after throw(c) end`: the `after` is outside `catch`, and comes last
after_is_outside : Makes 10
    (seq
    (syntax.try 1 (seq (local "throw" ((word "a") ∷ [])) []) (clauses_of [])
    (catches_of ((handling (pword "throw") (pword "a") None (local "throw" ((word "b") ∷ []))) ∷ []))
    (syntax.after (seq (local "throw" ((word "c") ∷ [])) [])))
    []) (raised Throw (atom "c"))
unfolding go moved redex next rows erlang_keys named_keys
after_is_outside = refl
