-- Single cases of matching, guards, limits, raises, exits and answers, each by computation.

use Rattle.std.proofs.Common.{◌≡◌, ℕ, Bool, true, false, List, [], ◌∷◌, replicate, None, Some, Ok, codes, refl}
use Rattle.edb_lang.specs.declared.act.ActKind.TheVariants as act
use Rattle.edb_lang.specs.declared.small.Class.TheVariants.{Error, Exit, Throw}
use Rattle.edb_lang.specs.declared.operators.BinaryOp.TheVariants.{Equal, Div}
use Rattle.edb_lang.specs.Terms as term
use Rattle.edb_lang.specs.Terms.{Datum}
use Rattle.edb_pure.specs.Table.{rows}
use Rattle.edb_pure.specs.Answers.{badarg}
use Rattle.edb_syntax.specs.Patterns as pattern
use Rattle.edb_syntax.specs.Patterns.{Pat, pats_of}
use Rattle.edb_syntax.specs.Syntax as syntax
use Rattle.edb_syntax.specs.Syntax.{Exp, Exps, Guards, Seq, ModuleTree, exps_of}
use Rattle.edb_syntax.specs.Forms as forms
use Rattle.edb_moves.specs.Running.{Run, value, raised, string, around, caught, running, opening_call, Drawing}
use Rattle.edb_moves.specs.Matching.{matched}
use Rattle.edb_moves.specs.Guards.{holds}
use Rattle.edb_moves.specs.Versions.{version_for}
use Rattle.edb_moves.specs.Going.{Place, turns, leaves, raises, go, caught_value}
use Rattle.edb_moves.specs.Raises.{fails, fails_with}
use Rattle.edb_moves.specs.Calls.{nested}
use Rattle.edb_moves.specs.Comprehensions.{appended}
use Rattle.edb_moves.specs.Moves.{leaf_move, moved}
use Rattle.edb_moves.specs.Next.{acts, pure, redex, next}
use Rattle.edb_moves.specs.Plugging.{plugged}
use Rattle.edb_moves.specs.Exits.{exit_reason}
use Rattle.edb_moves.proofs.RowForms.{num, word, var, tuple, list, local, remote, greater, pnum, pvar, program, seq, number, atom, terms, tuple_of}

-- Matching.

new_in_front : matched (pvar "B") (number 2) ((codes "A", number 1) ∷ []) ≡ Some ((codes "B", number 2) ∷ (codes "A", number 1) ∷ [])
new_in_front = refl

bound_is_matched : matched (pvar "A") (number 2) ((codes "A", number 1) ∷ []) ≡ None
bound_is_matched = refl

first_pair_counts : matched (pvar "A") (number 2) ((codes "A", number 2) ∷ (codes "A", number 1) ∷ []) ≡ Some ((codes "A", number 2) ∷ (codes "A", number 1) ∷ [])
first_pair_counts = refl

string_is_its_list : matched (pattern.string 1 (codes "ab")) (terms (number 97 ∷ number 98 ∷ [])) [] ≡ Some []
string_is_its_list = refl

string_is_no_other : matched (pattern.string 1 (codes "ab")) (terms (number 97 ∷ [])) [] ≡ None
string_is_no_other = refl

tail_is_matched : matched (pattern.list_with_tail 1 (pats_of (pnum 1 ∷ [])) (pvar "T")) (term.cons (number 1) (number 2)) [] ≡ Some ((codes "T", number 2) ∷ [])
tail_is_matched = refl

list_is_proper : matched (pattern.list 1 (pats_of (pnum 1 ∷ []))) (term.cons (number 1) (number 2)) [] ≡ None
list_is_proper = refl

both_sides : matched (pattern.both 1 (pvar "A") (pattern.tuple 1 (pats_of (pvar "B" ∷ [])))) (tuple_of (number 1 ∷ [])) []
    ≡ Some ((codes "B", number 1) ∷ (codes "A", tuple_of (number 1 ∷ [])) ∷ [])
both_sides = refl

left_to_right : matched (pattern.tuple 1 (pats_of (pvar "A" ∷ pvar "A" ∷ []))) (tuple_of (number 1 ∷ number 2 ∷ [])) [] ≡ None
left_to_right = refl

-- Guards, for process 7.

abbrev guard : List (List Exp) → Guards
guard [] = syntax.no_guard
guard (es ∷ gs) = syntax.alternative (exps_of es) (guard gs)

abbrev judged : List (List Exp) → Bool
judged gs = holds 7 ((codes "N", number 5) ∷ []) (guard gs)

no_guard_holds : judged [] ≡ true
no_guard_holds = refl

all_tests : judged ((word "true" ∷ word "false" ∷ []) ∷ []) ≡ false
all_tests = refl

some_alternative : judged ((word "false" ∷ []) ∷ (word "true" ∷ []) ∷ []) ≡ true
some_alternative = refl

a_test_that_raises : judged ((forms.binary 1 Div (num 1) (num 0) ∷ []) ∷ (word "true" ∷ []) ∷ []) ≡ true
a_test_that_raises = refl

no_boolean : judged ((num 1 ∷ []) ∷ []) ≡ false
no_boolean = refl

a_variable : judged ((greater (var "N") (num 4) ∷ []) ∷ []) ≡ true
a_variable = refl

no_variable : judged ((greater (var "M") (num 4) ∷ []) ∷ (word "false" ∷ []) ∷ []) ≡ false
no_variable = refl

a_built_in : judged ((local "is_integer" (var "N" ∷ []) ∷ []) ∷ []) ≡ true
unfolding rows
a_built_in = refl

with_its_module : judged ((remote (word "erlang") "is_atom" (var "N" ∷ []) ∷ []) ∷ []) ≡ false
unfolding rows
with_its_module = refl

who_asks : judged ((forms.binary 1 Equal (local "self" []) (local "self" []) ∷ []) ∷ []) ≡ true
unfolding rows
who_asks = refl

own_function_is_none : judged ((forms.binary 1 Equal (local "id" (num 1 ∷ [])) (num 1) ∷ []) ∷ []) ≡ false
unfolding rows
own_function_is_none = refl

right_side_not_needed : judged ((syntax.or_else 1 (word "true") (forms.binary 1 Div (num 1) (num 0)) ∷ []) ∷ []) ≡ true
right_side_not_needed = refl

right_side_needed : judged ((syntax.and_also 1 (word "true") (forms.binary 1 Div (num 1) (num 0)) ∷ []) ∷ []) ≡ false
right_side_needed = refl

tuples_and_lists : judged ((forms.binary 1 Equal (tuple (list (var "N" ∷ []) ∷ [])) (tuple (list (num 5 ∷ []) ∷ [])) ∷ []) ∷ []) ≡ true
tuples_and_lists = refl

-- Limits.

abbrev at_depth : ℕ → Bool → Place
at_depth n tail = record { me = 1; level = 5; bindings = []; is_tail = tail; bodies = replicate n (program (seq (num 1) []), 1) }

deepest : nested (at_depth 16383 false) (value term.nil) ≡ turns [] (value term.nil)
deepest = refl

too_deep : nested (at_depth 16384 false) (value term.nil) ≡ fails (codes "system_limit")
too_deep = refl

tail_call_is_no_deeper : nested (at_depth 16384 true) (value term.nil) ≡ leaves (value term.nil)
tail_call_is_no_deeper = refl

long_string : leaf_move (at_depth 1 true) (string (replicate 4001 97)) ≡ fails (codes "system_limit")
long_string = refl

abbrev gathering : ℕ → Drawing
gathering n = record { gathered = replicate n (number 0); pattern = pattern.any 1; element = num 1; rest = syntax.no_qualifiers }

too_much_gathered : appended (at_depth 1 true) (gathering 4000) term.nil (terms (number 0 ∷ [])) ≡ fails (codes "system_limit")
too_much_gathered = refl

-- a list of 4,000 elements is as high as a term may be, so a tuple round it would be too high
abbrev high : Datum
high = terms (replicate 4000 (number 0))

reason_of_a_high_term : fails_with {X = Run} (codes "badmatch") high ≡ raises Error (tuple_of (atom "badmatch" ∷ atom "system_limit" ∷ []))
reason_of_a_high_term = refl

caught_high_error : caught_value Error high ≡ tuple_of (atom "EXIT" ∷ tuple_of (atom "system_limit" ∷ term.nil ∷ []) ∷ [])
caught_high_error = refl

caught_high_exit : caught_value Exit high ≡ tuple_of (atom "EXIT" ∷ atom "system_limit" ∷ [])
caught_high_exit = refl

caught_high_throw : caught_value Throw high ≡ high
caught_high_throw = refl

-- Ends.

exit_of_value : exit_reason (value (number 1)) ≡ atom "normal"
exit_of_value = refl

exit_of_error : exit_reason (raised Error (atom "a")) ≡ tuple_of (atom "a" ∷ term.nil ∷ [])
exit_of_error = refl

exit_of_exit : exit_reason (raised Exit (atom "a")) ≡ atom "a"
exit_of_exit = refl

exit_of_throw : exit_reason (raised Throw (atom "a")) ≡ tuple_of (tuple_of (atom "nocatch" ∷ atom "a" ∷ []) ∷ term.nil ∷ [])
exit_of_throw = refl

exit_of_high_throw : exit_reason (raised Throw high) ≡ tuple_of (tuple_of (atom "nocatch" ∷ atom "system_limit" ∷ []) ∷ term.nil ∷ [])
exit_of_high_throw = refl

-- Acts, which are no moves.

format_prints : next (opening_call (codes "io") (codes "format") (terms [] ∷ terms [] ∷ [])) ≡ acts act.Print
unfolding go redex next
format_prints = refl

format_of_three : next (opening_call (codes "io") (codes "format") (terms [] ∷ terms [] ∷ terms [] ∷ [])) ≡ pure
unfolding go redex next
format_of_three = refl

receive_is_no_move : next (running (syntax.receive 1 syntax.no_clauses)) ≡ acts act.Receive
unfolding go redex next
receive_is_no_move = refl

send_is_no_move : next (running (forms.send 1 (local "self" []) (word "a"))) ≡ acts act.Send
unfolding go redex next
send_is_no_move = refl

ended_is_no_move : next (raised Exit (atom "a")) ≡ acts act.End
unfolding go redex next
ended_is_no_move = refl

-- a built-in that computes is a move, also as the call by which a process begins
opening_built_in : moved [] [] 7 (opening_call (codes "erlang") (codes "abs") (number 1 ∷ [])) ≡ value (number 1)
unfolding go moved rows
opening_built_in = refl

-- a shared act that doesn't come yet isn't there
spawn_is_not_there : moved [] [] 7 (opening_call (codes "erlang") (codes "make_ref") []) ≡ raised Error (atom "undef")
unfolding go moved rows
spawn_is_not_there = refl

-- The answer of an act.

abbrev displaying : Run
displaying = around (caught []) (opening_call (codes "erlang") (codes "display") (number 1 ∷ []))

answer_in_its_place : plugged 7 (Ok (atom "true")) displaying ≡ around (caught []) (value (atom "true"))
unfolding go plugged
answer_in_its_place = refl

raise_goes_outward : plugged 7 badarg displaying ≡ value (tuple_of (atom "EXIT" ∷ tuple_of (atom "badarg" ∷ term.nil ∷ []) ∷ []))
unfolding go plugged
raise_goes_outward = refl

-- Versions.

innermost_counts : version_for ((codes "m", 3) ∷ []) ((codes "n", 7) ∷ (codes "m", 2) ∷ (codes "m", 1) ∷ []) (codes "m") ≡ Some 2
innermost_counts = refl

else_the_current : version_for ((codes "m", 3) ∷ []) ((codes "n", 7) ∷ []) (codes "m") ≡ Some 3
else_the_current = refl

else_none : version_for ((codes "m", 3) ∷ []) [] (codes "k") ≡ None
else_none = refl
