-- Comprehensions: moves counted by hand, with the opening call.

use Rattle.std.proofs.Common.{[], ◌∷◌, refl}
use Rattle.edb_table.specs.BuiltIns.{erlang_keys}
use Rattle.edb_table.specs.Marking.{named_keys}
use Rattle.edb_pure.specs.Table.{rows}
use Rattle.edb_lang.specs.declared.operators.BinaryOp.TheVariants.{Multiply}
use Rattle.edb_lang.specs.Terms as term
use Rattle.edb_syntax.specs.Patterns as pattern
use Rattle.edb_syntax.specs.Syntax as syntax
use Rattle.edb_syntax.specs.Syntax.{Exp, Seq, clauses_of, catches_of, qualifiers_of}
use Rattle.edb_syntax.specs.Forms as forms
use Rattle.edb_moves.specs.Running.{value}
use Rattle.edb_moves.specs.Going.{go}
use Rattle.edb_moves.specs.Moves.{moved}
use Rattle.edb_moves.specs.Next.{redex, next}
use Rattle.edb_moves.proofs.RowForms.{num, word, var, tuple, list, assign, seq, pvar, greater, Makes, number, atom, terms, tuple_of, fails}

-- `[X || X <- []]`
over_nothing : Makes 7 (seq (syntax.comprehension 1 (var "X") (qualifiers_of ((syntax.generator (pvar "X") (list [])) ∷ []))) []) (value term.nil)
unfolding go moved redex next rows erlang_keys named_keys
over_nothing = refl

-- `[X || X <- [1]]`
over_one : Makes 13 (seq (syntax.comprehension 1 (var "X") (qualifiers_of ((syntax.generator (pvar "X") (list ((num 1) ∷ []))) ∷ []))) []) (value (terms ((number 1) ∷ [])))
unfolding go moved redex next rows erlang_keys named_keys
over_one = refl

-- `[X * X || X <- [1,2,3], X > 1]`
squares : Makes 35 (seq (syntax.comprehension 1 (forms.binary 1 Multiply (var "X") (var "X")) (qualifiers_of ((syntax.generator (pvar "X") (list ((num 1) ∷ (num 2) ∷ (num 3) ∷ []))) ∷ (syntax.filter (greater (var "X") (num 1))) ∷ []))) []) (value (terms ((number 4) ∷ (number 9) ∷ [])))
unfolding go moved redex next rows erlang_keys named_keys
squares = refl

-- `[X || {X} <- [{1}, 2, {3}]]`
left_out : Makes 22 (seq (syntax.comprehension 1 (var "X") (qualifiers_of ((syntax.generator (pattern.tuple 1 (pattern.pats_of ((pvar "X") ∷ []))) (list ((tuple ((num 1) ∷ [])) ∷ (num 2) ∷ (tuple ((num 3) ∷ [])) ∷ []))) ∷ []))) []) (value (terms ((number 1) ∷ (number 3) ∷ [])))
unfolding go moved redex next rows erlang_keys named_keys
left_out = refl

-- `[{X,Y} || X <- [1,2], Y <- [a]]`
two_generators : Makes 33 (seq (syntax.comprehension 1 (tuple ((var "X") ∷ (var "Y") ∷ [])) (qualifiers_of ((syntax.generator (pvar "X") (list ((num 1) ∷ (num 2) ∷ []))) ∷ (syntax.generator (pvar "Y") (list ((word "a") ∷ []))) ∷ []))) []) (value (terms ((tuple_of ((number 1) ∷ (atom "a") ∷ [])) ∷ (tuple_of ((number 2) ∷ (atom "a") ∷ [])) ∷ [])))
unfolding go moved redex next rows erlang_keys named_keys
two_generators = refl

-- `[X || X <- [1|2]]`: what is left of the list is in the reason
improper : Makes 11 (seq (syntax.comprehension 1 (var "X") (qualifiers_of ((syntax.generator (pvar "X") (forms.list_with_tail 1 (syntax.exps_of ((num 1) ∷ [])) (num 2))) ∷ []))) []) (fails (tuple_of ((atom "bad_generator") ∷ (number 2) ∷ [])))
unfolding go moved redex next rows erlang_keys named_keys
improper = refl

-- `[X || X <- 1]`
no_list : Makes 4 (seq (syntax.comprehension 1 (var "X") (qualifiers_of ((syntax.generator (pvar "X") (num 1)) ∷ []))) []) (fails (tuple_of ((atom "bad_generator") ∷ (number 1) ∷ [])))
unfolding go moved redex next rows erlang_keys named_keys
no_list = refl

-- `[X || X <- [1], foo]`
no_filter : Makes 6 (seq (syntax.comprehension 1 (var "X") (qualifiers_of ((syntax.generator (pvar "X") (list ((num 1) ∷ []))) ∷ (syntax.filter (word "foo")) ∷ []))) []) (fails (tuple_of ((atom "bad_filter") ∷ (atom "foo") ∷ [])))
unfolding go moved redex next rows erlang_keys named_keys
no_filter = refl

-- `[1 || true]`
filter_alone : Makes 8 (seq (syntax.comprehension 1 (num 1) (qualifiers_of ((syntax.filter (word "true")) ∷ []))) []) (value (terms ((number 1) ∷ [])))
unfolding go moved redex next rows erlang_keys named_keys
filter_alone = refl

-- `[1 || false]`
filtered_out : Makes 6 (seq (syntax.comprehension 1 (num 1) (qualifiers_of ((syntax.filter (word "false")) ∷ []))) []) (value term.nil)
unfolding go moved redex next rows erlang_keys named_keys
filtered_out = refl

-- `X = 1, [X || X <- [2]]`: the variable of a generator is new
fresh_variable : Makes 16 (seq (assign "X" (num 1)) ((syntax.comprehension 1 (var "X") (qualifiers_of ((syntax.generator (pvar "X") (list ((num 2) ∷ []))) ∷ []))) ∷ [])) (value (terms ((number 2) ∷ [])))
unfolding go moved redex next rows erlang_keys named_keys
fresh_variable = refl

-- `[X || X <- [1]], X`: what a scope binds is unbound behind it
own_scope : Makes 15 (seq (syntax.comprehension 1 (var "X") (qualifiers_of ((syntax.generator (pvar "X") (list ((num 1) ∷ []))) ∷ []))) ((var "X") ∷ [])) (fails (tuple_of ((atom "unbound") ∷ (atom "X") ∷ [])))
unfolding go moved redex next rows erlang_keys named_keys
own_scope = refl
