use Rattle.std.proofs.Common.{◌≡◌, ◌++◌, drop, map}
use Rattle.edb_syntax.specs.FunForms as forms
use Rattle.edb_syntax.specs.Syntax.{exps_of, guards_of, clauses_of, catches_of, qualifiers_of}
use Rattle.edb_units.specs.Forms.{form_of}
use Rattle.edb_units.proofs.collect.+collect.Given as goal

-- those found and those of what is left are all; likewise below
abbrev pub invariant-expressions_forms-loop-expr : goal.invariant-expressions_forms-loop-expr
invariant-expressions_forms-loop-expr l = map form_of l.found.items ++ forms.expressions_forms (exps_of (drop l.expr-index l.exprs)) ≡ map form_of l.initial.found.items ++ forms.expressions_forms (exps_of l.exprs)

abbrev pub invariant-tests_forms-loop-test : goal.invariant-tests_forms-loop-test
invariant-tests_forms-loop-test l = map form_of l.found.items ++ forms.expressions_forms (exps_of (drop l.test-index l.tests)) ≡ map form_of l.initial.found.items ++ forms.expressions_forms (exps_of l.tests)

abbrev pub invariant-guards_forms-loop-alternative : goal.invariant-guards_forms-loop-alternative
invariant-guards_forms-loop-alternative l = map form_of l.found.items ++ forms.guards_forms (guards_of (drop l.alternative-index l.alternatives)) ≡ map form_of l.initial.found.items ++ forms.guards_forms (guards_of l.alternatives)

abbrev pub invariant-clauses_forms-loop-clause : goal.invariant-clauses_forms-loop-clause
invariant-clauses_forms-loop-clause l = map form_of l.found.items ++ forms.clauses_forms (clauses_of (drop l.clause-index l.clauses)) ≡ map form_of l.initial.found.items ++ forms.clauses_forms (clauses_of l.clauses)

abbrev pub invariant-catches_forms-loop-clause : goal.invariant-catches_forms-loop-clause
invariant-catches_forms-loop-clause l = map form_of l.found.items ++ forms.catches_forms (catches_of (drop l.clause-index l.catches)) ≡ map form_of l.initial.found.items ++ forms.catches_forms (catches_of l.catches)

abbrev pub invariant-qualifiers_forms-loop-qualifier : goal.invariant-qualifiers_forms-loop-qualifier
invariant-qualifiers_forms-loop-qualifier l = map form_of l.found.items ++ forms.qualifiers_forms (qualifiers_of (drop l.qualifier-index l.qualifiers)) ≡ map form_of l.initial.found.items ++ forms.qualifiers_forms (qualifiers_of l.qualifiers)
