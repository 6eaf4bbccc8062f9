-- What patterns, expressions and what they are made of add, by the rules.

use Rattle.std.specs.Prelude.{List, [], ◌∷◌, ◌++◌, map}
use Rattle.edb_syntax.specs.Patterns.{Pat, Pats, pats_of}
use Rattle.edb_syntax.specs.Syntax.{Exp, Exps, Seq, After, Guards, ClauseTree, CatchTree, QualifierTree, exps_of, clauses_of, catches_of, qualifiers_of}
use Rattle.edb_table.specs.Keys.{Key}
use Rattle.edb_check.specs.Scopes.{Scope, partly, join, outer}
use Rattle.edb_check.specs.PatternRules.{pattern_binds, pattern_names, pattern_faults, patterns_binds, patterns_names, patterns_faults}
use Rattle.edb_check.specs.Binds.{binds, operands_binds, sequence_binds, after_binds, clause_binds, ways, catch_binds, qualifier_binds, qualifiers_binds}
use Rattle.edb_check.specs.Names.{names, operands_names, sequence_names, after_names, tests_names, guard_names, clause_names, clauses_names, fun_names, catch_names, catches_names, qualifier_names, qualifiers_names}
use Rattle.edb_check.specs.GuardRules.{misplaced}
use Rattle.edb_check.specs.Rules.{faults, operands_faults, sequence_faults, after_faults, tests_faults, guard_faults, clause_faults, clauses_faults, heads_faults, catch_faults, catches_faults, qualifier_faults, qualifiers_faults}
use Rattle.edb_check.specs.Walking.{Part, part}

-- a pattern that sees this scope, and several
abbrev pub pattern_part : Scope → Pat → Part
pattern_part seen p = part (pattern_binds seen p) (pattern_names p) (pattern_faults seen p)

abbrev pub pats_part : Scope → Pats → Part
pats_part seen ps = part (patterns_binds seen ps) (patterns_names ps) (patterns_faults seen ps)

abbrev pub patterns_part : Scope → List Pat → Part
patterns_part seen ps = pats_part seen (pats_of ps)

-- an expression, expressions one after the other, and a sequence
abbrev pub expression_part : List Key → Scope → Exp → Part
expression_part keys bs e = part (binds bs e) (names bs e) (faults keys bs e)

abbrev pub operands_part : List Key → Scope → List Exp → Part
operands_part keys bs es =
    part (operands_binds bs (exps_of es)) (operands_names bs (exps_of es)) (operands_faults keys bs (exps_of es))

abbrev pub sequence_part : List Key → Scope → Seq → Part
sequence_part keys bs s = part (sequence_binds bs s) (sequence_names bs s) (sequence_faults keys bs s)

-- what binds only on some ways
abbrev pub partly_part : Part → Part
partly_part p = part (map partly p.binds) p.names p.faults

-- what keeps what it binds to itself
abbrev pub inner_part : Part → Part
inner_part p = part [] p.names p.faults

-- a test of a guard, and several; a guard
abbrev pub test_part : List Key → Scope → Exp → Part
test_part keys bs e = part [] (outer (binds bs e) (names bs e)) (faults keys bs e ++ misplaced keys e)

abbrev pub tests_part : List Key → Scope → Exps → Part
tests_part keys bs es = part [] (tests_names bs es) (tests_faults keys bs es)

abbrev pub guard_part : List Key → Scope → Guards → Part
guard_part keys bs g = part [] (guard_names bs g) (guard_faults keys bs g)

-- a clause whose patterns see the first scope; the clauses of a choice; those of a fun or a function
abbrev pub clause_part : List Key → Scope → Scope → ClauseTree → Part
clause_part keys seen bs c = part (clause_binds seen bs c) (clause_names seen bs c) (clause_faults keys seen bs c)

abbrev pub clauses_part : List Key → Scope → List ClauseTree → Part
clauses_part keys bs cs = part [] (clauses_names bs (clauses_of cs)) (clauses_faults keys bs (clauses_of cs))

abbrev pub head_part : List Key → Scope → ClauseTree → Part
head_part keys bs c =
    part [] (outer (clause_binds [] bs c) (clause_names [] bs c)) (clause_faults keys [] bs c)

abbrev pub heads_part : List Key → Scope → List ClauseTree → Part
heads_part keys bs cs = part [] (fun_names bs (clauses_of cs)) (heads_faults keys bs (clauses_of cs))

-- clauses, and a sequence behind them, of which one is taken
abbrev pub choice_part : List Key → Scope → List ClauseTree → Part
choice_part keys bs cs = part (join (ways bs (clauses_of cs))) (clauses_names bs (clauses_of cs)) (clauses_faults keys bs (clauses_of cs))

abbrev pub timed_part : List Key → Scope → List ClauseTree → Seq → Part
timed_part keys bs cs s =
    part (join (ways bs (clauses_of cs) ++ sequence_binds bs s ∷ [])) (clauses_names bs (clauses_of cs) ++ sequence_names bs s)
    (clauses_faults keys bs (clauses_of cs) ++ sequence_faults keys bs s)

-- the generator's pattern, whose variables are new
abbrev pub fresh_part : Pat → Part
fresh_part p = part (pattern_binds [] p) [] (pattern_faults [] p)

-- a clause behind `catch`, and several; what stands behind `after`
abbrev pub catch_part : List Key → Scope → CatchTree → Part
catch_part keys bs c = part (catch_binds bs c) (catch_names bs c) (catch_faults keys bs c)

abbrev pub catches_part : List Key → Scope → List CatchTree → Part
catches_part keys bs cs = part [] (catches_names bs (catches_of cs)) (catches_faults keys bs (catches_of cs))

abbrev pub after_part : List Key → Scope → After → Part
after_part keys bs a = part (map partly (after_binds bs a)) (after_names bs a) (after_faults keys bs a)

-- an expression, a qualifier and qualifiers of a comprehension that has bound the second scope so far
abbrev pub local_part : List Key → Scope → Scope → Exp → Part
local_part keys bs own e = part (binds bs e) (outer (own ++ binds bs e) (names bs e)) (faults keys bs e)

abbrev pub qualifier_part : List Key → Scope → Scope → QualifierTree → Part
qualifier_part keys bs own q = part (qualifier_binds bs q) (qualifier_names bs own q) (qualifier_faults keys bs q)

abbrev pub qualifiers_part : List Key → Scope → Scope → List QualifierTree → Part
qualifiers_part keys bs own qs =
    part (qualifiers_binds bs (qualifiers_of qs)) (qualifiers_names bs own (qualifiers_of qs)) (qualifiers_faults keys bs (qualifiers_of qs))
