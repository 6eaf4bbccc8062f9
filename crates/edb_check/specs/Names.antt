-- The names that an expression has in common with its surroundings: those of its variables, but for those that are
-- local to a fun, a comprehension or a test of a guard within it.

use Rattle.std.specs.Prelude.{ℕ, List, [], ◌∷◌, ◌++◌, map}
use Rattle.edb_syntax.specs.Syntax.{Exp, Exps, Seq, After, Guards, ClauseTree, Clauses, CatchTree, Catches, QualifierTree, Qualifiers, int, atom, string, float, variable, apply, and_also, or_else, match, catch, begin, case, if_clauses, receive, receive_after, try, fun_clauses, fun_local, fun_remote, comprehension, none, more, sequence, no_after, after, no_guard, alternative, clause, no_clauses, more_clauses, catch_clause, no_catches, more_catches, generator, filter, no_qualifiers, more_qualifiers}
use Rattle.edb_check.specs.Scopes.{Scope, Operand, partly, outer}
use Rattle.edb_check.specs.PatternRules.{patterns_binds, pattern_names, patterns_names}
use Rattle.edb_check.specs.Binds.{catch_patterns, before_after, binds, sequence_binds, clause_binds, ways, catch_ways, qualifier_binds, qualifiers_binds}

abbrev mutual
  pub names : Scope → Exp → List (List ℕ)
  names bs (int l i) = []
  names bs (atom l a) = []
  names bs (string l s) = []
  names bs (float l) = []
  names bs (variable l x) = x ∷ []
  names bs (apply l o es) = operands_names bs es
  names bs (and_also l a b) = names bs a ++ names (bs ++ binds bs a) b
  names bs (or_else l a b) = names bs a ++ names (bs ++ binds bs a) b
  names bs (match l p e) = names bs e ++ pattern_names p
  names bs (catch l e) = names bs e
  names bs (begin l s) = sequence_names bs s
  names bs (case l e cs) = names bs e ++ clauses_names (bs ++ binds bs e) cs
  names bs (if_clauses l cs) = clauses_names bs cs
  names bs (receive l cs) = clauses_names bs cs
  names bs (receive_after l cs e s) =
      names bs e ++ (clauses_names (bs ++ binds bs e) cs ++ sequence_names (bs ++ binds bs e) s)
  names bs (try l s cs hs a) =
      let body = sequence_binds bs s in
      let tried = before_after body (ways (bs ++ body) cs) (catch_ways (bs ++ map partly body) hs) in
      sequence_names bs s
      ++ (clauses_names (bs ++ body) cs
      ++ (catches_names (bs ++ map partly body) hs
      ++ after_names (bs ++ tried) a))
  names bs (fun_clauses l i cs) = fun_names bs cs
  names bs (fun_local l i f n) = []
  names bs (fun_remote l m f n) = []
  names bs (comprehension l e qs) =
      let own = qualifiers_binds bs qs in
      qualifiers_names bs [] qs ++ outer (own ++ binds (bs ++ own) e) (names (bs ++ own) e)

  pub operands_names : Scope → Exps → List (List ℕ)
  operands_names bs none = []
  operands_names bs (more e es) = names bs e ++ operands_names (bs ++ binds bs e) es

  pub sequence_names : Scope → Seq → List (List ℕ)
  sequence_names bs (sequence e es) = names bs e ++ operands_names (bs ++ binds bs e) es

  pub after_names : Scope → After → List (List ℕ)
  after_names bs no_after = []
  after_names bs (after s) = sequence_names bs s

  -- what a test binds is local to it
  pub tests_names : Scope → Exps → List (List ℕ)
  tests_names bs none = []
  tests_names bs (more e es) = outer (binds bs e) (names bs e) ++ tests_names bs es

  pub guard_names : Scope → Guards → List (List ℕ)
  guard_names bs no_guard = []
  guard_names bs (alternative es gs) = tests_names bs es ++ guard_names bs gs

  -- the first scope is that which the patterns see
  pub clause_names : Scope → Scope → ClauseTree → List (List ℕ)
  clause_names seen bs (clause ps g s) =
      patterns_names ps
      ++ (guard_names (bs ++ patterns_binds seen ps) g ++ sequence_names (bs ++ patterns_binds seen ps) s)

  pub clauses_names : Scope → Clauses → List (List ℕ)
  clauses_names bs no_clauses = []
  clauses_names bs (more_clauses c cs) = clause_names bs bs c ++ clauses_names bs cs

  -- of a fun's clause, those that it doesn't bind itself
  pub fun_names : Scope → Clauses → List (List ℕ)
  fun_names bs no_clauses = []
  fun_names bs (more_clauses c cs) = outer (clause_binds [] bs c) (clause_names [] bs c) ++ fun_names bs cs

  pub catch_names : Scope → CatchTree → List (List ℕ)
  catch_names bs (catch_clause c p v g s) =
      let seen = bs ++ patterns_binds bs (catch_patterns c p v) in
      patterns_names (catch_patterns c p v) ++ (guard_names seen g ++ sequence_names seen s)

  pub catches_names : Scope → Catches → List (List ℕ)
  catches_names bs no_catches = []
  catches_names bs (more_catches c cs) = catch_names bs c ++ catches_names bs cs

  -- of a comprehension's part, those that the comprehension hasn't bound so far; that is the second scope
  pub qualifier_names : Scope → Scope → QualifierTree → List (List ℕ)
  qualifier_names bs own (generator p e) = outer (own ++ binds bs e) (names bs e)
  qualifier_names bs own (filter e) = outer (own ++ binds bs e) (names bs e)

  pub qualifiers_names : Scope → Scope → Qualifiers → List (List ℕ)
  qualifiers_names bs own no_qualifiers = []
  qualifiers_names bs own (more_qualifiers q qs) =
      qualifier_names bs own q ++ qualifiers_names (bs ++ qualifier_binds bs q) (own ++ qualifier_binds bs q) qs

-- what an operand newly binds, and its names
abbrev pub operand : Scope → Exp → Operand
operand bs e = record { binds = binds bs e; names = names bs e }

-- operands one behind the other
abbrev pub operands : Scope → Exps → List Operand
operands bs none = []
operands bs (more e es) = operand bs e ∷ operands (bs ++ binds bs e) es
