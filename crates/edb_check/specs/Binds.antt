-- What an expression newly binds in a scope: the bindings that stand behind that scope's after it, those that are
-- bound on some ways alone among them. Operands, and the expressions of a sequence, come one after the other, and each
-- sees what those before it bound.

use Rattle.std.specs.Prelude.{Option, None, Some, List, [], ◌∷◌, ◌++◌, map}
use Rattle.edb_syntax.specs.Patterns as pattern
use Rattle.edb_syntax.specs.Patterns.{Pat, Pats}
use Rattle.edb_syntax.specs.Syntax.{Exp, Exps, Seq, After, ClauseTree, Clauses, CatchTree, Catches, QualifierTree, Qualifiers, int, atom, string, float, variable, apply, and_also, or_else, match, catch, begin, case, if_clauses, receive, receive_after, try, fun_clauses, fun_local, fun_remote, comprehension, none, more, sequence, no_after, after, clause, no_clauses, more_clauses, catch_clause, no_catches, more_catches, generator, filter, no_qualifiers, more_qualifiers}
use Rattle.edb_check.specs.Scopes.{Scope, partly, join}
use Rattle.edb_check.specs.PatternRules.{pattern_binds, patterns_binds}

-- the patterns of a clause behind `catch`: its class, its pattern, and its stack variable where it has one
abbrev pub catch_patterns : Pat → Pat → Option Pat → Pats
catch_patterns c p None = pattern.more c (pattern.more p pattern.none)
catch_patterns c p (Some v) = pattern.more c (pattern.more p (pattern.more v pattern.none))

-- what a `try` leaves bound for its `after`: what its body, its clauses behind `of` and those behind `catch` bind
abbrev pub before_after : Scope → List Scope → List Scope → Scope
before_after body of_ways catch_ways = map partly body ++ (map partly (join of_ways) ++ map partly (join catch_ways))

abbrev mutual
  pub binds : Scope → Exp → Scope
  binds bs (int l i) = []
  binds bs (atom l a) = []
  binds bs (string l s) = []
  binds bs (float l) = []
  binds bs (variable l x) = []
  binds bs (apply l o es) = operands_binds bs es
  -- the right side is evaluated on some ways alone
  binds bs (and_also l a b) = binds bs a ++ map partly (binds (bs ++ binds bs a) b)
  binds bs (or_else l a b) = binds bs a ++ map partly (binds (bs ++ binds bs a) b)
  -- the expression comes before the pattern
  binds bs (match l p e) = binds bs e ++ pattern_binds (bs ++ binds bs e) p
  -- it may be left half way
  binds bs (catch l e) = map partly (binds bs e)
  binds bs (begin l s) = sequence_binds bs s
  binds bs (case l e cs) = binds bs e ++ join (ways (bs ++ binds bs e) cs)
  binds bs (if_clauses l cs) = join (ways bs cs)
  binds bs (receive l cs) = join (ways bs cs)
  -- the timeout is evaluated first, and what follows it is one more way
  binds bs (receive_after l cs e s) =
      binds bs e ++ join (ways (bs ++ binds bs e) cs ++ sequence_binds (bs ++ binds bs e) s ∷ [])
  -- What the body binds is sure for the clauses behind `of`, and partly bound for those behind `catch`. Whatever a
  -- `try` binds may have been left out.
  binds bs (try l s cs hs a) =
      let body = sequence_binds bs s in
      let tried = before_after body (ways (bs ++ body) cs) (catch_ways (bs ++ map partly body) hs) in
      tried ++ map partly (after_binds (bs ++ tried) a)
  -- a fun and a comprehension keep what they bind to themselves
  binds bs (fun_clauses l i cs) = []
  binds bs (fun_local l i f n) = []
  binds bs (fun_remote l m f n) = []
  binds bs (comprehension l e qs) = []

  pub operands_binds : Scope → Exps → Scope
  operands_binds bs none = []
  operands_binds bs (more e es) = binds bs e ++ operands_binds (bs ++ binds bs e) es

  pub sequence_binds : Scope → Seq → Scope
  sequence_binds bs (sequence e es) = binds bs e ++ operands_binds (bs ++ binds bs e) es

  pub after_binds : Scope → After → Scope
  after_binds bs no_after = []
  after_binds bs (after s) = sequence_binds bs s

  -- what a clause binds; its patterns see the first scope, which is that round it, but for a function and a fun, where
  -- they see none: the variables of a head are new
  pub clause_binds : Scope → Scope → ClauseTree → Scope
  clause_binds seen bs (clause ps g s) = patterns_binds seen ps ++ sequence_binds (bs ++ patterns_binds seen ps) s

  pub ways : Scope → Clauses → List Scope
  ways bs no_clauses = []
  ways bs (more_clauses c cs) = clause_binds bs bs c ∷ ways bs cs

  pub catch_binds : Scope → CatchTree → Scope
  catch_binds bs (catch_clause c p v g s) =
      patterns_binds bs (catch_patterns c p v) ++ sequence_binds (bs ++ patterns_binds bs (catch_patterns c p v)) s

  pub catch_ways : Scope → Catches → List Scope
  catch_ways bs no_catches = []
  catch_ways bs (more_catches c cs) = catch_binds bs c ∷ catch_ways bs cs

-- what a qualifier binds within its comprehension: the variables of a generator's pattern are new
abbrev pub qualifier_binds : Scope → QualifierTree → Scope
qualifier_binds bs (generator p e) = binds bs e ++ pattern_binds [] p
qualifier_binds bs (filter e) = binds bs e

abbrev pub qualifiers_binds : Scope → Qualifiers → Scope
qualifiers_binds bs no_qualifiers = []
qualifiers_binds bs (more_qualifiers q qs) = qualifier_binds bs q ++ qualifiers_binds (bs ++ qualifier_binds bs q) qs
