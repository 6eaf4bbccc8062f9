-- How large a tree is: larger than each of its parts, which measures recursions, and no more is meant.

use Rattle.std.specs.Prelude.{ℕ, ◌+◌}
use Rattle.edb_syntax.specs.Patterns as pattern
use Rattle.edb_syntax.specs.Patterns.{Pat, Pats}
use Rattle.edb_syntax.specs.Syntax.{Exp, Exps, Seq, After, Guards, ClauseTree, Clauses, CatchTree, Catches, QualifierTree, Qualifiers, int, atom, string, float, variable, apply, and_also, or_else, match, catch, begin, case, if_clauses, receive, receive_after, try, fun_clauses, fun_local, fun_remote, comprehension, none, more, sequence, no_after, after, no_guard, alternative, clause, no_clauses, more_clauses, catch_clause, no_catches, more_catches, generator, filter, no_qualifiers, more_qualifiers}

abbrev mutual
  pub pattern_size : Pat → ℕ
  pattern_size (pattern.int l i) = 1
  pattern_size (pattern.atom l a) = 1
  pattern_size (pattern.string l s) = 1
  pattern_size (pattern.variable l x) = 1
  pattern_size (pattern.any l) = 1
  pattern_size (pattern.tuple l ps) = patterns_size ps + 1
  pattern_size (pattern.list l ps) = patterns_size ps + 1
  pattern_size (pattern.list_with_tail l ps t) = (patterns_size ps + pattern_size t) + 1
  pattern_size (pattern.both l p q) = (pattern_size p + pattern_size q) + 1

  pub patterns_size : Pats → ℕ
  patterns_size pattern.none = 0
  patterns_size (pattern.more p ps) = pattern_size p + patterns_size ps

abbrev mutual
  pub size : Exp → ℕ
  size (int l i) = 1
  size (atom l a) = 1
  size (string l s) = 1
  size (float l) = 1
  size (variable l x) = 1
  size (apply l o es) = sizes es + 1
  size (and_also l a b) = (size a + size b) + 1
  size (or_else l a b) = (size a + size b) + 1
  size (match l p e) = size e + 1
  size (catch l e) = size e + 1
  size (begin l s) = sequence_size s + 1
  size (case l e cs) = (size e + clauses_size cs) + 1
  size (if_clauses l cs) = clauses_size cs + 1
  size (receive l cs) = clauses_size cs + 1
  size (receive_after l cs e s) = ((clauses_size cs + size e) + sequence_size s) + 1
  size (try l s cs hs a) = (((sequence_size s + clauses_size cs) + catches_size hs) + after_size a) + 1
  size (fun_clauses l i cs) = clauses_size cs + 1
  size (fun_local l i f n) = 1
  size (fun_remote l m f n) = 1
  size (comprehension l e qs) = (size e + qualifiers_size qs) + 1

  pub sizes : Exps → ℕ
  sizes none = 0
  sizes (more e es) = size e + sizes es

  pub sequence_size : Seq → ℕ
  sequence_size (sequence e es) = (size e + sizes es) + 1

  pub after_size : After → ℕ
  after_size no_after = 0
  after_size (after s) = sequence_size s

  pub alternatives_size : Guards → ℕ
  alternatives_size no_guard = 0
  alternatives_size (alternative es gs) = sizes es + alternatives_size gs

  pub clause_size : ClauseTree → ℕ
  clause_size (clause ps g s) = (alternatives_size g + sequence_size s) + 4

  pub clauses_size : Clauses → ℕ
  clauses_size no_clauses = 0
  clauses_size (more_clauses c cs) = clause_size c + clauses_size cs

  pub catch_size : CatchTree → ℕ
  catch_size (catch_clause c p v g s) = (alternatives_size g + sequence_size s) + 4

  pub catches_size : Catches → ℕ
  catches_size no_catches = 0
  catches_size (more_catches c cs) = catch_size c + catches_size cs

  pub qualifier_size : QualifierTree → ℕ
  qualifier_size (generator p e) = size e + 1
  qualifier_size (filter e) = size e + 1

  pub qualifiers_size : Qualifiers → ℕ
  qualifiers_size no_qualifiers = 0
  qualifiers_size (more_qualifiers q qs) = qualifier_size q + qualifiers_size qs

-- A test of a guard is larger than its expression, an alternative than its tests, and a guard than its
-- alternatives.
abbrev pub test_size : Exp → ℕ
test_size e = size e + 1

abbrev pub alternative_size : Exps → ℕ
alternative_size es = sizes es + 2

abbrev pub guard_size : Guards → ℕ
guard_size g = alternatives_size g + 3
