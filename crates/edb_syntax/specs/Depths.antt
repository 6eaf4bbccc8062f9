-- How deep a tree is. A literal, a variable, `_`, `[]`, `{}` and a fun that names a function have depth 1, any
-- other node one more than its deepest part. A list or a tuple is one node, whatever its length, and so is
-- `begin .. end`. The module and the name of a call are parts of it. Parentheses, clauses and sequences are no
-- nodes: the patterns, the tests and the expressions of a clause are parts of the node that has the clause.

use Rattle.std.specs.Prelude.{ℕ, ◌+◌, max, Option, None, Some}
use Rattle.edb_syntax.specs.declared.operation.Operation.{Operation}
use Rattle.edb_syntax.specs.declared.operation.Operation.TheVariants.{LocalCall}
use Rattle.edb_syntax.specs.Patterns as pattern
use Rattle.edb_syntax.specs.Patterns.{Pat, Pats}
use Rattle.edb_syntax.specs.Syntax.{Exp, Exps, Seq, After, Guards, ClauseTree, Clauses, CatchTree, Catches, QualifierTree, Qualifiers, FunctionTree, int, atom, string, float, variable, apply, and_also, or_else, match, catch, begin, case, if_clauses, receive, receive_after, try, fun_clauses, fun_local, fun_remote, comprehension, none, more, sequence, no_after, after, no_guard, alternative, clause, no_clauses, more_clauses, catch_clause, no_catches, more_catches, generator, filter, no_qualifiers, more_qualifiers}

abbrev mutual
  pub pattern_depth : Pat → ℕ
  pattern_depth (pattern.int l i) = 1
  pattern_depth (pattern.atom l a) = 1
  pattern_depth (pattern.string l s) = 1
  pattern_depth (pattern.variable l x) = 1
  pattern_depth (pattern.any l) = 1
  pattern_depth (pattern.tuple l ps) = patterns_depth ps + 1
  pattern_depth (pattern.list l ps) = patterns_depth ps + 1
  pattern_depth (pattern.list_with_tail l ps t) = max (patterns_depth ps) (pattern_depth t) + 1
  pattern_depth (pattern.both l p q) = max (pattern_depth p) (pattern_depth q) + 1

  pub patterns_depth : Pats → ℕ
  patterns_depth pattern.none = 0
  patterns_depth (pattern.more p ps) = max (pattern_depth p) (patterns_depth ps)

-- a name that stands in the operation itself is a part of the node too
abbrev pub name_depth : Operation → ℕ
name_depth (LocalCall f) = 1
name_depth _ = 0

-- the variable for the stack of a clause behind `catch`, where it has one
abbrev pub stack_depth : Option Pat → ℕ
stack_depth None = 0
stack_depth (Some p) = pattern_depth p

abbrev mutual
  pub depth : Exp → ℕ
  depth (int l i) = 1
  depth (atom l a) = 1
  depth (string l s) = 1
  depth (float l) = 1
  depth (variable l x) = 1
  depth (apply l o es) = max (name_depth o) (depths es) + 1
  depth (and_also l a b) = max (depth a) (depth b) + 1
  depth (or_else l a b) = max (depth a) (depth b) + 1
  depth (match l p e) = max (pattern_depth p) (depth e) + 1
  depth (catch l e) = depth e + 1
  depth (begin l s) = sequence_depth s + 1
  depth (case l e cs) = max (depth e) (clauses_depth cs) + 1
  depth (if_clauses l cs) = clauses_depth cs + 1
  depth (receive l cs) = clauses_depth cs + 1
  depth (receive_after l cs e s) = max (clauses_depth cs) (max (depth e) (sequence_depth s)) + 1
  depth (try l s cs hs a) = max (max (sequence_depth s) (clauses_depth cs)) (max (catches_depth hs) (after_depth a)) + 1
  depth (fun_clauses l i cs) = clauses_depth cs + 1
  depth (fun_local l i f n) = 1
  depth (fun_remote l m f n) = 1
  depth (comprehension l e qs) = max (depth e) (qualifiers_depth qs) + 1

  -- the deepest of expressions, 0 where there is none; likewise below
  pub depths : Exps → ℕ
  depths none = 0
  depths (more e es) = max (depth e) (depths es)

  pub sequence_depth : Seq → ℕ
  sequence_depth (sequence e es) = max (depth e) (depths es)

  pub after_depth : After → ℕ
  after_depth no_after = 0
  after_depth (after s) = sequence_depth s

  pub guard_depth : Guards → ℕ
  guard_depth no_guard = 0
  guard_depth (alternative es gs) = max (depths es) (guard_depth gs)

  pub clause_depth : ClauseTree → ℕ
  clause_depth (clause ps g s) = max (patterns_depth ps) (max (guard_depth g) (sequence_depth s))

  pub clauses_depth : Clauses → ℕ
  clauses_depth no_clauses = 0
  clauses_depth (more_clauses c cs) = max (clause_depth c) (clauses_depth cs)

  pub catch_depth : CatchTree → ℕ
  catch_depth (catch_clause c p v g s) =
      max (max (pattern_depth c) (pattern_depth p)) (max (stack_depth v) (max (guard_depth g) (sequence_depth s)))

  pub catches_depth : Catches → ℕ
  catches_depth no_catches = 0
  catches_depth (more_catches c cs) = max (catch_depth c) (catches_depth cs)

  pub qualifier_depth : QualifierTree → ℕ
  qualifier_depth (generator p e) = max (pattern_depth p) (depth e)
  qualifier_depth (filter e) = depth e

  pub qualifiers_depth : Qualifiers → ℕ
  qualifiers_depth no_qualifiers = 0
  qualifiers_depth (more_qualifiers q qs) = max (qualifier_depth q) (qualifiers_depth qs)

-- how deep a function is: the greatest depth of an expression, a pattern or a test in it
abbrev pub function_depth : FunctionTree → ℕ
function_depth f = clauses_depth f.clauses
