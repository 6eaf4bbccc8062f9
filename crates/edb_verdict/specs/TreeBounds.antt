-- Trees within bounds: each atom has at most 255 characters, also the name of what is called and of what a fun is made
-- of; no clause has more than 255 patterns, and no fun names an arity above 255.

use Rattle.std.specs.Prelude.{◌≤◌, Option, None, Some, All}
use Rattle.edb_syntax.specs.declared.operation.Operation.{Operation}
use Rattle.edb_syntax.specs.declared.operation.Operation.TheVariants.{LocalCall}
use Rattle.edb_syntax.specs.Patterns as pattern
use Rattle.edb_syntax.specs.Patterns.{Pat, Pats, pats_count}
use Rattle.edb_syntax.specs.Syntax.{Exp, Exps, Seq, After, Guards, ClauseTree, Clauses, CatchTree, Catches, QualifierTree, Qualifiers, FunctionTree, ModuleTree, int, atom, string, float, variable, apply, and_also, or_else, match, catch, begin, case, if_clauses, receive, receive_after, try, fun_clauses, fun_local, fun_remote, comprehension, none, more, sequence, no_after, after, no_guard, alternative, clause, no_clauses, more_clauses, catch_clause, no_catches, more_catches, generator, filter, no_qualifiers, more_qualifiers}
use Rattle.edb_verdict.specs.Bounds.{IsShort}

abbrev mutual
  pub IsBoundedPattern : Pat → Type 0
  IsBoundedPattern (pattern.int l i) = Unit {0}
  IsBoundedPattern (pattern.atom l a) = IsShort a
  IsBoundedPattern (pattern.string l s) = Unit {0}
  IsBoundedPattern (pattern.variable l x) = Unit {0}
  IsBoundedPattern (pattern.any l) = Unit {0}
  IsBoundedPattern (pattern.tuple l ps) = AreBoundedPatterns ps
  IsBoundedPattern (pattern.list l ps) = AreBoundedPatterns ps
  IsBoundedPattern (pattern.list_with_tail l ps t) = AreBoundedPatterns ps × IsBoundedPattern t
  IsBoundedPattern (pattern.both l p q) = IsBoundedPattern p × IsBoundedPattern q

  pub AreBoundedPatterns : Pats → Type 0
  AreBoundedPatterns pattern.none = Unit {0}
  AreBoundedPatterns (pattern.more p ps) = IsBoundedPattern p × AreBoundedPatterns ps

-- the variable for the stack, where there is one
abbrev pub IsBoundedStack : Option Pat → Type 0
IsBoundedStack None = Unit {0}
IsBoundedStack (Some p) = IsBoundedPattern p

abbrev pub IsBoundedOperation : Operation → Type 0
IsBoundedOperation (LocalCall f) = IsShort f
IsBoundedOperation _ = Unit {0}

abbrev mutual
  pub IsBoundedExpression : Exp → Type 0
  IsBoundedExpression (int l i) = Unit {0}
  IsBoundedExpression (atom l a) = IsShort a
  IsBoundedExpression (string l s) = Unit {0}
  IsBoundedExpression (float l) = Unit {0}
  IsBoundedExpression (variable l x) = Unit {0}
  IsBoundedExpression (apply l o es) = IsBoundedOperation o × AreBoundedExpressions es
  IsBoundedExpression (and_also l a b) = IsBoundedExpression a × IsBoundedExpression b
  IsBoundedExpression (or_else l a b) = IsBoundedExpression a × IsBoundedExpression b
  IsBoundedExpression (match l p e) = IsBoundedPattern p × IsBoundedExpression e
  IsBoundedExpression (catch l e) = IsBoundedExpression e
  IsBoundedExpression (begin l s) = IsBoundedSequence s
  IsBoundedExpression (case l e cs) = IsBoundedExpression e × AreBoundedClauses cs
  IsBoundedExpression (if_clauses l cs) = AreBoundedClauses cs
  IsBoundedExpression (receive l cs) = AreBoundedClauses cs
  IsBoundedExpression (receive_after l cs e s) = AreBoundedClauses cs × IsBoundedExpression e × IsBoundedSequence s
  IsBoundedExpression (try l s cs hs a) = IsBoundedSequence s × AreBoundedClauses cs × AreBoundedCatches hs × IsBoundedAfter a
  IsBoundedExpression (fun_clauses l i cs) = AreBoundedClauses cs
  IsBoundedExpression (fun_local l i f n) = IsShort f × (n ≤ 255)
  IsBoundedExpression (fun_remote l m f n) = IsShort m × IsShort f × (n ≤ 255)
  IsBoundedExpression (comprehension l e qs) = IsBoundedExpression e × AreBoundedQualifiers qs

  pub AreBoundedExpressions : Exps → Type 0
  AreBoundedExpressions none = Unit {0}
  AreBoundedExpressions (more e es) = IsBoundedExpression e × AreBoundedExpressions es

  pub IsBoundedSequence : Seq → Type 0
  IsBoundedSequence (sequence e es) = IsBoundedExpression e × AreBoundedExpressions es

  pub IsBoundedAfter : After → Type 0
  IsBoundedAfter no_after = Unit {0}
  IsBoundedAfter (after s) = IsBoundedSequence s

  pub IsBoundedGuard : Guards → Type 0
  IsBoundedGuard no_guard = Unit {0}
  IsBoundedGuard (alternative es gs) = AreBoundedExpressions es × IsBoundedGuard gs

  pub IsBoundedClause : ClauseTree → Type 0
  IsBoundedClause (clause ps g s) = (pats_count ps ≤ 255) × AreBoundedPatterns ps × IsBoundedGuard g × IsBoundedSequence s

  pub AreBoundedClauses : Clauses → Type 0
  AreBoundedClauses no_clauses = Unit {0}
  AreBoundedClauses (more_clauses c cs) = IsBoundedClause c × AreBoundedClauses cs

  pub IsBoundedCatch : CatchTree → Type 0
  IsBoundedCatch (catch_clause c p v g s) =
      IsBoundedPattern c × IsBoundedPattern p × IsBoundedStack v × IsBoundedGuard g × IsBoundedSequence s

  pub AreBoundedCatches : Catches → Type 0
  AreBoundedCatches no_catches = Unit {0}
  AreBoundedCatches (more_catches c cs) = IsBoundedCatch c × AreBoundedCatches cs

  pub IsBoundedQualifier : QualifierTree → Type 0
  IsBoundedQualifier (generator p e) = IsBoundedPattern p × IsBoundedExpression e
  IsBoundedQualifier (filter e) = IsBoundedExpression e

  pub AreBoundedQualifiers : Qualifiers → Type 0
  AreBoundedQualifiers no_qualifiers = Unit {0}
  AreBoundedQualifiers (more_qualifiers q qs) = IsBoundedQualifier q × AreBoundedQualifiers qs

abbrev pub HasBoundedClauses : FunctionTree → Type 0
HasBoundedClauses f = AreBoundedClauses f.clauses

-- each function of a module
abbrev pub HasBoundedTrees : ModuleTree → Type 0
HasBoundedTrees m = All HasBoundedClauses m.functions
