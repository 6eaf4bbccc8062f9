-- All faults of an expression, each with its line, in the scope in which it stands; the keys are the functions of the
-- module. What a part binds is in the scope of the parts behind it, whether it is faulty or not.

use Rattle.std.specs.Prelude.{ℕ, Bool, not, Option, None, Some, List, [], ◌++◌, map}
use Rattle.edb_lang.specs.declared.operators.BinaryOp.TheVariants.{Divide}
use Rattle.edb_syntax.specs.declared.operation.Operation.{Operation}
use Rattle.edb_syntax.specs.declared.operation.Operation.TheVariants.{Binary, LocalCall}
use Rattle.edb_syntax.specs.Syntax.{Exp, Exps, Seq, After, Guards, ClauseTree, Clauses, CatchTree, Catches, QualifierTree, Qualifiers, int, atom, string, float, variable, apply, and_also, or_else, match, catch, begin, case, if_clauses, receive, receive_after, try, fun_clauses, fun_local, fun_remote, comprehension, none, more, sequence, no_after, after, no_guard, alternative, clause, no_clauses, more_clauses, catch_clause, no_catches, more_catches, generator, filter, no_qualifiers, more_qualifiers}
use Rattle.edb_syntax.specs.Syntax.{count}
use Rattle.edb_table.specs.Keys.{Key}
use Rattle.edb_check.specs.declared.fault.CheckFault.{CheckFault}
use Rattle.edb_check.specs.declared.fault.CheckKind.TheVariants.{Unbound, Unsafe, Sibling, Float, Undefined}
use Rattle.edb_check.specs.declared.status.Status.{Status}
use Rattle.edb_check.specs.declared.status.Status.TheVariants.{Sure, Partly}
use Rattle.edb_check.specs.Faults.{fault, fault_if}
use Rattle.edb_check.specs.Scopes.{Scope, partly, lookup, share, any_share}
use Rattle.edb_check.specs.PatternRules.{patterns_binds, pattern_faults, patterns_faults}
use Rattle.edb_check.specs.Binds.{catch_patterns, before_after, binds, sequence_binds, ways, catch_ways, qualifier_binds, qualifiers_binds}
use Rattle.edb_check.specs.Names.{operand, operands}
use Rattle.edb_check.specs.Functions.{is_callable}
use Rattle.edb_check.specs.GuardRules.{misplaced}

-- a variable is to be bound on each way to its use
abbrev pub used : ℕ → Option Status → List CheckFault
used l None = fault l Unbound
used l (Some Sure) = []
used l (Some Partly) = fault l Unsafe

-- the fault of an operation itself, on so many operands
abbrev pub operation_faults : List Key → ℕ → Operation → ℕ → List CheckFault
operation_faults keys l (Binary Divide) n = fault l Float
operation_faults keys l (LocalCall f) n = fault_if (not (is_callable keys (f, n))) l Undefined
operation_faults keys l o n = []

-- two operands, of which the second sees what the first binds, have a name in common that one of them newly binds
abbrev pub both_share : Scope → Exp → Exp → Bool
both_share bs a b = share (operand bs a) (operand (bs ++ binds bs a) b)

abbrev mutual
  pub faults : List Key → Scope → Exp → List CheckFault
  faults keys bs (int l i) = []
  faults keys bs (atom l a) = []
  faults keys bs (string l s) = []
  faults keys bs (float l) = fault l Float
  faults keys bs (variable l x) = used l (lookup x bs)
  faults keys bs (apply l o es) =
      operands_faults keys bs es
      ++ (fault_if (any_share (operands bs es)) l Sibling ++ operation_faults keys l o (count es))
  faults keys bs (and_also l a b) =
      faults keys bs a ++ (faults keys (bs ++ binds bs a) b ++ fault_if (both_share bs a b) l Sibling)
  faults keys bs (or_else l a b) =
      faults keys bs a ++ (faults keys (bs ++ binds bs a) b ++ fault_if (both_share bs a b) l Sibling)
  -- the pattern is no operand
  faults keys bs (match l p e) = faults keys bs e ++ pattern_faults (bs ++ binds bs e) p
  faults keys bs (catch l e) = faults keys bs e
  faults keys bs (begin l s) = sequence_faults keys bs s
  faults keys bs (case l e cs) = faults keys bs e ++ clauses_faults keys (bs ++ binds bs e) cs
  faults keys bs (if_clauses l cs) = clauses_faults keys bs cs
  faults keys bs (receive l cs) = clauses_faults keys bs cs
  faults keys bs (receive_after l cs e s) =
      faults keys bs e
      ++ (clauses_faults keys (bs ++ binds bs e) cs ++ sequence_faults keys (bs ++ binds bs e) s)
  faults keys bs (try l s cs hs a) =
      let body = sequence_binds bs s in
      let tried = before_after body (ways (bs ++ body) cs) (catch_ways (bs ++ map partly body) hs) in
      sequence_faults keys bs s
      ++ (clauses_faults keys (bs ++ body) cs
      ++ (catches_faults keys (bs ++ map partly body) hs
      ++ after_faults keys (bs ++ tried) a))
  faults keys bs (fun_clauses l i cs) = heads_faults keys bs cs
  faults keys bs (fun_local l i f n) = fault_if (not (is_callable keys (f, n))) l Undefined
  faults keys bs (fun_remote l m f n) = []
  faults keys bs (comprehension l e qs) = qualifiers_faults keys bs qs ++ faults keys (bs ++ qualifiers_binds bs qs) e

  pub operands_faults : List Key → Scope → Exps → List CheckFault
  operands_faults keys bs none = []
  operands_faults keys bs (more e es) = faults keys bs e ++ operands_faults keys (bs ++ binds bs e) es

  pub sequence_faults : List Key → Scope → Seq → List CheckFault
  sequence_faults keys bs (sequence e es) = faults keys bs e ++ operands_faults keys (bs ++ binds bs e) es

  pub after_faults : List Key → Scope → After → List CheckFault
  after_faults keys bs no_after = []
  after_faults keys bs (after s) = sequence_faults keys bs s

  -- a test has the faults that it has as an expression, and those of what may not stand in a guard; what it binds is
  -- seen in no other test
  pub tests_faults : List Key → Scope → Exps → List CheckFault
  tests_faults keys bs none = []
  tests_faults keys bs (more e es) = (faults keys bs e ++ misplaced keys e) ++ tests_faults keys bs es

  pub guard_faults : List Key → Scope → Guards → List CheckFault
  guard_faults keys bs no_guard = []
  guard_faults keys bs (alternative es gs) = tests_faults keys bs es ++ guard_faults keys bs gs

  -- the first scope is that which the patterns see
  pub clause_faults : List Key → Scope → Scope → ClauseTree → List CheckFault
  clause_faults keys seen bs (clause ps g s) =
      patterns_faults seen ps
      ++ (guard_faults keys (bs ++ patterns_binds seen ps) g ++ sequence_faults keys (bs ++ patterns_binds seen ps) s)

  pub clauses_faults : List Key → Scope → Clauses → List CheckFault
  clauses_faults keys bs no_clauses = []
  clauses_faults keys bs (more_clauses c cs) = clause_faults keys bs bs c ++ clauses_faults keys bs cs

  -- clauses of a function or a fun, whose heads see no variables
  pub heads_faults : List Key → Scope → Clauses → List CheckFault
  heads_faults keys bs no_clauses = []
  heads_faults keys bs (more_clauses c cs) = clause_faults keys [] bs c ++ heads_faults keys bs cs

  pub catch_faults : List Key → Scope → CatchTree → List CheckFault
  catch_faults keys bs (catch_clause c p v g s) =
      let seen = bs ++ patterns_binds bs (catch_patterns c p v) in
      patterns_faults bs (catch_patterns c p v) ++ (guard_faults keys seen g ++ sequence_faults keys seen s)

  pub catches_faults : List Key → Scope → Catches → List CheckFault
  catches_faults keys bs no_catches = []
  catches_faults keys bs (more_catches c cs) = catch_faults keys bs c ++ catches_faults keys bs cs

  pub qualifier_faults : List Key → Scope → QualifierTree → List CheckFault
  qualifier_faults keys bs (generator p e) = faults keys bs e ++ pattern_faults [] p
  qualifier_faults keys bs (filter e) = faults keys bs e

  pub qualifiers_faults : List Key → Scope → Qualifiers → List CheckFault
  qualifiers_faults keys bs no_qualifiers = []
  qualifiers_faults keys bs (more_qualifiers q qs) =
      qualifier_faults keys bs q ++ qualifiers_faults keys (bs ++ qualifier_binds bs q) qs
