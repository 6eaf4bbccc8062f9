-- What may stand in a guard: literals, strings among them, variables, tuples, lists, operators but for `++`, `--` and
-- `!`, and calls of the built-ins that are guard tests, with or without the module's name. A function of the module
-- goes before a built-in of its name and arity, and may not be called there.

use Rattle.std.specs.Prelude.{ℕ, Bool, true, false, ◌&&◌, not, if◌then◌else◌, List, [], ◌++◌, codes}
use Rattle.edb_lang.specs.declared.operators.BinaryOp.{BinaryOp}
use Rattle.edb_lang.specs.declared.operators.BinaryOp.TheVariants as operator
use Rattle.edb_syntax.specs.declared.operation.Operation.{Operation}
use Rattle.edb_syntax.specs.declared.operation.Operation.TheVariants as operation
use Rattle.edb_syntax.specs.Syntax.{Exp, Exps, int, atom, string, float, variable, apply, and_also, or_else, match, catch, begin, case, if_clauses, receive, receive_after, try, fun_clauses, fun_local, fun_remote, comprehension, none, more}
use Rattle.edb_syntax.specs.Syntax.{count}
use Rattle.edb_table.specs.Keys.{Key}
use Rattle.edb_table.specs.Marking.{is_guard}
use Rattle.edb_check.specs.declared.fault.CheckFault.{CheckFault}
use Rattle.edb_check.specs.declared.fault.CheckKind.TheVariants.{BadGuard}
use Rattle.edb_check.specs.Faults.{fault}
use Rattle.edb_check.specs.Functions.{is_defined}

-- a module and a name, both written out, that name a guard test of so many parameters
abbrev pub name_test : Exp → Exp → ℕ → Bool
name_test (atom l m) (atom k f) n = is_guard (m, (f, n))
name_test m f n = false

-- the operands of a call with its module: the module and the name come first
abbrev pub is_named_test : Exps → Bool
is_named_test (more m (more f es)) = name_test m f (count es)
is_named_test es = false

-- a built-in that is called by its name alone, where the module has no such function
abbrev pub is_plain_test : List Key → Key → Bool
is_plain_test keys k = is_guard (codes "erlang", k) && not (is_defined keys k)

-- an operator between two operands that may stand in a guard
abbrev pub is_guard_operator : BinaryOp → Bool
is_guard_operator operator.Append = false
is_guard_operator operator.Remove = false
is_guard_operator o = true

-- an operation that may stand in a guard, whatever its operands
abbrev pub may_stand : List Key → Operation → Exps → Bool
may_stand keys operation.Tuple es = true
may_stand keys operation.List es = true
may_stand keys operation.ListWithTail es = true
may_stand keys (operation.Unary o) es = true
may_stand keys (operation.Binary o) es = is_guard_operator o
may_stand keys operation.Send es = false
may_stand keys (operation.LocalCall f) es = is_plain_test keys (f, count es)
may_stand keys operation.RemoteCall es = is_named_test es
may_stand keys operation.FunCall es = false

-- a fault for each outermost part of an expression that may not stand in a guard
abbrev mutual
  pub misplaced : List Key → Exp → List CheckFault
  misplaced keys (int l i) = []
  misplaced keys (atom l a) = []
  misplaced keys (string l s) = []
  -- also a literal, and a fault of its own
  misplaced keys (float l) = []
  misplaced keys (variable l x) = []
  misplaced keys (apply l o es) = if may_stand keys o es then all_misplaced keys es else fault l BadGuard
  misplaced keys (and_also l a b) = misplaced keys a ++ misplaced keys b
  misplaced keys (or_else l a b) = misplaced keys a ++ misplaced keys b
  misplaced keys (match l p e) = fault l BadGuard
  misplaced keys (catch l e) = fault l BadGuard
  misplaced keys (begin l s) = fault l BadGuard
  misplaced keys (case l e cs) = fault l BadGuard
  misplaced keys (if_clauses l cs) = fault l BadGuard
  misplaced keys (receive l cs) = fault l BadGuard
  misplaced keys (receive_after l cs e s) = fault l BadGuard
  misplaced keys (try l s cs hs a) = fault l BadGuard
  misplaced keys (fun_clauses l i cs) = fault l BadGuard
  misplaced keys (fun_local l i f n) = fault l BadGuard
  misplaced keys (fun_remote l m f n) = fault l BadGuard
  misplaced keys (comprehension l e qs) = fault l BadGuard

  pub all_misplaced : List Key → Exps → List CheckFault
  all_misplaced keys none = []
  all_misplaced keys (more e es) = misplaced keys e ++ all_misplaced keys es
