-- Running expressions: the syntax tree of what a process still has to do, with values in place of what was evaluated,
-- and a Body in place of each call that was entered.
--
-- A leaf has nothing in it that is evaluated. A node of operands waits for them from left to right. A frame waits for
-- one part, which it stands round. What a later rule needs of a construct stays in its leaf or frame as syntax.

use Rattle.std.specs.Prelude.{ℕ, List, [], ◌∷◌, Option, None, Some}
use Rattle.edb_lang.specs.declared.small.Class.{Class}
use Rattle.edb_lang.specs.declared.act.ActKind.{ActKind}
use Rattle.edb_lang.specs.declared.act.ActKind.TheVariants as act
use Rattle.edb_lang.specs.Terms as term
use Rattle.edb_lang.specs.Terms.{Datum}
use Rattle.edb_lang.specs.Pairs.{Pairs}
use Rattle.edb_syntax.specs.declared.operation.Operation.{Operation}
use Rattle.edb_syntax.specs.declared.operation.Operation.TheVariants as operation
use Rattle.edb_syntax.specs.Patterns.{Pat, pats_count}
use Rattle.edb_syntax.specs.Syntax as syntax
use Rattle.edb_syntax.specs.Syntax.{Exp, Exps, Seq, After, ClauseTree, Clauses, Catches, Qualifiers, ModuleTree}

-- What is done with operands once all of them are values.
pub data Doing : Type 0 where
  -- as it is written: an operator, a tuple, a list or a call
  written : Operation → Doing
  -- the call of the function of this name in this module, of this version, as if it were written there
  call_in : ModuleTree → ℕ → List ℕ → Doing

-- What a Body says of the call that it stands for: the module and its version, the function's name and arity, the
-- level, and the bindings, the newest pair first. Where a name has several pairs, the first counts.
pub record Info : Type 0 where
  pub home : ModuleTree
  pub version : ℕ
  pub name : List ℕ
  pub arity : ℕ
  pub level : ℕ
  pub bindings : Pairs

-- what came of the body of a `try`: a value, or an exception
pub data Outcome : Type 0 where
  gave : Datum → Outcome
  threw : Class → Datum → Outcome

-- A generator at work: the elements gathered so far, its pattern, the element's expression, and the qualifiers behind it.
pub record Drawing : Type 0 where
  pub gathered : List Datum
  pub pattern : Pat
  pub element : Exp
  pub rest : Qualifiers

-- What has nothing in it that is evaluated.
pub data Leaf : Type 0 where
  -- a string, as its characters
  string : List ℕ → Leaf
  -- a variable
  variable : List ℕ → Leaf
  -- a sequence whose first expression isn't begun
  unbegun : Seq → Leaf
  -- `if .. end`
  conditions : Clauses → Leaf
  -- a fun with clauses: its place among the module's fun forms, and its arity
  making : ℕ → ℕ → Leaf
  -- `fun f/2`: its place and its arity
  making_local : ℕ → ℕ → Leaf
  -- `fun m:f/2`: module, name and arity
  making_remote : List ℕ → List ℕ → ℕ → Leaf
  -- `catch E`, which isn't opened
  catching : Exp → Leaf
  -- `try .. end`, which isn't opened
  trying : Seq → Clauses → Catches → After → Leaf
  -- a `try` whose outcome is this exception, and whose `after` is still to come
  failed : Class → Datum → Seq → Leaf
  -- a comprehension that isn't opened
  comprehension : Exp → Qualifiers → Leaf
  -- an opened comprehension with no qualifier left: the element's expression
  collecting : Exp → Leaf
  -- a generator, and what is left of its list
  drawing : Drawing → Datum → Leaf
  -- what acts on a mailbox, which doesn't come yet: it stays as it is
  missing : ActKind → Leaf

-- What waits for the value of one part.
pub data Frame : Type 0 where
  -- a sequence whose first expression is begun: that one's line, and what follows it
  sequence : ℕ → Exps → Frame
  -- `P = _`
  match : Pat → Frame
  -- `case _ of .. end`
  select : Clauses → Frame
  -- `_ andalso E`
  and_then : Exp → Frame
  -- `_ orelse E`
  or_then : Exp → Frame
  -- `[E || P <- _, ..]`: the pattern, the element's expression, and the qualifiers behind
  generate : Pat → Exp → Qualifiers → Frame
  -- `[E || _, ..]`: the element's expression, and the qualifiers behind
  filter : Exp → Qualifiers → Frame
  -- a generator round the part that its current element gives, and what is left of its list behind that element
  gather : Drawing → Datum → Frame
  -- a scope with bindings of its own
  scope : Pairs → Frame
  -- an opened `catch`, and the bindings that it keeps
  caught : Pairs → Frame
  -- an opened `try`: the bindings that it keeps, the clauses behind `of` and those behind `catch`
  tried : Pairs → Clauses → Catches → Frame
  -- an `after` that waits for the outcome of its `try`: the bindings that it keeps, and its sequence
  waiting : Pairs → Seq → Frame
  -- the sequence of an `after` runs, and then this is the outcome again
  resume : Outcome → Frame

-- A running expression: a value; an exception; what has nothing evaluated in it; operands that are evaluated from left
-- to right; a frame round what it waits for; a Body.
mutual
  pub data Run : Type 0 where
    value : Datum → Run
    raised : Class → Datum → Run
    leaf : Leaf → Run
    node : Doing → Runs → Run
    around : Frame → Run → Run
    body : Info → Run → Run

  pub data Runs : Type 0 where
    none : Runs
    more : Run → Runs → Runs

-- how many patterns the clauses of a fun have, which is the same for each
abbrev pub arity_of : Clauses → ℕ
arity_of syntax.no_clauses = 0
arity_of (syntax.more_clauses (syntax.clause ps g s) cs) = pats_count ps

-- an operation on operands; a send doesn't come yet
abbrev pub done_with : Operation → Runs → Run
done_with operation.Send ts = leaf (missing act.Send)
done_with o ts = node (written o) ts

-- An expression of the syntax before any of it is evaluated. An integer, a character or an atom is a value. A float is
-- refused wherever it stands, so what it would be doesn't matter.
abbrev mutual
  pub running : Exp → Run
  running (syntax.int l i) = value (term.int i)
  running (syntax.atom l a) = value (term.atom a)
  running (syntax.string l s) = leaf (string s)
  running (syntax.float l) = value term.nil
  running (syntax.variable l x) = leaf (variable x)
  running (syntax.apply l o es) = done_with o (all_running es)
  running (syntax.and_also l a b) = around (and_then b) (running a)
  running (syntax.or_else l a b) = around (or_then b) (running a)
  running (syntax.match l p e) = around (match p) (running e)
  running (syntax.catch l e) = leaf (catching e)
  running (syntax.begin l s) = leaf (unbegun s)
  running (syntax.case l e cs) = around (select cs) (running e)
  running (syntax.if_clauses l cs) = leaf (conditions cs)
  running (syntax.receive l cs) = leaf (missing act.Receive)
  running (syntax.receive_after l cs e s) = leaf (missing act.Receive)
  running (syntax.try l s cs hs a) = leaf (trying s cs hs a)
  running (syntax.fun_clauses l i cs) = leaf (making i (arity_of cs))
  running (syntax.fun_local l i f n) = leaf (making_local i n)
  running (syntax.fun_remote l m f n) = leaf (making_remote m f n)
  running (syntax.comprehension l e qs) = leaf (comprehension e qs)

  pub all_running : Exps → Runs
  all_running syntax.none = none
  all_running (syntax.more e es) = more (running e) (all_running es)

-- operands that are values
abbrev pub all_values : List Datum → Runs
all_values [] = none
all_values (v ∷ vs) = more (value v) (all_values vs)

-- the call by which a process begins
abbrev pub opening_call : List ℕ → List ℕ → List Datum → Run
opening_call m f args = node (written operation.RemoteCall) (all_values (term.atom m ∷ term.atom f ∷ args))

-- the value that an expression is, where it is one
abbrev pub value_of : Run → Option Datum
value_of (value v) = Some v
value_of _ = None

-- the values that operands are, where all of them are values
abbrev pub values_of : Runs → Option (List Datum)
values_of none = Some []
values_of (more t ts) = both (value_of t) (values_of ts)
  where
    both : Option Datum → Option (List Datum) → Option (List Datum)
    both (Some v) (Some vs) = Some (v ∷ vs)
    both _ _ = None
