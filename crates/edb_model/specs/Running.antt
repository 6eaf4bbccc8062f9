-- Running expressions: the syntax tree of what a process still has to do, with values in place of what
-- was evaluated, and a Body in place of each call that was entered.

use Rattle.std.specs.Prelude.{ℕ, Bool, true, false, List, [], ◌∷◌, Option, None, Some}
use Rattle.edb_lang.specs.declared.small.Op.{Op}
use Rattle.edb_lang.specs.declared.small.Class.{Class}
use Rattle.edb_lang.specs.Terms as term
use Rattle.edb_lang.specs.Terms.{Datum}
use Rattle.edb_lang.specs.Pairs.{Pairs}
use Rattle.edb_lang.specs.Syntax as syntax
use Rattle.edb_lang.specs.Syntax.{Pat, Exp, Exps, FunctionTree, line_of}

-- What is done with operands once all of them are values: an operator, a call of a function of the
-- module itself, or a call whose first two operands are the module and the name.
pub data Operation : Type 0 where
  operate : Op → Operation
  local_call : List ℕ → Operation
  remote_call : Operation

-- What a Body says of the call that it stands for: module, version, name, arity, level and bindings.
pub record Info : Type 0 where
  pub home : List ℕ
  pub version : ℕ
  pub name : List ℕ
  pub arity : ℕ
  pub level : ℕ
  pub bindings : Pairs

-- A running expression: a value; a variable; operands that are evaluated left to right; a match; a
-- sequence (is its first expression begun, that one's line, the first expression, the others); a Body;
-- an exception.
mutual
  pub data Run : Type 0 where
    value : Datum → Run
    variable : List ℕ → Run
    node : Operation → Runs → Run
    match : Pat → Run → Run
    sequence : Bool → ℕ → Run → Exps → Run
    body : Info → Run → Run
    raised : Class → Datum → Run

  pub data Runs : Type 0 where
    none : Runs
    more : Run → Runs → Runs

-- an expression of the syntax before any of it is evaluated; a literal is a value
abbrev mutual
  pub running : Exp → Run
  running (syntax.int l i) = value (term.int i)
  running (syntax.atom l a) = value (term.atom a)
  running (syntax.variable l x) = variable x
  running (syntax.match l p e) = match p (running e)
  running (syntax.binary l o a b) = node (operate o) (more (running a) (more (running b) none))
  running (syntax.call l f es) = node (local_call f) (all_running es)
  running (syntax.remote l m f es) = node remote_call (more (running m) (more (running f) (all_running es)))

  pub all_running : Exps → Runs
  all_running syntax.none = none
  all_running (syntax.more e es) = more (running e) (all_running es)

-- operands that are values
abbrev pub all_values : List Datum → Runs
all_values [] = none
all_values (v ∷ vs) = more (value v) (all_values vs)

-- a sequence of which nothing is begun
abbrev pub unbegun : Exp → Exps → Run
unbegun e es = sequence false (line_of e) (running e) es

-- the call by which a process begins
abbrev pub opening_call : List ℕ → List ℕ → List Datum → Run
opening_call m f args = node remote_call (more (value (term.atom m)) (more (value (term.atom f)) (all_values args)))

-- the value that an expression is, where it is one
abbrev pub value_of : Run → Option Datum
value_of (value v) = Some v
value_of _ = None

-- the values that operands are, where all of them are values
abbrev pub values_of : Runs → Option (List Datum)
values_of none = Some []
values_of (more t ts) = both (value_of t) (values_of ts)
  where
    both : Option Datum → Option (List Datum) → Option (List Datum)
    both (Some v) (Some vs) = Some (v ∷ vs)
    both _ _ = None
