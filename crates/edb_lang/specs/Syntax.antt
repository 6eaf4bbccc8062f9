-- The syntax of a module, as plain trees; the number in a node is the line of its first token.

use Rattle.std.specs.Prelude.{ℕ, ℤ, ◌+◌, List, [], ◌∷◌}
use Rattle.edb_lang.specs.declared.small.Op.{Op}
use Rattle.edb_lang.specs.declared.syntax.FunctionName.{FunctionName}

-- a pattern: a variable
pub data Pat : Type 0 where
  variable : ℕ → List ℕ → Pat

-- An expression: an integer, an atom, a variable, a match, an operator with its two operands, a call of
-- a function of the module itself, or a call of a function of the named module.
mutual
  pub data Exp : Type 0 where
    int : ℕ → ℤ → Exp
    atom : ℕ → List ℕ → Exp
    variable : ℕ → List ℕ → Exp
    match : ℕ → Pat → Exp → Exp
    binary : ℕ → Op → Exp → Exp → Exp
    call : ℕ → List ℕ → Exps → Exp
    remote : ℕ → Exp → Exp → Exps → Exp

  pub data Exps : Type 0 where
    none : Exps
    more : Exp → Exps → Exps

-- A function: its name, one parameter a place, and its body, which has a first expression.
pub record FunctionTree : Type 0 where
  pub name : List ℕ
  pub parameters : List Pat
  pub first : Exp
  pub rest : Exps

-- A module: its name, what it exports (each a name and an arity), and its functions.
pub record ModuleTree : Type 0 where
  pub name : List ℕ
  pub exports : List FunctionName
  pub functions : List FunctionTree

-- the line of an expression
abbrev pub line_of : Exp → ℕ
line_of (int l i) = l
line_of (atom l a) = l
line_of (variable l x) = l
line_of (match l p e) = l
line_of (binary l o a b) = l
line_of (call l f es) = l
line_of (remote l m f es) = l

-- the expressions, one behind the other
abbrev pub exps_of : List Exp → Exps
exps_of [] = none
exps_of (e ∷ es) = more e (exps_of es)

-- how many nodes a tree has, which measures recursions
abbrev mutual
  pub nodes : Exp → ℕ
  nodes (int l i) = 1
  nodes (atom l a) = 1
  nodes (variable l x) = 1
  nodes (match l p e) = nodes e + 1
  nodes (binary l o a b) = (nodes a + nodes b) + 1
  nodes (call l f es) = all_nodes es + 1
  nodes (remote l m f es) = ((nodes m + nodes f) + all_nodes es) + 1

  pub all_nodes : Exps → ℕ
  all_nodes none = 0
  all_nodes (more e es) = nodes e + all_nodes es
