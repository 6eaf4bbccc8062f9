-- The forms of expressions that are an operation on operands, each by its own name.

use Rattle.std.specs.Prelude.{ℕ}
use Rattle.edb_lang.specs.declared.operators.UnaryOp.{UnaryOp}
use Rattle.edb_lang.specs.declared.operators.BinaryOp.{BinaryOp}
use Rattle.edb_syntax.specs.declared.operation.Operation.TheVariants as operation
use Rattle.edb_syntax.specs.Syntax.{Exp, Exps, atom, apply, none, more}

-- `{A, B}`
abbrev pub tuple : ℕ → Exps → Exp
tuple l es = apply l operation.Tuple es

-- `[A, B]`
abbrev pub list : ℕ → Exps → Exp
list l es = apply l operation.List es

-- expressions with one more behind them
abbrev pub with_last : Exps → Exp → Exps
with_last none t = more t none
with_last (more e es) t = more e (with_last es t)

-- `[A, B | T]`: the tail is the last operand
abbrev pub list_with_tail : ℕ → Exps → Exp → Exp
list_with_tail l es t = apply l operation.ListWithTail (with_last es t)

-- an operator before its operand
abbrev pub unary : ℕ → UnaryOp → Exp → Exp
unary l o e = apply l (operation.Unary o) (more e none)

-- an operator between its operands
abbrev pub binary : ℕ → BinaryOp → Exp → Exp → Exp
binary l o a b = apply l (operation.Binary o) (more a (more b none))

-- `P ! M`
abbrev pub send : ℕ → Exp → Exp → Exp
send l p m = apply l operation.Send (more p (more m none))

-- `M:F(A, B)`: the module and the name are the first operands
abbrev pub remote_call : ℕ → Exp → Exp → Exps → Exp
remote_call l m f es = apply l operation.RemoteCall (more m (more f es))

-- `E(A, B)`: the call of a function of the module itself, or of a built-in, where E is an atom, also one in
-- parentheses; else of a fun, which is the first operand
abbrev pub call : ℕ → Exp → Exps → Exp
call l (atom k f) es = apply l (operation.LocalCall f) es
call l e es = apply l operation.FunCall (more e es)
