-- Which operations a machine doesn't run yet: a send, and a call that names an act on what processes share, but for what prints.
--
-- Only what is written out counts. A name that has to be computed, and what a fun or `apply` comes to, aren't looked at: such
-- a call raises `undef` where it comes to name such an act.

use Rattle.std.specs.Prelude.{ℕ, Bool, true, false, not, ◌&&◌, List, codes, is_some}
use Rattle.edb_table.specs.BuiltIns.{BuiltIn}
use Rattle.edb_table.specs.Marking.{is_auto, is_shared}
use Rattle.edb_syntax.specs.declared.operation.Operation.{Operation}
use Rattle.edb_syntax.specs.declared.operation.Operation.TheVariants as operation
use Rattle.edb_syntax.specs.Syntax.{Exp, Exps, ModuleTree, atom, more, count}
use Rattle.edb_syntax.specs.Lookup.{function_in}
use Rattle.edb_moves.specs.Next.{prints}

-- a built-in that isn't run yet; what is no built-in is none of these
abbrev pub built_in_is_beyond : BuiltIn → Bool
built_in_is_beyond asked = is_shared asked && not (prints asked)

-- A call without a module, by its name and how many arguments it has. A function of the module goes before a built-in
-- of that name and arity, and the built-in has to be one that is called so.
abbrev pub local_call_is_beyond : ModuleTree → List ℕ → ℕ → Bool
local_call_is_beyond x f n =
    not (is_some (function_in x.functions f n))
    && (is_auto (codes "erlang", (f, n)) && built_in_is_beyond (codes "erlang", (f, n)))

-- A call with a module, by its first two operands and how many arguments follow them, where both are written as atoms.
abbrev pub call_is_beyond : Exp → Exp → ℕ → Bool
call_is_beyond (atom l m) (atom k f) n = built_in_is_beyond (m, (f, n))
call_is_beyond m f n = false

-- the same by all its operands; fewer than two make no call
abbrev pub remote_call_is_beyond : Exps → Bool
remote_call_is_beyond (more m (more f es)) = call_is_beyond m f (count es)
remote_call_is_beyond es = false

-- an operation, whatever its operands are
abbrev pub operation_is_beyond : ModuleTree → Operation → Exps → Bool
operation_is_beyond x operation.Tuple es = false
operation_is_beyond x operation.List es = false
operation_is_beyond x operation.ListWithTail es = false
operation_is_beyond x (operation.Unary o) es = false
operation_is_beyond x (operation.Binary o) es = false
operation_is_beyond x operation.Send es = true
operation_is_beyond x (operation.LocalCall f) es = local_call_is_beyond x f (count es)
operation_is_beyond x operation.RemoteCall es = remote_call_is_beyond es
operation_is_beyond x operation.FunCall es = false
