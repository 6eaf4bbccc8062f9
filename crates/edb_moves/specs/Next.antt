-- What is next: what stands at the redex of an expression, and of which kind it is.

use Rattle.std.specs.Prelude.{ℕ, Bool, true, false, if◌then◌else◌, ◌||◌, List, [], ◌∷◌, length, codes}
use Rattle.edb_lang.specs.declared.act.ActKind.{ActKind}
use Rattle.edb_lang.specs.declared.act.ActKind.TheVariants as act
use Rattle.edb_lang.specs.Terms as term
use Rattle.edb_table.specs.BuiltIns.{BuiltIn, same_built_in}
use Rattle.edb_syntax.specs.declared.operation.Operation.TheVariants as operation
use Rattle.edb_syntax.specs.Syntax as syntax
use Rattle.edb_syntax.specs.Syntax.{ModuleTree, line_of}
use Rattle.edb_moves.specs.Running.{written, unbegun, missing, Run}
use Rattle.edb_moves.specs.Going.{Place, outside, Redex, at, apply, finished, Effect, tells, go}

-- An expression of a sequence is begun, of this module and at this line; a shared act; another move.
pub data Next : Type 0 where
  begins : List ℕ → ℕ → Next
  acts : ActKind → Next
  pure : Next

-- the built-ins that print
abbrev pub prints : BuiltIn → Bool
prints key =
    same_built_in key (codes "erlang", (codes "display", 1))
    || (same_built_in key (codes "io", (codes "format", 1)) || same_built_in key (codes "io", (codes "format", 2)))

-- the name of the module of the innermost Body
abbrev pub home_name : List (ModuleTree × ℕ) → List ℕ
home_name [] = []
home_name (b ∷ bs) = b.0.name

-- What prints is called with its module. An act on a mailbox doesn't come yet, but is no move either. Where the whole
-- expression is a value or an exception, the process ends.
abbrev pub next_at : Place → Redex → Next
next_at p (at (unbegun (syntax.sequence e es))) = begins (home_name p.bodies) (line_of e)
next_at p (at (missing k)) = acts k
next_at p (apply (written operation.RemoteCall) (term.atom m ∷ term.atom f ∷ vs)) = if prints (m, (f, length vs)) then acts act.Print else pure
next_at p (apply (written operation.Send) vs) = acts act.Send
next_at p finished = acts act.End
next_at p _ = pure

-- what a walk that only tells comes back with
abbrev pub told : Place → Effect Run → Place × Redex
told outer (tells p r) = (p, r)
told outer _ = (outer, finished)

-- the redex of the expression of process `me`, with its place
unfoldable pub redex : ℕ → Run → Place × Redex
redex me t = told (outside me) (go tells (outside me) t)

-- Which process it is makes no difference to what is next.
unfoldable pub next : Run → Next
next t = next_at (redex 0 t).0 (redex 0 t).1

-- whether a pure move is next
abbrev pub is_move : Next → Bool
is_move (acts k) = false
is_move _ = true
