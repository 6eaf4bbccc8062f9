-- The innermost Body of a running expression: of the Bodies in it, which stand one within the other, the last.

use Rattle.std.specs.Prelude.{ℕ, Option, None, Some}
use Rattle.edb_model.specs.Running.{Info, Run, value, variable, node, match, sequence, body, raised, Runs, none, more}

-- the first, where there is one, and else the second
abbrev pub or_else : {A : Type 0} → Option A → Option A → Option A
or_else (Some a) other = Some a
or_else None other = other

abbrev mutual
  pub innermost : Run → Option Info
  innermost (value v) = None
  innermost (variable x) = None
  innermost (node o ts) = innermost_of ts
  innermost (match q t) = innermost t
  innermost (sequence b l t es) = innermost t
  innermost (body i t) = or_else (innermost t) (Some i)
  innermost (raised c v) = None

  pub innermost_of : Runs → Option Info
  innermost_of none = None
  innermost_of (more t ts) = or_else (innermost t) (innermost_of ts)
