-- The greatest level of the Bodies of a running expression.

use Rattle.std.specs.Prelude.{ℕ, max}
use Rattle.edb_model.specs.Running.{Run, Runs, value, variable, node, match, sequence, body, raised, none, more}

-- 0 where there is no Body
abbrev mutual
  pub highest : Run → ℕ
  highest (value v) = 0
  highest (variable x) = 0
  highest (node o ts) = all_highest ts
  highest (match q t) = highest t
  highest (sequence b l t es) = highest t
  highest (body i t) = max i.level (highest t)
  highest (raised c v) = 0

  pub all_highest : Runs → ℕ
  all_highest none = 0
  all_highest (more t ts) = max (highest t) (all_highest ts)
