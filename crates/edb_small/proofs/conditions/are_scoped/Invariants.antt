use Rattle.std.proofs.Common.{◌≡◌, drop}
use Rattle.edb_lang.specs.Syntax.{exps_of, more}
use Rattle.edb_small.specs.Conditions.{are_scoped}
use Rattle.edb_small.proofs.conditions.are_scoped.Given as goal

-- the lines that are left pass where all do
abbrev pub invariant-loop-line : goal.invariant-loop-line
invariant-loop-line l = are_scoped l.scope (exps_of (drop l.line-index l.rest)) ≡ are_scoped l.fn.scope (more l.first (exps_of l.rest))
