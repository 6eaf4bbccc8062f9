use Rattle.std.proofs.Common.{◌≡◌, drop}
use Rattle.std.specs.List.{list_all}
use Rattle.edb_small.specs.Conditions.{has_function}
use Rattle.edb_small.proofs.conditions.exports_pass.Given as goal

-- the exports that are left are defined where all are
abbrev pub invariant-loop-export : goal.invariant-loop-export
invariant-loop-export l =
    list_all (λ e. has_function l.«module».functions e.name e.arity) (drop l.export-index l.export-items) ≡ list_all (λ e. has_function l.«module».functions e.name e.arity) l.export-items
