use Rattle.std.proofs.Common.{◌≡◌, ◌≤◌, ◌+◌, drop, map}
use Rattle.edb_syntax.specs.Lookup.{versions_in}
use Rattle.edb_check.proofs.code.Code.versions.Given as goal

-- those counted and those that are left are all
abbrev pub invariant-loop-checked : goal.invariant-loop-checked
invariant-loop-checked l =
    (l.count + versions_in (map (λ x. x.«module») (drop l.checked-index l.checked-items)) l.name ≡ versions_in (map (λ x. x.«module») l.checked-items) l.name)
    × (l.count ≤ l.checked-index)
