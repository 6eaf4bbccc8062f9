use Rattle.std.proofs.Common.{◌≡◌, ◌≤◌, ◌+◌, drop}
use Rattle.edb_model.specs.Lookup.{versions_in}
use Rattle.edb_model.proofs.code.Code.versions.Given as goal

-- those counted and those that are left are all
abbrev pub invariant-loop-checked : goal.invariant-loop-checked
invariant-loop-checked l =
    (l.count + versions_in (drop l.checked-index l.checked-items) l.name ≡ versions_in l.checked-items l.name)
    × (l.count ≤ l.checked-index)
