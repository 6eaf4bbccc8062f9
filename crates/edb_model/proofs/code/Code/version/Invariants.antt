use Rattle.std.proofs.Common.{◌≡◌, drop}
use Rattle.edb_model.specs.Lookup.{version_in}
use Rattle.edb_model.proofs.code.Code.version.Given as goal

-- what is left holds the version that the whole does
abbrev pub invariant-loop-checked : goal.invariant-loop-checked
invariant-loop-checked l =
    version_in (drop l.checked-index l.checked-items) l.name l.left ≡ version_in l.checked-items l.name l.fn.version
