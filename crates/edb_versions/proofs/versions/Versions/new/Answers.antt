use Rattle.std.proofs.Common.{◌∙◌, List, map, ap, arith}
use Rattle.std.proofs.lemmas.List.{take_all}
use Rattle.edb_check.specs.declared.checked.Checked.{Checked}
use Rattle.edb_syntax.specs.Lookup.{first_versions}
use Rattle.edb_versions.proofs.Beside.{firsts_of_checked}
use Rattle.edb_versions.proofs.versions.Versions.new.Goals as goal

pub returns : goal.returns
returns c =
    c.loop-checked.invariant
    ∙ ap (λ (xs : List Checked). map (λ x. (x.«module».name, 1)) xs) (take_all _ _ (omega arith))
    ∙ firsts_of_checked c.modules-checked-items.result.now
    ∙ ap first_versions c.modules-checked-items.ensures
