use Rattle.std.proofs.Common.{◌∙◌, refl, ap, sym}
use Rattle.edb_model.specs.Running.{Run, opening_call}
use Rattle.edb_model.specs.Lookup.{first_versions}
use Rattle.edb_model.specs.Move.{settled, outside}
use Rattle.edb_eval.specs.Calls.{called_effect}
use Rattle.edb_eval.proofs.Stays.{opening_moved}
use Rattle.edb_eval.proofs.machine.opened.Goals as goal

pub returns-in-Enters : goal.returns-in-Enters
returns-in-Enters c =
    let a = c.args in
    let t : Run = opening_call a.«module».now a.name.now a.args.now in
    rw c.new.ensures
    (ap (λ x. settled t (called_effect outside x)) (sym c.in-Enters.is)
    ∙ ap (settled t) (c.in_ok-entry.ensures outside refl refl)
    ∙ sym (opening_moved a.code.now (first_versions a.code.now) a.«module».now a.name.now a.args.now))

pub returns-in-Fails : goal.returns-in-Fails
returns-in-Fails c =
    let a = c.args in
    let t : Run = opening_call a.«module».now a.name.now a.args.now in
    ap (λ x. settled t (called_effect outside x)) (sym c.in-Fails.is)
    ∙ ap (settled t) (c.in_ok-entry.ensures outside refl refl)
    ∙ sym (opening_moved a.code.now (first_versions a.code.now) a.«module».now a.name.now a.args.now)
