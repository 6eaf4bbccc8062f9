use Rattle.std.proofs.Common.{◌≡◌, ◌∙◌, sym, ap}
use Rattle.edb_model.specs.Running.{remote_call}
use Rattle.edb_model.specs.Lookup.{first_versions}
use Rattle.edb_model.specs.Move.{applied}
use Rattle.edb_eval.specs.Tree.{info_of}
use Rattle.edb_eval.specs.Places.{place_of}
use Rattle.edb_eval.specs.Calls.{called_effect}
use Rattle.edb_eval.proofs.Heart.{place-level}
use Rattle.edb_eval.proofs.running.Running.remote.Goals as goal

pub returns-in_ok-called-in-Some : goal.returns-in_ok-called-in-Some
returns-in_ok-called-in-Some c =
    let s = c.args.self.now in
    let code = c.args.code.now in
    let same : called_effect (place_of s) c.in_ok-called-in-Some.called ≡ applied code (first_versions code) (place_of s) remote_call c.args.values.now =
    c.in_ok-called-in-Some.ensures (place_of s) (place-level s.frames (info_of s.here)) (sym c.version_of.ensures)
    ∙ ap (applied code (first_versions code) (place_of s) remote_call) (sym c.in-Some.ensures) in
    rw (← same) c.placed.ensures
