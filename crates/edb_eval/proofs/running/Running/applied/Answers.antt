use Rattle.std.proofs.Common.{◌≡◌, ◌∙◌}
use Rattle.edb_model.specs.Lookup.{first_versions}
use Rattle.edb_model.specs.Move.{applied}
use Rattle.edb_eval.specs.Tree.{info_of, operation_of}
use Rattle.edb_eval.specs.Places.{place_of}
use Rattle.edb_eval.specs.Calls.{called_effect}
use Rattle.edb_eval.proofs.Heart.{place-level}
use Rattle.edb_eval.proofs.Moves.{version_here, home_here}
use Rattle.edb_eval.proofs.running.Running.applied.Goals as goal

pub returns-in_ok-called-in-Local : goal.returns-in_ok-called-in-Local
returns-in_ok-called-in-Local c =
    let s = c.args.self.now in
    let code = c.args.code.now in
    let same : called_effect (place_of s) c.in_ok-called-in-Local.called ≡ applied code (first_versions code) (place_of s) (operation_of c.args.operation) c.args.values.now =
    c.in_ok-called-in-Local.ensures (place_of s) (place-level s.frames (info_of s.here)) (version_here s.frames (info_of s.here))
    ∙ rw (c.in-Local.is, home_here s.frames (info_of s.here)) in
    rw (← same) c.placed.ensures
