use Rattle.std.proofs.Common.{◌≡◌, ap, arith}
use Rattle.edb_model.specs.Lookup.{first_versions}
use Rattle.edb_model.specs.Move.{moved}
use Rattle.edb_eval.specs.Tree.{info_of, focus_tree, tree}
use Rattle.edb_eval.specs.Stands.{stands_for, state_tree}
use Rattle.edb_eval.specs.Levels.{highest}
use Rattle.edb_eval.proofs.LevelLaws.{level_le, highest-moved}
use Rattle.edb_eval.proofs.Stays.{moves, moved-value, moved-raised}
use Rattle.edb_eval.proofs.machine.Machine.step.Goals as goal

pub advance-requires : goal.advance-requires
advance-requires c =
    let r = c.in-Running.running in
    let same : highest (stands_for c.args.self.now) ≡ highest (tree r) = ap (λ s. highest (state_tree s)) c.in-Running.is in
    omega (arith, level_le r.frames (info_of r.here) (focus_tree r.focus), same, c.requires.room)

pub returns-in_ok-state-in-Opening-clause-levels : goal.returns-in_ok-state-in-Opening-clause-levels
returns-in_ok-state-in-Opening-clause-levels c =
    let code = c.args.code.now in
    let ok : stands_for c.turn_into.new.self ≡ moved code (first_versions code) (stands_for c.args.self.now) =
    rw (c.turn_into.ensures, c.in-Opening.is, ← c.as_slice.ensures) c.in_ok-state-in-Opening.ensures in
    rw ok (highest-moved code (first_versions code) (stands_for c.args.self.now))

pub returns-in_ok-outcome-in-Running-clause-ok : goal.returns-in_ok-outcome-in-Running-clause-ok
returns-in_ok-outcome-in-Running-clause-ok c =
    rw (c.settle.ensures, c.in-Running.is)
    (moves c.args.code.now (tree c.in-Running.running) c.advance.new.self c.in_ok-outcome-in-Running.outcome c.in_ok-outcome-in-Running.ensures.ok)

pub returns-in_ok-outcome-in-Running-clause-levels : goal.returns-in_ok-outcome-in-Running-clause-levels
returns-in_ok-outcome-in-Running-clause-levels c =
    let code = c.args.code.now in
    let ok : stands_for c.settle.new.self ≡ moved code (first_versions code) (stands_for c.args.self.now) =
    rw (c.settle.ensures, c.in-Running.is)
    (moves code (tree c.in-Running.running) c.advance.new.self c.in_ok-outcome-in-Running.outcome c.in_ok-outcome-in-Running.ensures.ok) in
    rw ok (highest-moved code (first_versions code) (stands_for c.args.self.now))

pub returns-in-Value-clause-ok : goal.returns-in-Value-clause-ok
returns-in-Value-clause-ok c =
    rw c.in-Value.is (moved-value c.args.code.now (first_versions c.args.code.now) c.in-Value.field-0)

pub returns-in-Raised-clause-ok : goal.returns-in-Raised-clause-ok
returns-in-Raised-clause-ok c =
    rw c.in-Raised.is (moved-raised c.args.code.now (first_versions c.args.code.now) c.in-Raised.class c.in-Raised.reason)
