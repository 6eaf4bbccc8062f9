use Rattle.std.proofs.Common.{◌≡◌, ◌∙◌, sym, ap}
use Rattle.edb_model.specs.Move.{answered}
use Rattle.edb_eval.specs.Tree.{info_of}
use Rattle.edb_eval.specs.Stands.{stands_for, state_tree}
use Rattle.edb_eval.proofs.LevelLaws.{highest-answered}
use Rattle.edb_eval.proofs.Stays.{answers, answered_outside}
use Rattle.edb_eval.proofs.machine.Machine.answer.Goals as goal

pub returns-in_ok-reach-in-Running-clause-ok : goal.returns-in_ok-reach-in-Running-clause-ok
returns-in_ok-reach-in-Running-clause-ok c =
    let r = c.reach.new.self in
    rw c.settle.ensures
    (answers (stands_for c.args.self.now) r.frames (info_of r.here) r.focus c.args.value c.give-outcome.new.self c.give-outcome.result (c.reach.ensures.tree ∙ sym (ap state_tree c.in-Running.is)) c.in_ok-reach-in-Running.ensures.ok c.give-outcome.ensures)

pub returns-in_ok-reach-in-Running-clause-levels : goal.returns-in_ok-reach-in-Running-clause-levels
returns-in_ok-reach-in-Running-clause-levels c =
    let r = c.reach.new.self in
    let ok : stands_for c.settle.new.self ≡ answered c.args.value (stands_for c.args.self.now) =
    rw c.settle.ensures
    (answers (stands_for c.args.self.now) r.frames (info_of r.here) r.focus c.args.value c.give-outcome.new.self c.give-outcome.result (c.reach.ensures.tree ∙ sym (ap state_tree c.in-Running.is)) c.in_ok-reach-in-Running.ensures.ok c.give-outcome.ensures) in
    rw ok (highest-answered c.args.value (stands_for c.args.self.now))

pub returns-in_default : goal.returns-in_default
returns-in_default c =
    let ok : stands_for c.turn_into.new.self ≡ answered c.args.value (stands_for c.args.self.now) =
    rw c.turn_into.ensures (answered_outside c.args.self.now.state c.args.value (λ r e. c.in_default.not-Running r e)) in
    record { ok = ok; err = tt; levels = rw ok (highest-answered c.args.value (stands_for c.args.self.now)) }
