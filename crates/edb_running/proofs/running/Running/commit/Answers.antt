use Rattle.std.proofs.Common.{ap, sym, subst, ◌∙◌}
use Rattle.edb_moves.specs.Running.{value}
use Rattle.edb_moves.specs.Going.{turns}
use Rattle.edb_stack.specs.Places.{place, out}
use Rattle.edb_stack.specs.Redexes.{value_in}
use Rattle.edb_stack.proofs.OpenLayers.{all_open}
use Rattle.edb_stack.proofs.Turned.{place_bindings}
use Rattle.edb_path.specs.Plans.{effect}
use Rattle.edb_path.specs.declared.plan.Plan.TheVariants as plan
use Rattle.edb_running.specs.Standing.{layers_in, info_in, pairs_in}
use Rattle.edb_running.specs.Rising.{next_code, IsNext}
use Rattle.edb_running.specs.Vacant.{HasWay, code_behind, round_hole, hole_in, filling}
use Rattle.edb_running.specs.declared.running.Running.{Running}
use Rattle.edb_running.proofs.CommitLaws.{in_hole}
use Rattle.edb_running.proofs.running.Running.commit.Goals as goal

pub returns-in-Gives-clause-effect : goal.returns-in-Gives-clause-effect
returns-in-Gives-clause-effect c = λ p.
    let s : Running = c.vacate-item.new.self in
    c.give.ensures.effect p
    ∙ ap (λ bs. out p (layers_in s) (info_in s) (turns bs (value (value_in bs c.in-Gives.value)))) (sym (place_bindings p (layers_in s) (info_in s) (all_open s.layers.0)))
    ∙ in_hole p c.args.self.now s (value_in (pairs_in s) c.vacate-item.result) (plan.Gives c.in-Gives.value) c.vacate-item.ensures.layers c.vacate-item.ensures.info c.vacate-item.ensures.value
    ∙ ap (λ a. out p (round_hole c.args.self.now) (hole_in c.args.self.now) (effect (place p (round_hole c.args.self.now) (hole_in c.args.self.now)) (filling c.args.self.now) a)) (sym c.in-Gives.is)

pub returns-in-Turns-clause-effect : goal.returns-in-Turns-clause-effect
returns-in-Turns-clause-effect c = λ p.
    let s : Running = c.vacate-item.new.self in
    c.turn.ensures.effect p (value_in (pairs_in s) c.vacate-item.result)
    ∙ in_hole p c.args.self.now s (value_in (pairs_in s) c.vacate-item.result) (plan.Turns c.in-Turns.pairs c.in-Turns.path) c.vacate-item.ensures.layers c.vacate-item.ensures.info c.vacate-item.ensures.value
    ∙ ap (λ a. out p (round_hole c.args.self.now) (hole_in c.args.self.now) (effect (place p (round_hole c.args.self.now) (hole_in c.args.self.now)) (filling c.args.self.now) a)) (sym c.in-Turns.is)

pub returns-in-Enters-clause-effect : goal.returns-in-Enters-clause-effect
returns-in-Enters-clause-effect c = λ p.
    let s : Running = c.vacate-item.new.self in
    c.enter.ensures.effect p (value_in (pairs_in s) c.vacate-item.result)
    ∙ in_hole p c.args.self.now s (value_in (pairs_in s) c.vacate-item.result) (plan.Enters c.in-Enters.body c.in-Enters.sequence) c.vacate-item.ensures.layers c.vacate-item.ensures.info c.vacate-item.ensures.value
    ∙ ap (λ a. out p (round_hole c.args.self.now) (hole_in c.args.self.now) (effect (place p (round_hole c.args.self.now) (hole_in c.args.self.now)) (filling c.args.self.now) a)) (sym c.in-Enters.is)

pub returns-in-Replaces-clause-effect : goal.returns-in-Replaces-clause-effect
returns-in-Replaces-clause-effect c = λ p.
    let s : Running = c.vacate-item.new.self in
    c.replace.ensures.effect p (value_in (pairs_in s) c.vacate-item.result)
    ∙ in_hole p c.args.self.now s (value_in (pairs_in s) c.vacate-item.result) (plan.Replaces c.in-Replaces.body c.in-Replaces.sequence) c.vacate-item.ensures.layers c.vacate-item.ensures.info c.vacate-item.ensures.value
    ∙ ap (λ a. out p (round_hole c.args.self.now) (hole_in c.args.self.now) (effect (place p (round_hole c.args.self.now) (hole_in c.args.self.now)) (filling c.args.self.now) a)) (sym c.in-Replaces.is)

pub give-requires-clause-next : goal.give-requires-clause-next
give-requires-clause-next c =
    subst (λ ls. IsNext c.args.next (next_code ls)) (sym c.vacate-item.ensures.layers)
    (subst (λ a. HasWay a c.args.next (next_code (code_behind c.args.self.now.layers.0 c.args.self.now.redex))) c.in-Gives.is c.requires.next)

pub pass-requires-clause-next : goal.pass-requires-clause-next
pass-requires-clause-next c =
    subst (λ ls. IsNext c.args.next (next_code ls)) (sym c.vacate-item.ensures.layers)
    (subst (λ a. HasWay a c.args.next (next_code (code_behind c.args.self.now.layers.0 c.args.self.now.redex))) c.in-Passes.is c.requires.next)
