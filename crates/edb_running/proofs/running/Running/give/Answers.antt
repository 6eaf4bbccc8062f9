use Rattle.std.proofs.Common.{◌≡◌, ◌-◌, ◌∷◌, [], length, ap, sym, subst, ◌∙◌, arith}
use Rattle.edb_lang.specs.Terms.{Datum}
use Rattle.edb_moves.specs.Running.{value}
use Rattle.edb_moves.specs.Going.{turns}
use Rattle.edb_stack.specs.Places.{out}
use Rattle.edb_stack.specs.Views.{layers_of, info_of}
use Rattle.edb_stack.specs.Redexes.{value_in}
use Rattle.edb_stack.specs.declared.layer.Layer.TheVariants as layers
use Rattle.edb_stack.proofs.OpenLayers.{all_open}
use Rattle.edb_stack.specs.declared.body.Body.{Body}
use Rattle.edb_running.specs.declared.running.Running.{Running}
use Rattle.edb_running.specs.Standing.{layers_in, info_in, pairs_in}
use Rattle.edb_running.specs.Rising.{next_code, IsNext}
use Rattle.edb_running.proofs.RiseLaws.{ended, at_end}
use Rattle.edb_running.proofs.SoundLaws.{body_counts, body_gone}
use Rattle.edb_running.proofs.running.Running.give.Goals as goal

pub leave-item-requires-clause-bodies : goal.leave-item-requires-clause-bodies
leave-item-requires-clause-bodies c =
    let e : c.loop-layer.self.layers.0 ≡ layers.Body c.in-Body.outer ∷ c.pop.new.self.0 = c.in-Some.ensures.items ∙ ap (λ l. l ∷ c.pop.new.self.0) c.in-Body.is in
    omega (arith, body_counts c.loop-layer.self c.in-Body.outer c.pop.new.self.0 e c.loop-layer.invariant.0)

pub loop-layer-preserved : goal.loop-layer-preserved
loop-layer-preserved c =
    let r : Running = c.loop-layer.self in
    let o : Body = c.in-Body.outer in
    let e : r.layers.0 ≡ layers.Body o ∷ c.pop.new.self.0 = c.in-Some.ensures.items ∙ ap (λ l. l ∷ c.pop.new.self.0) c.in-Body.is in
    let k : c.leave-item.new.self ≡ record r { layers = c.pop.new.self; here = o; bodies = r.bodies - 1 } = c.leave-item.ensures.kept in
    let v : Datum = value_in (pairs_in r) c.loop-layer.item in (
      body_gone r c.leave-item.new.self o c.pop.new.self.0 e (ap (λ s. s.layers.0) k) (ap (λ s. s.here) k) (ap (λ s. s.bodies) k) c.loop-layer.invariant.0,
      c.leave-item.ensures.below (length (pairs_in c.leave-item.new.self)),
      subst (λ s. IsNext c.args.next (next_code s.layers.0)) (sym k) (subst (λ ls. IsNext c.args.next (next_code ls)) e c.loop-layer.invariant.2),
      omega (arith, c.loop-layer.invariant.3, c.in-Some.ensures.room, ap (λ s. s.layers.1) k),
      λ p.
          ap (λ w. out p (layers_in c.leave-item.new.self) (info_in c.leave-item.new.self) (turns (pairs_in c.leave-item.new.self) (value w))) (c.leave-item.ensures.value (pairs_in c.leave-item.new.self))
          ∙ ap (λ s. out p (layers_in s) (info_in s) (turns (pairs_in s) (value v))) k
          ∙ sym (ended p (layers_of c.pop.new.self.0) (info_in r) (info_of o) (pairs_in r) v (all_open c.pop.new.self.0))
          ∙ ap (λ ls. out p (layers_of ls) (info_in r) (turns (pairs_in r) (value v))) (sym e)
          ∙ c.loop-layer.invariant.4 p,
    )

pub returns-clause-effect : goal.returns-clause-effect
returns-clause-effect c = λ p.
    let r : Running = c.loop-layer.self in
    let v : Datum = value_in (pairs_in r) c.loop-layer.item in
    let e : r.layers.0 ≡ [] = c.in_default.ensures.items.0 in
    ap (λ w. turns p.bindings (value w)) (c.own.ensures.value [])
    ∙ sym (at_end p (info_in r) (pairs_in r) v)
    ∙ ap (λ ls. out p (layers_of ls) (info_in r) (turns (pairs_in r) (value v))) (sym e)
    ∙ c.loop-layer.invariant.4 p
