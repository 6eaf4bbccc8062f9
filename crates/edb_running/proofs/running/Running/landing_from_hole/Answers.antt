use Rattle.std.proofs.Common.{◌≡◌, ◌∷◌, List, IfOk, drop, ap, sym, subst, ◌∙◌}
use Rattle.edb_moves.specs.Running.{Info}
use Rattle.edb_pure.specs.declared.Raise.{Raise}
use Rattle.edb_stack.specs.Landings.{landing}
use Rattle.edb_stack.specs.Trees.{outward}
use Rattle.edb_stack.specs.Views.{layer_of, layers_of}
use Rattle.edb_stack.specs.declared.layer.Layer.{Layer}
use Rattle.edb_running.specs.Landed.{IsLanding}
use Rattle.edb_running.specs.Standing.{info_in}
use Rattle.edb_running.specs.Vacant.{round_hole, hole_in}
use Rattle.edb_running.proofs.Scans.{at_place}
use Rattle.edb_running.proofs.UnwindLaws.{hole_filled, hole_bare, no_layer}
use Rattle.edb_running.proofs.running.Running.landing_from_hole.Goals as goal

pub returns-in-Some : goal.returns-in-Some
returns-in-Some c =
    let r = c.args.self.now in
    let a : Raise = c.args.raise.now in
    let first : r.layers.0 ≡ c.in-Some.layer.now ∷ drop 1 r.layers.0 = (at_place 0 r.layers.0 c.in-Some.layer.now (sym c.in-Some.ensures)).0 in
    let hole = hole_filled r c.in-Value.field-0 c.in-Some.layer.now c.in-Value.is first in
    record {
      small = c.find_landing.ensures.small;
      lands = subst (λ ls. IfOk c.find_landing.result (IsLanding a ls (landing c.args.me ls (hole_in r) a.class a.reason))) hole.0
          (subst (λ i. IfOk c.find_landing.result (IsLanding a (layers_of (drop 1 r.layers.0)) (landing c.args.me (layers_of (drop 1 r.layers.0)) i a.class a.reason))) hole.1
          (c.find_landing.ensures.lands (outward (layer_of c.in-Some.layer.now) (info_in r)) (c.outside.ensures (info_in r) (sym c.in_body-stand.ensures))));
    }

pub returns-in-None : goal.returns-in-None
returns-in-None c =
    record {
      small = tt;
      lands = hole_bare c.args.me c.args.raise.now c.args.self.now c.in-Value.field-0 c.in-Value.is (no_layer c.args.self.now.layers.0 (sym c.in-None.ensures));
    }
