use Rattle.std.proofs.Common.{◌≡◌, ◌<◌, ◌∷◌, ◌+◌, refl, ap, sym, subst, ◌∙◌, length, arith}
use Rattle.edb_stack.specs.Bodies.{modules_of}
use Rattle.edb_stack.specs.Views.{info_of, layer_of, layers_of}
use Rattle.edb_stack.specs.Marks.{Marked}
use Rattle.edb_stack.specs.declared.layer.Layer.TheVariants as layer
use Rattle.edb_running.specs.Standing.{layers_in, info_in, pairs_in}
use Rattle.edb_running.proofs.UnwindLaws.{out_holds, depth_out, depth_body, outward_kept}
use Rattle.edb_running.proofs.running.Running.go_outside.Goals as goal

pub end_body-requires : goal.end_body-requires
end_body-requires c =
    let d : c.args.self.now.bodies ≡ length (modules_of (layers_in c.args.self.now) (info_of c.in-Body.outer)) + 1 =
    c.requires.depth ∙ ap (λ l. length (modules_of (layer_of l ∷ layers_in c.args.self.now) (info_in c.args.self.now))) c.in-Body.is ∙ depth_body c.in-Body.outer (layers_in c.args.self.now) (info_in c.args.self.now) in
    record { bodies = omega (arith, d) }

pub returns-in-Body-clause-holds : goal.returns-in-Body-clause-holds
returns-in-Body-clause-holds c =
    let d : c.args.self.now.bodies ≡ length (modules_of (layers_in c.args.self.now) (info_of c.in-Body.outer)) + 1 =
    c.requires.depth ∙ ap (λ l. length (modules_of (layer_of l ∷ layers_in c.args.self.now) (info_in c.args.self.now))) c.in-Body.is ∙ depth_body c.in-Body.outer (layers_in c.args.self.now) (info_in c.args.self.now) in
    out_holds c.end_body.new.self c.args.self.now (layer.Body c.in-Body.outer) (ap layers_in c.end_body.ensures) (ap info_in c.end_body.ensures)
    (subst (λ l. Marked (layer_of l ∷ layers_in c.args.self.now) (length (pairs_in c.args.self.now))) c.in-Body.is c.requires.marked)
    (omega (arith, d, ap (λ s. s.bodies) c.end_body.ensures))

pub returns-in-Scope-clause-holds : goal.returns-in-Scope-clause-holds
returns-in-Scope-clause-holds c =
    out_holds c.hide.new.self c.args.self.now (layer.Scope c.in-Scope.mark) (ap (λ s. layers_of s.0) c.hide.ensures.layers) c.hide.ensures.info
    (subst (λ l. Marked (layer_of l ∷ layers_in c.args.self.now) (length (pairs_in c.args.self.now))) c.in-Scope.is c.requires.marked)
    (c.hide.ensures.bodies ∙ c.requires.depth ∙ ap (λ l. length (modules_of (layer_of l ∷ layers_in c.args.self.now) (info_in c.args.self.now))) c.in-Scope.is
    ∙ ap length (depth_out (layer.Scope c.in-Scope.mark) (layers_in c.args.self.now) (info_in c.args.self.now) (λ b e. cc)))

pub returns : goal.returns
returns c =
    let same = outward_kept c.args.layer (info_in c.args.self.now) c.in_default.not-Scope c.in_default.not-Body in
    record {
      layers = refl;
      info = same;
      holds = out_holds c.args.self.now c.args.self.now c.args.layer refl same c.requires.marked
          (c.requires.depth ∙ ap length (depth_out c.args.layer (layers_in c.args.self.now) (info_in c.args.self.now) c.in_default.not-Body));
    }
