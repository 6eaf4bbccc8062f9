use Rattle.std.proofs.Common.{◌≡◌, true, false, map, sym, ap, ◌∙◌, arith}
use Rattle.std.proofs.lemmas.Grind.{common_steps}
use Rattle.edb_small.specs.Conditions.{is_among}
use Rattle.edb_small.proofs.Names.{seen_reversed}
use Rattle.edb_small.proofs.scope.Scope.has.Goals as goal

pub returns-then-same : goal.returns-then-same
returns-then-same c =
    let here : is_among c.args.name.now (map (λ name. name.now) c.deref-bound-items.result.now) ≡ true = grind (arith, common_steps) in
    sym (ap (is_among c.args.name.now) (sym c.self.view_is) ∙ seen_reversed c.args.name.now c.deref-bound-items.result.now c.self.inside.names.items true c.deref-bound-items.ensures.value here)

pub returns : goal.returns
returns c =
    let here : is_among c.args.name.now (map (λ name. name.now) c.deref-bound-items.result.now) ≡ false = grind (arith, common_steps) in
    sym (ap (is_among c.args.name.now) (sym c.self.view_is) ∙ seen_reversed c.args.name.now c.deref-bound-items.result.now c.self.inside.names.items false c.deref-bound-items.ensures.value here)
