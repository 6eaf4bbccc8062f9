use Rattle.std.proofs.Common.{◌≡◌, true, ◌∷◌, length, refl, ap, sym, subst, ◌∙◌}
use Rattle.edb_moves.specs.Running.{value}
use Rattle.edb_moves.specs.Going.{turns}
use Rattle.edb_stack.specs.Trees.{plug}
use Rattle.edb_stack.specs.Bodies.{modules_of}
use Rattle.edb_stack.specs.Views.{layer_of, layers_of}
use Rattle.edb_stack.specs.Redexes.{value_in}
use Rattle.edb_stack.specs.declared.redex.Redex.TheVariants as redex
use Rattle.edb_stack.proofs.OpenLayers.{all_open}
use Rattle.edb_running.specs.Standing.{layers_in, info_in, pairs_in, tree_in, Sound}
use Rattle.edb_running.proofs.RiseLaws.{filled}
use Rattle.edb_lang.specs.Terms.{Datum}
use Rattle.edb_stack.specs.Marks.{Marked}
use Rattle.edb_stack.specs.Paths.{waits, IsFilled}
use Rattle.edb_running.proofs.SoundLaws.{layer_waits}
use Rattle.edb_running.proofs.DepthLaws.{modules_on}
use Rattle.edb_running.proofs.running.Running.fill.Goals as goal

pub feed-requires-clause-depth : goal.feed-requires-clause-depth
feed-requires-clause-depth c =
    c.requires.depth ∙ ap (λ l. length (modules_of (layer_of l ∷ layers_in c.args.self.now) (info_in c.args.self.now))) c.in-Operands.is
    ∙ ap length (sym (modules_on c.in-Operands.operands (layers_in c.args.self.now) (info_in c.args.self.now)))

pub returns : goal.returns
returns c =
    let w : waits (layer_of c.args.layer) ≡ true = layer_waits c.args.layer c.in_default.not-Operands c.requires.inner in
    let e : c.focus.new.self ≡ record c.args.self.now { layers = c.push.new.self; redex = redex.Value c.args.item } = c.focus.ensures in
    let v : Datum = value_in (pairs_in c.args.self.now) c.args.item in
    record {
      stays = refl;
      tree = λ p.
          ap (λ r. turns p.bindings (tree_in r)) e
          ∙ ap (λ ls. turns p.bindings (plug (layers_of ls) (info_in c.args.self.now) (value v))) c.push.ensures.items
          ∙ sym (filled p (layer_of c.args.layer) (layers_in c.args.self.now) (info_in c.args.self.now) v (all_open (c.args.layer ∷ c.args.self.now.layers.0)) w);
      sound = subst Sound (sym e) (record {
        holds = record {
          marked = subst (λ ls. Marked (layers_of ls) (length (pairs_in c.args.self.now))) (sym c.push.ensures.items) c.requires.marked;
          depth = c.requires.depth ∙ ap (λ ls. length (modules_of (layers_of ls) (info_in c.args.self.now))) (sym c.push.ensures.items);
        };
        below = c.requires.item;
        filled = subst (λ ls. IsFilled (layers_of ls) (redex.Value c.args.item)) (sym c.push.ensures.items) w;
      });
    }
