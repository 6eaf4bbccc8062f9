use Rattle.std.proofs.Common.{◌≡◌, ◌++◌, ◌+◌, length, reverse, ap, sym, subst, ◌∙◌, List}
use Rattle.std.proofs.lemmas.List.{map-append}
use Rattle.edb_lang.specs.Pairs.{Pairs}
use Rattle.edb_moves.specs.Running.{Info}
use Rattle.edb_moves.specs.Going.{turns}
use Rattle.edb_variables.specs.PairStacks.{newest_first}
use Rattle.edb_stack.specs.Parts as parts
use Rattle.edb_stack.specs.Places.{out}
use Rattle.edb_stack.specs.Bodies.{modules_of}
use Rattle.edb_stack.specs.Views.{layer_of, layers_of}
use Rattle.edb_stack.specs.Redexes.{redex_tree}
use Rattle.edb_stack.specs.Paths.{outer, path_layers, path_tree, Leads, Fit}
use Rattle.edb_stack.proofs.OpenLayers.{all_open}
use Rattle.edb_stack.proofs.PathLaws.{path_lives}
use Rattle.edb_stack.proofs.Turned.{place_bindings}
use Rattle.edb_running.specs.Standing.{layers_in, info_in, pairs_in}
use Rattle.edb_running.proofs.SoundLaws.{sound_led}
use Rattle.edb_running.proofs.CommitLaws.{tree_by, turned_led, count_new}
use Rattle.edb_running.proofs.DepthLaws.{modules_same}
use Rattle.edb_running.proofs.running.Running.turn.Goals as goal

layers_now : (c : goal.After-focus) → layers_in c.focus.new.self ≡ path_layers c.args.path ++ layers_in c.args.self.now
layers_now c =
    ap layers_in c.focus.ensures ∙ ap layers_of c.push_all.ensures.items ∙ map-append layer_of (reverse c.args.path.layers.items) c.bind.new.self.layers.0
    ∙ ap (λ s. path_layers c.args.path ++ layers_of s.0) c.bind.ensures.layers

info_now : (c : goal.After-focus) → info_in c.focus.new.self ≡ record (info_in c.args.self.now) { bindings = newest_first c.args.pairs.items ++ pairs_in c.args.self.now }
info_now c = ap info_in c.focus.ensures ∙ c.bind.ensures.info

redex_now : (c : goal.After-focus) → c.focus.new.self.redex ≡ c.args.path.redex
redex_now c = ap (λ r. r.redex) c.focus.ensures

pub returns-clause-effect : goal.returns-clause-effect
returns-clause-effect c = λ p v.
    let ls : List parts.Layer = layers_in c.args.self.now in
    let i : Info = info_in c.args.self.now in
    let new : Pairs = newest_first c.args.pairs.items in
    let ws : List parts.Layer = path_layers c.args.path in
    let f : Fit (length i.bindings) (length (new ++ i.bindings)) ws = subst (λ n. Fit (length i.bindings) n ws) (count_new c.args.pairs.items i.bindings) c.requires.leads.fit in
    ap (turns p.bindings) (tree_by c.focus.new.self (ws ++ ls) (record i { bindings = new ++ i.bindings }) c.args.path.redex (layers_now c) (info_now c) (redex_now c))
    ∙ turned_led p ws ls i new (redex_tree (new ++ i.bindings) c.args.path.redex) (all_open c.args.self.now.layers.0) f c.requires.holds.marked (path_lives ws (new ++ i.bindings) c.args.path.redex f.within c.requires.leads.filled)
    ∙ ap (λ bs. out p ls i (turns (outer ws (new ++ bs)) (path_tree (new ++ bs) c.args.path))) (sym (place_bindings p ls i (all_open c.args.self.now.layers.0)))

pub returns-clause-sound : goal.returns-clause-sound
returns-clause-sound c =
    let n : length c.args.pairs.items + length (pairs_in c.args.self.now) ≡ length (pairs_in c.focus.new.self) = count_new c.args.pairs.items (pairs_in c.args.self.now) ∙ ap (λ j. length j.bindings) (sym (info_now c)) in
    sound_led c.focus.new.self c.args.path (layers_in c.args.self.now) (length (pairs_in c.args.self.now)) (layers_now c) (redex_now c)
    (subst (λ k. Leads (length (pairs_in c.args.self.now)) k c.args.path) n c.requires.leads) c.requires.holds.marked
    (ap (λ r. r.bodies) c.focus.ensures ∙ c.bind.ensures.bodies ∙ c.requires.holds.depth ∙ ap length (sym (modules_same (layers_in c.args.self.now) (info_in c.args.self.now) (newest_first c.args.pairs.items ++ pairs_in c.args.self.now))) ∙ ap (λ j. length (modules_of (layers_in c.args.self.now) j)) (sym (info_now c)))
