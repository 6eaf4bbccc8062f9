use Rattle.std.proofs.Common.{◌≡◌, ◌++◌, ◌+◌, List, [], drop, refl, ap, sym, subst, ◌∙◌}
use Rattle.edb_lang.specs.Pairs.{Pairs}
use Rattle.edb_moves.specs.Running.{Info, leaf}
use Rattle.edb_pure.specs.declared.Raise.{Raise}
use Rattle.edb_variables.specs.PairStacks.{oldest}
use Rattle.edb_stack.specs.Views.{layers_of, leaf_of}
use Rattle.edb_stack.specs.declared.layer.Layer.{Layer}
use Rattle.edb_stack.specs.declared.redex.Leaf.TheVariants.{Failed}
use Rattle.edb_running.specs.Landed.{landed_pairs, landed_tree, Extends}
use Rattle.edb_running.specs.Standing.{layers_in, info_in, pairs_in}
use Rattle.edb_running.proofs.UnwindLaws.{Lands, lands_there, Kept, kept_there, value_lands, tree_lands, tree_sound}
use Rattle.edb_running.proofs.running.Running.land.Goals as goal

pub give-requires-clause-holds : goal.give-requires-clause-holds
give-requires-clause-holds c =
    let cs : List Layer = c.args.self.now.layers.0 in
    let i : Info = info_in c.args.self.now in
    let s : Lands c.args.me c.args.raise (layers_of cs) i c.args.landing = lands_there c.args.me c.args.raise (layers_of cs) i c.args.landing c.requires.holds.marked c.requires.lands in
    (kept_there c.args.me c.args.raise cs i c.args.landing s c.unwind.new.self c.hide.new.self c.unwind.ensures.layers c.unwind.ensures.info c.unwind.ensures.holds c.hide.ensures.layers c.hide.ensures.info c.hide.ensures.bodies).holds

pub returns-in-Value-clause-effect : goal.returns-in-Value-clause-effect
returns-in-Value-clause-effect c p same =
    let cs : List Layer = c.args.self.now.layers.0 in
    let i : Info = info_in c.args.self.now in
    let s : Lands c.args.me c.args.raise (layers_of cs) i c.args.landing = lands_there c.args.me c.args.raise (layers_of cs) i c.args.landing c.requires.holds.marked c.requires.lands in
    let k : Kept (layers_of (drop (c.args.landing.depth + 1) cs)) s.at c.args.landing.mark c.hide.new.self =
    kept_there c.args.me c.args.raise cs i c.args.landing s c.unwind.new.self c.hide.new.self c.unwind.ensures.layers c.unwind.ensures.info c.unwind.ensures.holds c.hide.ensures.layers c.hide.ensures.info c.hide.ensures.bodies in
    c.give.ensures.effect p ∙ value_lands p c.args.me c.args.raise cs i c.args.landing s c.hide.new.self c.in-Value.value k c.in-Value.is same

pub returns-in-Clause-clause-effect : goal.returns-in-Clause-clause-effect
returns-in-Clause-clause-effect c p same =
    let cs : List Layer = c.args.self.now.layers.0 in
    let i : Info = info_in c.args.self.now in
    let l = c.args.landing in
    let s : Lands c.args.me c.args.raise (layers_of cs) i l = lands_there c.args.me c.args.raise (layers_of cs) i l c.requires.holds.marked c.requires.lands in
    let k : Kept (layers_of (drop (l.depth + 1) cs)) s.at l.mark c.hide.new.self =
    kept_there c.args.me c.args.raise cs i l s c.unwind.new.self c.hide.new.self c.unwind.ensures.layers c.unwind.ensures.info c.unwind.ensures.holds c.hide.ensures.layers c.hide.ensures.info c.hide.ensures.bodies in
    let bs : Pairs = c.in-Clause.variables.pairs in
    let adds : (new : Pairs) × (bs ≡ new ++ oldest l.mark s.at.bindings) = subst (λ a. Extends a (oldest l.mark s.at.bindings)) c.in-Clause.is s.extends in
    tree_lands p c.args.me c.args.raise cs i l s c.go_on.new.self c.unbegun.result bs adds.0
    (ap (λ a. layers_of a.0) c.go_on.ensures.layers ∙ k.layers) (c.go_on.ensures.info ∙ ap (λ (a : Info). record a { bindings = bs }) k.info) c.go_on.ensures.redex
    (s.pairs_are ∙ ap (λ a. landed_pairs a (oldest l.mark s.at.bindings)) c.in-Clause.is) (s.tree_is ∙ ap (λ a. landed_tree a c.args.raise) c.in-Clause.is ∙ ap leaf (sym c.unbegun.ensures)) adds.1 same

pub returns-in-Clause-clause-sound : goal.returns-in-Clause-clause-sound
returns-in-Clause-clause-sound c =
    let cs : List Layer = c.args.self.now.layers.0 in
    let i : Info = info_in c.args.self.now in
    let l = c.args.landing in
    let s : Lands c.args.me c.args.raise (layers_of cs) i l = lands_there c.args.me c.args.raise (layers_of cs) i l c.requires.holds.marked c.requires.lands in
    let k : Kept (layers_of (drop (l.depth + 1) cs)) s.at l.mark c.hide.new.self =
    kept_there c.args.me c.args.raise cs i l s c.unwind.new.self c.hide.new.self c.unwind.ensures.layers c.unwind.ensures.info c.unwind.ensures.holds c.hide.ensures.layers c.hide.ensures.info c.hide.ensures.bodies in
    let bs : Pairs = c.in-Clause.variables.pairs in
    let adds : (new : Pairs) × (bs ≡ new ++ oldest l.mark s.at.bindings) = subst (λ a. Extends a (oldest l.mark s.at.bindings)) c.in-Clause.is s.extends in
    tree_sound c.args.me c.args.raise cs i l s c.hide.new.self c.go_on.new.self c.unbegun.result bs adds.0 k
    (ap (λ a. layers_of a.0) c.go_on.ensures.layers ∙ k.layers) (c.go_on.ensures.info ∙ ap (λ (a : Info). record a { bindings = bs }) k.info) c.go_on.ensures.redex c.go_on.ensures.bodies adds.1

pub returns-clause-effect : goal.returns-clause-effect
returns-clause-effect c p same =
    let cs : List Layer = c.args.self.now.layers.0 in
    let i : Info = info_in c.args.self.now in
    let l = c.args.landing in
    let s : Lands c.args.me c.args.raise (layers_of cs) i l = lands_there c.args.me c.args.raise (layers_of cs) i l c.requires.holds.marked c.requires.lands in
    let k : Kept (layers_of (drop (l.depth + 1) cs)) s.at l.mark c.hide.new.self =
    kept_there c.args.me c.args.raise cs i l s c.unwind.new.self c.hide.new.self c.unwind.ensures.layers c.unwind.ensures.info c.unwind.ensures.holds c.hide.ensures.layers c.hide.ensures.info c.hide.ensures.bodies in
    let bs : Pairs = oldest l.mark s.at.bindings in
    tree_lands p c.args.me c.args.raise cs i l s c.focus.new.self (Failed c.args.raise c.in-After.sequence) bs []
    (ap layers_in c.focus.ensures ∙ k.layers) (ap info_in c.focus.ensures ∙ k.info) (ap (λ a. a.redex) c.focus.ensures)
    (s.pairs_are ∙ ap (λ a. landed_pairs a bs) c.in-After.is) (s.tree_is ∙ ap (λ a. landed_tree a c.args.raise) c.in-After.is) refl same

pub returns-clause-sound : goal.returns-clause-sound
returns-clause-sound c =
    let cs : List Layer = c.args.self.now.layers.0 in
    let i : Info = info_in c.args.self.now in
    let l = c.args.landing in
    let s : Lands c.args.me c.args.raise (layers_of cs) i l = lands_there c.args.me c.args.raise (layers_of cs) i l c.requires.holds.marked c.requires.lands in
    let k : Kept (layers_of (drop (l.depth + 1) cs)) s.at l.mark c.hide.new.self =
    kept_there c.args.me c.args.raise cs i l s c.unwind.new.self c.hide.new.self c.unwind.ensures.layers c.unwind.ensures.info c.unwind.ensures.holds c.hide.ensures.layers c.hide.ensures.info c.hide.ensures.bodies in
    tree_sound c.args.me c.args.raise cs i l s c.hide.new.self c.focus.new.self (Failed c.args.raise c.in-After.sequence) (oldest l.mark s.at.bindings) [] k
    (ap layers_in c.focus.ensures ∙ k.layers) (ap info_in c.focus.ensures ∙ k.info) (ap (λ a. a.redex) c.focus.ensures) (ap (λ a. a.bodies) c.focus.ensures) refl
