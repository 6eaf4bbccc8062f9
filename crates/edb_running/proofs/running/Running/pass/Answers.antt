use Rattle.std.proofs.Common.{◌++◌, ◌≤◌, length, ap, sym, ◌∙◌, arith, List}
use Rattle.edb_lang.specs.Pairs.{Pairs}
use Rattle.edb_moves.specs.Running.{Info, value}
use Rattle.edb_moves.specs.Going.{turns}
use Rattle.edb_variables.specs.PairStacks.{newest_first}
use Rattle.edb_stack.specs.Parts as parts
use Rattle.edb_stack.specs.Places.{out}
use Rattle.edb_stack.specs.Views.{layers_of}
use Rattle.edb_stack.specs.Redexes.{value_in}
use Rattle.edb_stack.proofs.OpenLayers.{all_open}
use Rattle.edb_stack.proofs.Turned.{place_bindings}
use Rattle.edb_running.specs.Standing.{layers_in, info_in, pairs_in}
use Rattle.edb_running.specs.declared.running.Running.{Running}
use Rattle.edb_running.proofs.SoundLaws.{holds_by}
use Rattle.edb_running.proofs.CommitLaws.{item_behind, rebound}
use Rattle.std.proofs.lemmas.List.{length-append}
use Rattle.edb_lang.specs.Terms.{Datum}
use Rattle.edb_stack.proofs.MarkLaws.{widen, agree_push}
use Rattle.edb_running.proofs.DepthLaws.{modules_same}
use Rattle.edb_running.proofs.running.Running.pass.Goals as goal

pub give-requires-clause-holds : goal.give-requires-clause-holds
give-requires-clause-holds c =
    let ls : List parts.Layer = layers_in c.args.self.now in
    let i : Info = info_in c.args.self.now in
    let bs : Pairs = newest_first c.args.pairs.items ++ i.bindings in
    let more : length i.bindings ≤ length bs = omega (arith, length-append (newest_first c.args.pairs.items) i.bindings) in
    holds_by c.bind.new.self ls (record i { bindings = bs }) (ap (λ s. layers_of s.0) c.bind.ensures.layers) c.bind.ensures.info (widen ls (length i.bindings) (length bs) more c.requires.holds.marked)
    (c.bind.ensures.bodies ∙ c.requires.holds.depth ∙ ap length (sym (modules_same ls i bs)))

pub returns-clause-effect : goal.returns-clause-effect
returns-clause-effect c = λ p.
    let ls : List parts.Layer = layers_in c.args.self.now in
    let i : Info = info_in c.args.self.now in
    let new : Pairs = newest_first c.args.pairs.items in
    let bs : Pairs = new ++ i.bindings in
    let v : Datum = value_in i.bindings c.args.item in
    let bound : Running = c.bind.new.self in
    c.give.ensures.effect p
    ∙ ap (λ s. out p (layers_of s.0) (info_in bound) (turns (pairs_in bound) (value (value_in (pairs_in bound) c.args.item)))) c.bind.ensures.layers
    ∙ ap (λ j. out p ls j (turns j.bindings (value (value_in j.bindings c.args.item)))) c.bind.ensures.info
    ∙ ap (λ w. out p ls (record i { bindings = bs }) (turns bs (value w))) (item_behind new i.bindings c.args.item c.requires.below)
    ∙ sym (rebound p ls i bs v (all_open c.args.self.now.layers.0) (agree_push ls new i.bindings c.requires.holds.marked))
    ∙ ap (λ cs. out p ls i (turns (new ++ cs) (value v))) (sym (place_bindings p ls i (all_open c.args.self.now.layers.0)))
