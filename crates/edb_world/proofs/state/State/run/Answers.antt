use Rattle.std.proofs.Common.{◌≡◌, ◌+◌, Some, sym, ◌∙◌, ap, subst, arith, rules}
use Rattle.edb_model.specs.Plain as model
use Rattle.edb_rules.specs.Facts.{Handout, Debuggee, debuggee_at}
use Rattle.edb_rules.specs.Slices.{after_moves}
use Rattle.edb_world.specs.Known.{running_at}
use Rattle.edb_world.specs.Turns.{MakesSlice}
use Rattle.edb_world.proofs.PlaceLaws.{live_at, known_at, some_of, lives_within_some}
use Rattle.edb_world.proofs.Moves.{ran_with, slice_at}
use Rattle.edb_world.proofs.state.State.run.Goals as goal

pub returns : goal.returns
returns c =
    let k = c.args.self.now in
    let p = c.args.pid in
    let q = c.index_mut.result.now in
    let d = c.index.result.now in
    let lives = some_of (running_at k p) c.requires.lives in
    let within = lives_within_some k.facts p c.requires.lives in
    let live : model.running_at k.facts.plain p ≡ q = live_at k.facts.plain p q within.0 (search rules) (search rules) in
    let known : debuggee_at k.facts p ≡ d = known_at k.facts p d within.0 (search rules) (search rules) in
    let known_2 : debuggee_at k.facts p ≡ c.index_mut-2.result.now
    = known_at k.facts p c.index_mut-2.result.now within.0 (search rules) (search rules) in
    let after : c.run-2.new.self ≡ ran_with d c.in_ok-slice.slice.moves
    = c.run-2.ensures ∙ ap (λ (x : Debuggee). ran_with x c.in_ok-slice.slice.moves) (sym known_2 ∙ known) in
    let weight : c.self.inside.weight ≡ k.facts.weight = search rules in
    let is : q ≡ Some lives.0 = sym live ∙ lives.1 in
    let same : c.behind-self.inside.handout ≡ d.handout = ap (λ (x : Debuggee). x.handout) c.behind-self.view_is in
    let made = subst (λ (h : Handout). MakesSlice c.self.inside.code.now h p lives.0 c.in_ok-slice.slice) same (c.in_ok-slice.ensures.slice p lives.0 is) in
    let process = subst (λ (h : Handout). c.run.new.self ≡ Some (after_moves c.self.inside.code.now h.versions c.in_ok-slice.slice.moves lives.0)) same
    (c.in_ok-slice.ensures.process lives.0 is) in
    slice_at k _ p lives.0 c.in_ok-slice.slice (c.self.inside.weight + c.max.result) c.self.inside.code.now d c.run-2.new.self c.run.new.self
    within.0 lives.1 known (search rules) c.requires.versions (search rules) made process after (omega arith) (search rules)
