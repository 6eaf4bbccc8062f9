use Rattle.std.proofs.Common.{◌≡◌, true, Option, sym, ◌∙◌, ap, rules}
use Rattle.std.proofs.lemmas.Option.{same_Some}
use Rattle.edb_model.specs.Running.{Run}
use Rattle.edb_model.specs.Move.{next}
use Rattle.edb_rules.specs.Facts.{Handout, OwedTrigger, Debuggee, debuggee_at}
use Rattle.edb_rules.specs.SliceEnds.{place_of}
use Rattle.edb_rules.specs.Notes.{owed_by}
use Rattle.edb_world.proofs.PlaceLaws.{known_at, lives_within_some}
use Rattle.edb_world.proofs.Telling.{stop_noted}
use Rattle.edb_world.proofs.state.State.stop.Goals as goal

-- src/slices.rt: the process at this place has stopped
pub returns-clause-state : goal.returns-clause-state
returns-clause-state c =
    let k = c.args.self.now in
    let p = c.args.pid in
    let d = c.index_mut.result.now in
    let t = c.running.result.now in
    let within = lives_within_some k.facts p c.requires.lives in
    let known : debuggee_at k.facts p ≡ d = known_at k.facts p d within.0 (search rules) (search rules) in
    let known_2 : debuggee_at k.facts p ≡ c.index.result.now = known_at k.facts p c.index.result.now within.0 (search rules) (search rules) in
    let same : c.running-2.result.now ≡ t = same_Some c.running-2.result.now t (sym c.running-2.ensures ∙ c.running.ensures) in
    let handout : c.behind-self.inside.handout ≡ d.handout = ap (λ (x : Debuggee). x.handout) (c.behind-self.view_is ∙ (sym known_2 ∙ known)) in
    let owed : c.in_ok-owed.owed ≡ owed_by d.handout.rows (place_of (next t)).0 (place_of (next t)).1 c.args.by =
    c.in_ok-owed.ensures
    ∙ (ap (λ (h : Handout). owed_by h.rows (place_of (next c.running-2.result.now)).0 (place_of (next c.running-2.result.now)).1 c.args.by) handout
    ∙ ap (λ (r : Run). owed_by d.handout.rows (place_of (next r)).0 (place_of (next r)).1 c.args.by) same)
    in
    stop_noted k _ p t c.args.by d c.stop-2.new.self c.in_ok-stop.stop c.stop-3.new.self c.in_ok-entry.entry within.0 c.running.ensures known
    (c.stop-2.ensures ∙ ap (λ (o : Option OwedTrigger). record d { is_stopped = true; is_resumed = true; owed = o }) owed)
    c.in_ok-stop.ensures (search rules) (search rules) (search rules) (search rules)
