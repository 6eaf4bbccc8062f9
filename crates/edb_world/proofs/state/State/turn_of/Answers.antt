use Rattle.std.proofs.Common.{◌≡◌, ◌∙◌, rules}
use Rattle.std.proofs.lemmas.Bool.{or_from}
use Rattle.edb_model.specs.Plain.{running_at}
use Rattle.edb_rules.specs.Facts.{debuggee_at}
use Rattle.edb_world.proofs.PlaceLaws.{live_at, known_at}
use Rattle.edb_world.proofs.Rounds.{goes_turn}
use Rattle.edb_world.proofs.state.State.turn_of.Goals as goal

pub returns-in-Some : goal.returns-in-Some
returns-in-Some c =
    let f = c.args.self.now.facts in
    let live : running_at f.plain c.args.pid ≡ c.index.result.now
    = live_at f.plain c.args.pid c.index.result.now c.requires.some (search rules) (search rules) in
    let known : debuggee_at f c.args.pid ≡ c.index-debuggee.result.now
    = known_at f c.args.pid c.index-debuggee.result.now c.requires.some (search rules) (search rules) in
    goes_turn f c.args.pid c.index-debuggee.result.now c.in-Some.process c.turn_at.result known (live ∙ search rules)
    (or_from c.index-debuggee.result.now.is_stopped c.index-debuggee.result.now.is_out (search rules) (search rules)) c.turn_at.ensures
