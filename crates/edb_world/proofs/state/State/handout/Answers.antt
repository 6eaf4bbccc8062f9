use Rattle.std.proofs.Common.{rules, ◌≡◌, sym, ◌∙◌, ap}
use Rattle.edb_rules.specs.Facts.{debuggee_at}
use Rattle.edb_rules.specs.Notes.{handout_now}
use Rattle.edb_world.proofs.PlaceLaws.{known_at, lives_within_some}
use Rattle.edb_world.proofs.state.State.handout.Goals as goal

pub returns : goal.returns
returns c =
    let f = c.args.self.now.facts in
    let within = lives_within_some f c.args.pid c.requires.lives in
    let known : debuggee_at f c.args.pid ≡ c.index-debuggee.result.now
    = known_at f c.args.pid c.index-debuggee.result.now within.0 (search rules) (search rules) in
    (search rules) ∙ ap (handout_now f c.args.budget) (sym known)
