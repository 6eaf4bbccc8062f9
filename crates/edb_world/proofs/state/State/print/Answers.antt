use Rattle.std.proofs.Common.{◌≡◌, Option, sym, ◌∙◌, subst, rules}
use Rattle.std.specs.Option.{IsSomeAnd}
use Rattle.edb_lang.specs.declared.act.ActKind.TheVariants as kind
use Rattle.edb_model.specs.Running.{Run}
use Rattle.edb_model.specs.Move.{acts, next}
use Rattle.edb_model.specs.Plain as model
use Rattle.edb_rules.specs.Facts.{debuggee_at}
use Rattle.edb_world.proofs.PlaceLaws.{live_at, known_at, lives_within_some}
use Rattle.edb_model.specs.Acts.{true_term}
use Rattle.edb_world.proofs.Acting.{next_act, acting_lives, next_here, answered_is, print_noted}
use Rattle.edb_world.proofs.state.State.print.Goals as goal

-- src/acts.rt: the process at this place is the one that is about to print
pub answer-requires : goal.answer-requires
answer-requires c =
    let f = c.args.self.now.facts in
    let told = next_act f c.args.pid kind.Print c.requires.acting in
    let within = lives_within_some f c.args.pid (acting_lives f c.args.pid kind.Print c.requires.acting) in
    let live : model.running_at f.plain c.args.pid ≡ c.index_mut.result.now
    = live_at f.plain c.args.pid c.index_mut.result.now within.0 (search rules) (search rules) in
    subst (λ (o : Option Run). IsSomeAnd o (λ t. next t ≡ acts kind.Print)) (sym told.lives ∙ live) told.is_next

-- src/acts.rt: the process at this place has printed
pub returns-clause-state : goal.returns-clause-state
returns-clause-state c =
    let k = c.args.self.now in
    let f = k.facts in
    let p = c.args.pid in
    let acting = c.requires.acting in
    let told = next_act f p kind.Print acting in
    let within = lives_within_some f p (acting_lives f p kind.Print acting) in
    let d = c.index_mut-2.result.now in
    let live : model.running_at f.plain p ≡ c.index_mut.result.now = live_at f.plain p c.index_mut.result.now within.0 (search rules) (search rules) in
    let known : debuggee_at f p ≡ d = known_at f p d within.0 (search rules) (search rules) in
    let t = c.running.result.now in
    let is = next_here f p kind.Print acting t c.running.ensures in
    print_noted k _ p t c.in_ok-value.value c.in_ok-printed.printed d c.print.new.self c.answer-2.new.self within.0 c.running.ensures is (search rules) known c.print.ensures
    (answered_is c.index_mut.result.now t c.answer-2.new.self true_term (sym live ∙ c.running.ensures) (search rules)) c.in_ok-printed.ensures (search rules)
