use Rattle.std.proofs.Common.{◌≡◌, ◌∙◌, ap, rules}
use Rattle.edb_lang.specs.Terms.{Datum}
use Rattle.edb_lang.specs.declared.act.ActKind.TheVariants as kind
use Rattle.edb_model.specs.Procs.{new_member, numbered, ended_member}
use Rattle.edb_rules.specs.Facts.{debuggee_at}
use Rattle.edb_world.proofs.PlaceLaws.{member_at, known_at, lives_within_some}
use Rattle.edb_world.proofs.Acting.{acting_lives, next_here, end_noted}
use Rattle.edb_world.proofs.state.State.end.Goals as goal

-- src/acts.rt: the process at this place has ended
pub returns-clause-state : goal.returns-clause-state
returns-clause-state c =
    let k = c.args.self.now in
    let f = k.facts in
    let p = c.args.pid in
    let acting = c.requires.acting in
    let within = lives_within_some f p (acting_lives f p kind.End acting) in
    let m = c.index_mut-2.result.now in
    let d = c.index_mut-3.result.now in
    let t = c.running.result.now in
    let member : numbered new_member f.plain.procs.members p ≡ m = member_at f.plain.procs.members p m within.0 (search rules) (search rules) in
    let known : debuggee_at f p ≡ d = known_at f p d within.0 (search rules) (search rules) in
    end_noted k _ p t c.in_ok-value.value m d c.end-3.new.self c.end.new.self c.end-2.new.self c.end-4.new.self within.0 c.running.ensures
    (next_here f p kind.End acting t c.running.ensures) (search rules) (search rules) (search rules) member
    (c.end-2.ensures ∙ ap (λ (r : Datum). ended_member r m) c.in_ok-reason.ensures) known c.end-3.ensures c.end.ensures (search rules) (search rules)
