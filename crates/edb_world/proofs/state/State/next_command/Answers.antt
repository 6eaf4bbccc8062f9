use Rattle.std.proofs.Common.{◌≡◌, None, Some, [], ◌∷◌, sym, ◌∙◌, ap, rules}
use Rattle.edb_rules.specs.Replies.{next_call}
use Rattle.edb_world.specs.Known.{Known}
use Rattle.edb_world.proofs.Ranking.{all_answered, turn_waiting, turn_through}
use Rattle.edb_world.proofs.state.State.next_command.Goals as goal

pub returns-in-None : goal.returns-in-None
returns-in-None c =
    let k = c.args.self.now in
    let cs = c.self.inside.commands.now in
    let is : k.plan.commands ≡ cs ∷ [] = sym (ap (λ (x : Known). x.plan.commands) c.self.view_is) in
    let none : k.facts.plain.procs.bonds.signals ≡ [] = sym (ap (λ (x : Known). x.facts.plain.procs.bonds.signals) c.self.view_is) in
    let through : next_call k.plan k.facts 1 ≡ None = sym c.in_ok-next_call.ensures ∙ c.in-None.is in
    (turn_through k.plan k.facts cs c.requires.at is none through, all_answered k.plan k.facts cs is through)

pub returns-else-enables : goal.returns-else-enables
returns-else-enables c =
    let k = c.args.self.now in
    let cs = c.self.inside.commands.now in
    let is : k.plan.commands ≡ cs ∷ [] = sym (ap (λ (x : Known). x.plan.commands) c.self.view_is) in
    let none : k.facts.plain.procs.bonds.signals ≡ [] = sym (ap (λ (x : Known). x.facts.plain.procs.bonds.signals) c.self.view_is) in
    let next : next_call k.plan k.facts 1 ≡ Some c.in-Some.call = sym c.in_ok-next_call.ensures ∙ c.in-Some.is in
    (turn_waiting k.plan k.facts cs c.in-Some.call c.requires.at is none next (search rules), next)
