use Rattle.std.proofs.Common.{◌<◌, length, rules, ◌∙◌}
use Rattle.edb_event.specs.Books.{added_at}
use Rattle.edb_event.proofs.ScriptLaws.{set_is-added, set_keeps-scripts}
use Rattle.edb_event.proofs.scripts.Scripts.add.Goals as goal

pub invariant_of-self-2 : goal.invariant_of-self-2
invariant_of-self-2 c =
    let there : c.from.result < length c.self.inside.consoles = search rules in
    set_keeps-scripts c.self.inside.consoles c.from.result c.args.command c.index-self-from.result c.push.new.self there c.in_ok-push.ensures.ok c.self.invariant c.requires.range

pub returns-clause-ok : goal.returns-clause-ok
returns-clause-ok c =
    let there : c.from.result < length c.self.inside.consoles = search rules in
    set_is-added c.self.inside.consoles c.from.result c.args.command c.index-self-from.result c.push.new.self there c.in_ok-push.ensures.ok
    ∙ (λ i. added_at (c.from.ensures i) c.args.command (c.self.view_is i))
