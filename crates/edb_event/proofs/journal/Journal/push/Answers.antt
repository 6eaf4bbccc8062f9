use Rattle.edb_event.proofs.Growth.{journal_more}
use Rattle.edb_event.proofs.journal.Journal.push.Goals as goal

pub invariant_of-self-2 : goal.invariant_of-self-2
invariant_of-self-2 c = journal_more c.args.self.now c.self.inside.entries.items c.push.new.self.items c.args.entry _ c.self.view_is c.self.invariant c.requires.range c.requires.light c.in_ok-push.ensures.items
