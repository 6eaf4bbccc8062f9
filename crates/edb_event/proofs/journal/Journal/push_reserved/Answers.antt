use Rattle.edb_event.proofs.Growth.{journal_more}
use Rattle.edb_event.proofs.journal.Journal.push_reserved.Goals as goal

pub invariant_of-self : goal.invariant_of-self
invariant_of-self c = journal_more c.args.self.now c.self.inside.entries.items c.push_reserved.new.self.items c.args.entry _ c.self.view_is c.self.invariant c.requires.range c.requires.light c.push_reserved.ensures.items
