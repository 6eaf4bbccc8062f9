-- What a world knows: what the session is given, and the facts of its journal so far.

use Rattle.std.specs.Prelude.{ℕ, ◌+◌, ◌-◌, min, if◌then◌else◌, nat_lt, List, length, Option}
use Rattle.edb_model.specs.Running.{Run}
use Rattle.edb_model.specs.Plain as model
use Rattle.edb_model.specs.Procs.{most_processes}
use Rattle.edb_event.specs.declared.call.Call.{Call}
use Rattle.edb_event.specs.declared.call.Call.TheVariants as command
use Rattle.edb_event.specs.declared.entry.Entry.{Entry}
use Rattle.edb_event.specs.declared.entry.Entry.TheVariants as entry
use Rattle.edb_breaks.specs.Table.{Table, has_row}
use Rattle.edb_rules.specs.Plans.{Plan}
use Rattle.edb_rules.specs.Facts.{OwedTrigger, Facts, at_first}
use Rattle.edb_rules.specs.Answers.{reply_of}
use Rattle.edb_rules.specs.Notes.{note}

pub record Known : Type 0 where
  pub plan : Plan
  pub facts : Facts

-- before the first entry
abbrev pub known_first : Plan → Known
known_first plan = record { plan = plan; facts = at_first plan }

-- after an entry
abbrev pub noted : Known → Entry → Known
noted k e = record k { facts = note k.plan k.facts e }

-- with these entries still to come, since they end a slice
abbrev pub coming : List Entry → Known → Known
coming es k = record k { facts = record k.facts { coming = es } }

-- what is left to do for process p
abbrev pub running_at : Known → ℕ → Option Run
running_at k p = (model.running_at k.facts.plain p)

-- the budget of a lease: the lesser of a slice and of what is left of the weight after it
abbrev pub budget_of : Known → ℕ
budget_of k = min k.plan.slice_moves (k.plan.weight_limit - (k.facts.weight + 1))

-- the entry of an enabled command: a start that is accepted has its own, every other one is served
abbrev pub command_entry : Known → Call → Entry
command_entry k (command.Start m n args) =
    if nat_lt k.facts.server.made most_processes
    then entry.Start 1 (length k.facts.plain.running + 1) m n args
    else entry.Served 1 (command.Start m n args) (reply_of k.facts.server 1 (command.Start m n args))
command_entry k x = entry.Served 1 x (reply_of k.facts.server 1 x)

-- the entry of a trigger that process p owes: it is applied where the table still has the row
abbrev pub trigger_entry : Table → ℕ → OwedTrigger → Entry
trigger_entry t p o = entry.Trigger p o.home o.line o.serial o.action (has_row o.serial o.home o.line t)
