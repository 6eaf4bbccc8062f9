-- What serving a command changes.

use Rattle.std.specs.Prelude.{ℕ, ◌+◌, ◌<◌, ◌≤◌, length, [], ◌∷◌, ◌++◌}
use Rattle.edb_model.specs.Running.{Run}
use Rattle.edb_model.specs.Plain as model
use Rattle.edb_model.specs.Procs.{with_numbered}
use Rattle.edb_event.specs.Books.{commands_of}
use Rattle.edb_event.specs.declared.call.Call.{Call}
use Rattle.edb_event.specs.declared.call.Call.TheVariants as command
use Rattle.edb_rules.specs.Facts.{Console, unseen, debuggee_at, console_at}
use Rattle.edb_rules.specs.Called.{called}
use Rattle.edb_rules.specs.Orders.{order_of, ordered_process, with_order}
use Rattle.edb_world.specs.Known.{Known}

-- one command more of console 1 was served, which weighs one
abbrev pub one_more : Console → Console
one_more c = record c { served = c.served + 1 }

abbrev pub counted : Known → Known
counted k =
    record k { facts = record k.facts { consoles = with_numbered k.facts.consoles 1 (one_more (console_at k.facts 1)); weight = k.facts.weight + 1 } }

-- The command that was counted last is one of those that are given, and no serial was given for it yet.
pub record IsCounted (k : Known) : Type 0 where
  pub within : (console_at k.facts 1).served ≤ length (commands_of 1 k.plan.commands)
  pub unused : k.facts.server.table.given < (console_at k.facts 1).served

-- the process of the last await
abbrev pub last_by : Call → ℕ → ℕ
last_by (command.Await p s) q = p
last_by _ q = q

abbrev pub awaited : Call → Console → Console
awaited x c = record c { last = last_by x c.last }

-- what a command of the console that isn't refused does: to the server, to the process that it orders to go on, and to the
-- console's last await
abbrev pub served_known : Known → Call → Known
served_known k x =
    record k {
      facts = record k.facts {
        server = called k.facts.server 1 x;
        debuggees = with_numbered k.facts.debuggees (ordered_process x) (with_order (order_of k.facts.plain x) (debuggee_at k.facts (ordered_process x)));
        consoles = with_numbered k.facts.consoles 1 (awaited x (console_at k.facts 1));
      };
    }

-- with one process more, which does this next, and of which the debugger knows nothing
abbrev pub with_newborn : Known → Run → Known
with_newborn k t = record k { facts = record k.facts { plain = model.with_newborn k.facts.plain t; debuggees = k.facts.debuggees ++ unseen ∷ [] } }
