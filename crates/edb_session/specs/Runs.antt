-- What a run leaves: a legal journal of one hand, a plain run without the debugger, and its tables.

use Rattle.std.specs.Prelude.{◌≡◌, List, [], ◌∷◌}
use Rattle.edb_lang.specs.Syntax.{ModuleTree}
use Rattle.edb_model.specs.declared.tables.Tables.{Tables}
use Rattle.edb_model.specs.Plain.{Plain, tables_of}
use Rattle.edb_model.specs.Labels.{IsPlainRun}
use Rattle.edb_event.specs.declared.call.Command.{Command}
use Rattle.edb_event.specs.declared.entry.Entry.{Entry}
use Rattle.edb_options.specs.declared.request.Options.{Options}
use Rattle.edb_rules.specs.Erasure.{erase}
use Rattle.edb_rules.specs.Plans.{Plan}
use Rattle.edb_rules.specs.Legal.{Legal, IsOneHanded}
use Rattle.edb_session.specs.Headline.{StopsWereDue, NoneWasPassed, CommandsInOrder, AllCame, RepliesOfOneThread}

-- One script gives the commands of console 1, and the other consoles have none. The options say how many moves a slice has
-- at most, and at which weight a journal is over.
abbrev pub plan_with : Options → List ModuleTree → List Command → Plan
plan_with options code commands =
    record { code = code; commands = commands ∷ []; slice_moves = options.slice; weight_limit = options.moves }

-- The journal is legal, and one hand made it; struck of the debugger's entries it is a plain run of the modules;
-- the tables are those of the state to which that run leads. Stops, commands and replies are as they have to be.
pub record IsRun (plan : Plan) (journal : List Entry) (left : Tables) : Type 0 where
  pub legal : Legal plan journal
  pub one_hand : IsOneHanded plan journal
  pub state : Plain
  pub plain : IsPlainRun plan.code (erase journal) state
  pub tables : left ≡ tables_of state
  pub stops : StopsWereDue plan journal
  pub passed : NoneWasPassed plan journal
  pub commands : CommandsInOrder plan journal
  pub all : AllCame plan journal
  pub replies : RepliesOfOneThread plan journal
