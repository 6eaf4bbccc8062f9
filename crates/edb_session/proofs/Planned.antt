-- The plan of modules and a script is one that a world runs.

use Rattle.std.proofs.Common.{ℕ, List, []}
use Rattle.std.proofs.lemmas.List.Elements.{All-nil, All-cons}
use Rattle.edb_lang.specs.Syntax.{ModuleTree}
use Rattle.edb_event.specs.declared.call.Command.{Command}
use Rattle.edb_event.specs.Ranges.{AreCommands}
use Rattle.edb_cmds.specs.Listing.{IsScriptOf}
use Rattle.edb_options.specs.Options.{IsRanged}
use Rattle.edb_options.specs.declared.request.Options.{Options}
use Rattle.edb_rules.specs.Bounds.{AreBounded}
use Rattle.edb_world.specs.Plans.{AreServed, IsPlan}
use Rattle.edb_session.specs.Runs.{plan_with}
use Rattle.edb_session.proofs.Served.{script_served}

pub is_plan : (options : Options) (script : List ℕ) (code : List ModuleTree) (commands : List Command) → IsRanged options → AreBounded code
    → IsScriptOf script commands → AreCommands commands → IsPlan (plan_with options code commands)
is_plan options script code commands ranged short listed ranges = record {
  bounds = short;
  commands = (ranges, tt);
  known = All-cons AreServed commands [] (script_served script commands listed) (All-nil AreServed);
  slices = ranged.0;
  bound = ranged.3;
}
