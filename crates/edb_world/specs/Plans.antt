-- What a world asks of a plan.

use Rattle.std.specs.Prelude.{◌≡◌, ◌≤◌, true, List, All}
use Rattle.edb_event.specs.declared.call.Command.{Command}
use Rattle.edb_event.specs.Ranges.{AreScripts}
use Rattle.edb_rules.specs.Plans.{Plan}
use Rattle.edb_rules.specs.Replies.{is_served}
use Rattle.edb_rules.specs.Bounds.{AreBounded}

-- each of a console's commands is one that is served
abbrev pub AreServed : List Command → Type 0
AreServed commands = All (λ c. is_served c.call ≡ true) commands

-- The names in the modules are no longer than an atom may be, and the functions have fewer than 2^32 parameters; the
-- commands are in range and of those that are served; a slice has a move at least, and the weight at which a journal is over isn't past a million.
pub record IsPlan (plan : Plan) : Type 0 where
  pub bounds : AreBounded plan.code
  pub commands : AreScripts plan.commands
  pub known : All AreServed plan.commands
  pub slices : 1 ≤ plan.slice_moves
  pub bound : plan.weight_limit ≤ 1_000_000
