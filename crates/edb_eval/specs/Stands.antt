-- The running expression that a machine stands for.

use Rattle.edb_model.specs.Running.{Run, value, raised, opening_call}
use Rattle.edb_eval.specs.declared.machine.State.{State}
use Rattle.edb_eval.specs.declared.machine.State.TheVariants as state
use Rattle.edb_eval.specs.declared.machine.Machine.{Machine}
use Rattle.edb_eval.specs.declared.running.Outcome.{Outcome}
use Rattle.edb_eval.specs.declared.running.Outcome.TheVariants as outcome
use Rattle.edb_eval.specs.Tree.{tree}

abbrev pub state_tree : State → Run
state_tree (state.Opening m f args) = opening_call m f args
state_tree (state.Running r) = tree r
state_tree (state.Value v) = value v
state_tree (state.Raised c v) = raised c v

abbrev pub stands_for : Machine → Run
stands_for m = state_tree m.state

-- the state after a move that comes to this
abbrev pub settled_state : State → Outcome → State
settled_state s outcome.Stays = s
settled_state s (outcome.Ends v) = state.Value v
settled_state s (outcome.Raises c v) = state.Raised c v
