use Rattle.std.proofs.Common.{◌≡◌, ◌≤◌, ◌∷◌, [], length}
use Rattle.edb_moves.specs.Running.{value}
use Rattle.edb_moves.specs.Going.{Place, turns}
use Rattle.edb_stack.specs.Marks.{AllBelow}
use Rattle.edb_stack.specs.Places.{out}
use Rattle.edb_stack.specs.Views.{item_of}
use Rattle.edb_stack.specs.Redexes.{value_in}
use Rattle.edb_running.specs.Standing.{layers_in, info_in, pairs_in, Holds}
use Rattle.edb_running.specs.Rising.{next_code, IsNext, next_count}
use Rattle.edb_running.proofs.running.Running.give.Given as goal

abbrev pub invariant-loop-layer : goal.invariant-loop-layer
invariant-loop-layer l =
    Holds l.self
    × AllBelow (length (pairs_in l.self)) (item_of l.item ∷ [])
    × IsNext l.next (next_code l.self.layers.0)
    × (next_count l.next ≤ l.self.layers.1)
    × ((p : Place) → out p (layers_in l.self) (info_in l.self) (turns (pairs_in l.self) (value (value_in (pairs_in l.self) l.item))) ≡ out p (layers_in l.fn.self) (info_in l.fn.self) (turns (pairs_in l.fn.self) (value (value_in (pairs_in l.fn.self) l.fn.item))))

abbrev pub decreases-loop-layer : goal.decreases-loop-layer
decreases-loop-layer l = length l.self.layers.0
