use Rattle.std.proofs.Common.{◌≡◌, ◌+◌, drop}
use Rattle.edb_event.specs.Weights.{weight}
use Rattle.edb_event.proofs.journal.Journal.weight.Given as goal

abbrev pub invariant-loop-entry : goal.invariant-loop-entry
invariant-loop-entry l = l.total + weight (drop l.entry-index l.entry-items) ≡ weight l.entry-items
