use Rattle.std.proofs.Common.{◌≡◌, length}
use Rattle.edb_model.specs.Move.{all_matched}
use Rattle.edb_eval.proofs.calls.match_all.Given as goal

abbrev pub invariant-loop-pattern : goal.invariant-loop-pattern
invariant-loop-pattern l =
    all_matched l.patterns_left l.values_left l.bindings ≡ all_matched l.initial.patterns_left l.initial.values_left l.initial.bindings

abbrev pub decreases-loop-pattern : goal.decreases-loop-pattern
decreases-loop-pattern l = length l.patterns_left
