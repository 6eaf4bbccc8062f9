use Rattle.std.proofs.Common.{◌≡◌, ◌+◌, ◌≤◌}
use Rattle.edb_eval.specs.Levels.{highest}
use Rattle.edb_rules.specs.Slices.{after_moves}
use Rattle.edb_world.proofs.SliceLaws.{GoesOn}
use Rattle.edb_world.proofs.slices.make_slice.Given as goal

-- so many moves were made, and the slice ended at none of the positions before
abbrev pub invariant-loop-moves : goal.invariant-loop-moves
invariant-loop-moves l = record {
  tree : l.process ≡ after_moves l.code l.handout.versions l.moves l.fn.process;
  goes : GoesOn l.code l.handout l.fn.process l.moves;
  levels : highest l.process ≤ highest l.fn.process + l.moves;
}
