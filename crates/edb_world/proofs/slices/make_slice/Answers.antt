use Rattle.std.proofs.Common.{refl, arith, rules}
use Rattle.edb_model.specs.Lookup.{first_versions}
use Rattle.edb_world.proofs.SliceLaws.{slice_made, one_more, goes_on, move_next, not_full}
use Rattle.edb_world.proofs.slices.make_slice.Goals as goal

pub returns-in-Some-clause-slice : goal.returns-in-Some-clause-slice
returns-in-Some-clause-slice c =
    slice_made c.args.code.now c.args.handout.now c.args.process.now c.loop-moves.process c.loop-moves.moves c.loop-moves.moves c.in-Some.end
    refl c.loop-moves.invariant.tree c.loop-moves.invariant.goes c.in-Some.ensures

pub step-requires-clause-move_ : goal.step-requires-clause-move_
step-requires-clause-move_ c = move_next c.args.code.now c.args.handout.now c.loop-moves.moves c.loop-moves.process c.in_default.ensures

pub loop-moves-preserved : goal.loop-moves-preserved
loop-moves-preserved c = record {
  tree = one_more c.args.code.now c.args.handout.now.versions (first_versions c.args.code.now) c.loop-moves.moves c.args.process.now c.loop-moves.process c.step.new.self
      c.requires.versions c.loop-moves.invariant.tree c.in_ok-step.ensures.ok;
  goes = goes_on c.args.code.now c.args.handout.now c.args.process.now c.loop-moves.process c.loop-moves.moves
      c.loop-moves.invariant.tree c.loop-moves.invariant.goes c.in_default.ensures;
  levels = omega (arith, c.step.ensures.levels, c.loop-moves.invariant.levels);
}

pub unreachable-requires : goal.unreachable-requires
unreachable-requires c =
    not_full c.args.code.now c.args.handout.now c.handout.inside.budget c.loop-moves.process c.in-None.ensures (search rules) (search rules)

pub returns-clause-slice : goal.returns-clause-slice
returns-clause-slice c =
    slice_made c.args.code.now c.args.handout.now c.args.process.now c.loop-moves.process c.loop-moves.moves c.handout.inside.budget c.in-Some-end_at.end
    (omega arith) c.loop-moves.invariant.tree c.loop-moves.invariant.goes c.in-Some-end_at.ensures
