use Rattle.std.proofs.Common.{◌∙◌, ◌+◌, drop, arith}
use Rattle.edb_files.proofs.LineLaws.{appended_more, part_more}
use Rattle.edb_tools.specs.Ends.{joined}
use Rattle.edb_tools.proofs.LineLaws.{joined_more, joined_whole}
use Rattle.edb_tools.proofs.lines.write_pieces.Goals as goal

pub returns-in-Err-clause-part : goal.returns-in-Err-clause-part
returns-in-Err-clause-part g c =
    part_more _ _ _ _ _ (joined (drop (c.loop-piece.piece-index + 1) c.args.pieces.now)) _ c.loop-piece.invariant.written
    (rw c.as_slice.ensures at c.in-Err.ensures.part)
    (joined_whole c.args.pieces.now c.loop-piece.piece-index c.piece-item.result (omega arith) c.piece-item.is)

pub loop-piece-preserved : goal.loop-piece-preserved
loop-piece-preserved g c = record {
  written = rw (joined_more c.args.pieces.now c.loop-piece.piece-index c.piece-item.result (omega arith) c.piece-item.is)
      (appended_more _ _ _ _ _ c.loop-piece.invariant.written (rw c.as_slice.ensures at c.in-Ok.ensures.ok));
  later = omega (arith, c.loop-piece.invariant.later, c.in-Ok.ensures.later);
  kept = c.in-Ok.ensures.kept ∙ c.loop-piece.invariant.kept;
}
