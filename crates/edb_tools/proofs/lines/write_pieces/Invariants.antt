use Rattle.std.proofs.Common.{◌≡◌, ◌≤◌, take}
use Rattle.edb_io.specs.Writes.{Appended}
use Rattle.edb_tools.specs.Ends.{joined}
use Rattle.edb_tools.proofs.lines.write_pieces.Given as goal

-- the pieces so far were written, and each write was Ok
abbrev pub invariant-loop-piece : goal.invariant-loop-piece
invariant-loop-piece g l = record {
  written : Appended (g.S.Sink.written l.fn.sink) (g.S.Sink.written l.sink) (joined (take l.piece-index l.pieces));
  later : g.S.Sink.faults l.fn.sink ≤ g.S.Sink.faults l.sink;
  kept : g.S.Sink.flagged l.sink ≡ g.S.Sink.flagged l.fn.sink;
}
