use Rattle.std.proofs.Common.{◌≡◌, ◌≤◌, take}
use Rattle.std.specs.List.{flat_map}
use Rattle.edb_io.specs.Writes.{Appended}
use Rattle.edb_session.specs.Texts.{form_by}
use Rattle.edb_session.proofs.render.write_pieces.Given as goal

-- the pieces of the entries so far were written, each write was Ok
abbrev pub invariant-loop-entry : goal.invariant-loop-entry
invariant-loop-entry g l = record {
  written : Appended (g.S.Sink.written l.fn.sink) (g.S.Sink.written l.sink) (flat_map (form_by l.as_journal).piece (take l.entry-index l.entries));
  later : g.S.Sink.faults l.fn.sink ≤ g.S.Sink.faults l.sink;
  kept : g.S.Sink.flagged l.sink ≡ g.S.Sink.flagged l.fn.sink;
}
