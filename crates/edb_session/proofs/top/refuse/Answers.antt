use Rattle.std.proofs.Common.{sym, subst}
use Rattle.edb_session.specs.declared.ending.End.{End}
use Rattle.edb_session.specs.Ends.{IsRefusalWritten}
use Rattle.edb_session.specs.Views.{texts_of}
use Rattle.edb_session.proofs.Refusals.{line_written}
use Rattle.edb_session.proofs.top.refuse.Goals as goal

pub returns-in-Tried-clause-written : goal.returns-in-Tried-clause-written
returns-in-Tried-clause-written g c =
    subst (λ (e : End). IsRefusalWritten (texts_of c.args.names.now) (g.S.Sink.written c.args.sink) (g.S.Sink.written c.write_refusal.new.sink)
    (g.S.Sink.faults c.args.sink) (g.S.Sink.faults c.write_refusal.new.sink) (g.S.Sink.flagged c.args.sink) (g.S.Sink.flagged c.write_refusal.new.sink) e) (sym c.empty_ending.ensures.end)
    (line_written (texts_of c.args.names.now) c.args.end (g.S.Sink.written c.args.sink) (g.S.Sink.written c.write_refusal.new.sink)
    (g.S.Sink.faults c.args.sink) (g.S.Sink.faults c.write_refusal.new.sink) (g.S.Sink.flagged c.args.sink) (g.S.Sink.flagged c.write_refusal.new.sink) c.requires c.in-Tried.ensures)
