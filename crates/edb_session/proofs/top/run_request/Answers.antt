use Rattle.std.proofs.Common.{Some, ap}
use Rattle.edb_options.specs.Seeing.{wanted_of}
use Rattle.edb_session.specs.Views.{texts_of}
use Rattle.edb_session.proofs.Refusals.{refusal_written, refusal_kept}
use Rattle.edb_session.proofs.top.run_request.Goals as goal

pub returns-in-Err-clause-written : goal.returns-in-Err-clause-written
returns-in-Err-clause-written g c =
    refusal_written (Some (wanted_of c.args.request.now)) (texts_of c.as_slice.result.now) c.refuse.result.0.journal.entries c.refuse.result.0.end (g.S.Sink.written c.args.sink) (g.S.Sink.written c.refuse.result.1)
    (g.S.Sink.faults c.args.sink) (g.S.Sink.faults c.refuse.result.1) (g.S.Sink.flagged c.args.sink) (g.S.Sink.flagged c.refuse.result.1) (ap texts_of c.as_slice.ensures.value)
    (refusal_kept c.refuse.result.0.end c.in-Err.end c.refuse.ensures.end c.in-Err.ensures.refusal) c.refuse.ensures.written
