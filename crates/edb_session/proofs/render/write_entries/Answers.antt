use Rattle.std.proofs.Common.{List, ℕ, subst}
use Rattle.edb_io.specs.Writes.{Appended, AppendedPart}
use Rattle.edb_session.proofs.Answered.{on_ok, on_err}
use Rattle.edb_session.proofs.Pieces.{whole_written, head_part, pieces_part}
use Rattle.edb_session.proofs.render.write_entries.Goals as goal

pub returns-in-Ok-clause-ok : goal.returns-in-Ok-clause-ok
returns-in-Ok-clause-ok g c =
    on_ok c.write_pieces.result (whole_written c.args.as_journal c.args.entries.now (g.S.Sink.written c.args.sink.now) (g.S.Sink.written c.write_piece.new.sink) (g.S.Sink.written c.write_pieces.new.sink)
    (subst (λ (t : List ℕ). Appended (g.S.Sink.written c.args.sink.now) (g.S.Sink.written c.write_piece.new.sink) t) c.head.ensures c.in-Ok.ensures.ok)) c.write_pieces.ensures.ok

pub returns-in-Ok-clause-part : goal.returns-in-Ok-clause-part
returns-in-Ok-clause-part g c =
    on_err c.write_pieces.result (pieces_part c.args.as_journal c.args.entries.now (g.S.Sink.written c.args.sink.now) (g.S.Sink.written c.write_piece.new.sink) (g.S.Sink.written c.write_pieces.new.sink)
    (subst (λ (t : List ℕ). Appended (g.S.Sink.written c.args.sink.now) (g.S.Sink.written c.write_piece.new.sink) t) c.head.ensures c.in-Ok.ensures.ok)) c.write_pieces.ensures.part

pub returns-in-Err-clause-part : goal.returns-in-Err-clause-part
returns-in-Err-clause-part g c =
    head_part c.args.as_journal c.args.entries.now (g.S.Sink.written c.args.sink.now) (g.S.Sink.written c.write_piece.new.sink)
    (subst (λ (t : List ℕ). AppendedPart (g.S.Sink.written c.args.sink.now) (g.S.Sink.written c.write_piece.new.sink) t) c.head.ensures c.in-Err.ensures.part)
