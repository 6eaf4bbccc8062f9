use Rattle.std.proofs.Common.{◌≡◌, Option, Some, map, string_bytes, sym, ◌∙◌, ap, subst}
use Rattle.std.specs.Option.{option_map}
use Rattle.edb_options.specs.Options.{Wanted, options_in}
use Rattle.edb_options.specs.Seeing.{wanted_of}
use Rattle.edb_session.specs.Ends.{IsWritten}
use Rattle.edb_session.proofs.top.run_session.Goals as goal

pub returns-in-Some-clause-written : goal.returns-in-Some-clause-written
returns-in-Some-clause-written g c =
    let is : Some (wanted_of c.in-Some.request) ≡ options_in (map string_bytes c.args.words.now)
    = ap (option_map wanted_of) (sym c.in-Some.is) ∙ c.in-Ok.ensures.words in
    subst (λ (w : Option Wanted). IsWritten w c.run_request.result.0.journal.entries (g.S.Sink.written c.args.sink) (g.S.Sink.written c.run_request.result.1)
    (g.S.Sink.faults c.args.sink) (g.S.Sink.faults c.run_request.result.1) (g.S.Sink.flagged c.args.sink) (g.S.Sink.flagged c.run_request.result.1) c.run_request.result.0.end) is
    c.run_request.ensures.written
