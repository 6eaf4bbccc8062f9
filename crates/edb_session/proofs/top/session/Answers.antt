use Rattle.std.proofs.Common.{map, string_bytes}
use Rattle.edb_options.specs.Options.{options_in}
use Rattle.edb_session.proofs.Exclusions.{words_exact, module_exact, script_exact, done_exact, limit_exact, complete}
use Rattle.edb_session.proofs.top.session.Goals as goal

pub returns-clause-exact_words : goal.returns-clause-exact_words
returns-clause-exact_words g c =
    words_exact (options_in (map string_bytes c.args.words.now)) (g.F.Files.reads c.args.files.now) (g.F.Files.reads c.run_session.new.files) (g.F.Files.faults c.args.files.now) (g.F.Files.faults c.run_session.new.files) (g.S.Sink.faults c.args.sink) (g.S.Sink.faults c.run_session.result.1) c.run_session.result.0.journal.entries c.run_session.result.0.tables (g.S.Sink.written c.args.sink) (g.S.Sink.written c.run_session.result.1) (g.S.Sink.flagged c.args.sink) (g.S.Sink.flagged c.run_session.result.1)
    c.run_session.result.0.end c.run_session.ensures.cause c.run_session.ensures.run

pub returns-clause-exact_module : goal.returns-clause-exact_module
returns-clause-exact_module g c =
    module_exact (options_in (map string_bytes c.args.words.now)) (g.F.Files.reads c.args.files.now) (g.F.Files.reads c.run_session.new.files) (g.F.Files.faults c.args.files.now) (g.F.Files.faults c.run_session.new.files) (g.S.Sink.faults c.args.sink) (g.S.Sink.faults c.run_session.result.1) c.run_session.result.0.journal.entries c.run_session.result.0.tables (g.S.Sink.written c.args.sink) (g.S.Sink.written c.run_session.result.1) (g.S.Sink.flagged c.args.sink) (g.S.Sink.flagged c.run_session.result.1)
    c.one_verdict_a_text.ensures.one_fault c.one_verdict_a_text.ensures.never_both c.run_session.result.0.end c.run_session.ensures.cause c.run_session.ensures.run

pub returns-clause-exact_script : goal.returns-clause-exact_script
returns-clause-exact_script g c =
    script_exact (options_in (map string_bytes c.args.words.now)) (g.F.Files.reads c.args.files.now) (g.F.Files.reads c.run_session.new.files) (g.F.Files.faults c.args.files.now) (g.F.Files.faults c.run_session.new.files) (g.S.Sink.faults c.args.sink) (g.S.Sink.faults c.run_session.result.1) c.run_session.result.0.journal.entries c.run_session.result.0.tables (g.S.Sink.written c.args.sink) (g.S.Sink.written c.run_session.result.1) (g.S.Sink.flagged c.args.sink) (g.S.Sink.flagged c.run_session.result.1)
    c.one_listing.ensures.never_both c.one_listing.ensures.one_line c.run_session.result.0.end c.run_session.ensures.cause c.run_session.ensures.run

pub returns-clause-exact_done : goal.returns-clause-exact_done
returns-clause-exact_done g c =
    done_exact (options_in (map string_bytes c.args.words.now)) (g.F.Files.reads c.args.files.now) (g.F.Files.reads c.run_session.new.files) (g.F.Files.faults c.args.files.now) (g.F.Files.faults c.run_session.new.files) (g.S.Sink.faults c.args.sink) (g.S.Sink.faults c.run_session.result.1) c.run_session.result.0.journal.entries c.run_session.result.0.tables (g.S.Sink.written c.args.sink) (g.S.Sink.written c.run_session.result.1) (g.S.Sink.flagged c.args.sink) (g.S.Sink.flagged c.run_session.result.1)
    c.one_module.ensures c.one_listing.ensures.one c.one_listing.ensures.never_both c.run_session.result.0.end c.run_session.ensures.cause c.run_session.ensures.run c.run_session.ensures.flag

pub returns-clause-exact_limit : goal.returns-clause-exact_limit
returns-clause-exact_limit g c =
    limit_exact (options_in (map string_bytes c.args.words.now)) (g.F.Files.reads c.args.files.now) (g.F.Files.reads c.run_session.new.files) (g.F.Files.faults c.args.files.now) (g.F.Files.faults c.run_session.new.files) (g.S.Sink.faults c.args.sink) (g.S.Sink.faults c.run_session.result.1) c.run_session.result.0.journal.entries c.run_session.result.0.tables (g.S.Sink.written c.args.sink) (g.S.Sink.written c.run_session.result.1) (g.S.Sink.flagged c.args.sink) (g.S.Sink.flagged c.run_session.result.1)
    c.one_module.ensures c.one_listing.ensures.one c.one_listing.ensures.never_both c.run_session.result.0.end c.run_session.ensures.cause c.run_session.ensures.run c.run_session.ensures.flag

pub returns-clause-complete : goal.returns-clause-complete
returns-clause-complete g c =
    complete (options_in (map string_bytes c.args.words.now)) (g.F.Files.reads c.args.files.now) (g.F.Files.reads c.run_session.new.files) (g.F.Files.faults c.args.files.now) (g.F.Files.faults c.run_session.new.files) (g.S.Sink.faults c.args.sink) (g.S.Sink.faults c.run_session.result.1) c.run_session.result.0.journal.entries c.run_session.result.0.tables (g.S.Sink.written c.args.sink) (g.S.Sink.written c.run_session.result.1) (g.S.Sink.flagged c.args.sink) (g.S.Sink.flagged c.run_session.result.1)
    c.one_listing.ensures.never_both c.run_session.result.0.end c.run_session.ensures.cause c.run_session.ensures.run c.run_session.ensures.written
