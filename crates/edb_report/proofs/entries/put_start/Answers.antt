use Rattle.std.proofs.Common.{length}
use Rattle.std.proofs.lemmas.Result.{on_ok_weaker}
use Rattle.std.specs.Fmt.{decimal}
use Rattle.edb_lang.specs.Terms.{elements}
use Rattle.edb_words.specs.Words.{angled}
use Rattle.edb_report.specs.Places.{function_text}
use Rattle.edb_report.proofs.Lines.{start_line}
use Rattle.edb_report.proofs.entries.put_start.Goals as goal

pub returns : goal.returns
returns c =
    let console = decimal c.args.console in
    let process = angled c.args.pid in
    let function = function_text c.args.«module».now c.args.name.now (length (elements c.args.args.now)) in
    let line_of = start_line _ console process function _ _ _ _ c.in_ok-put_head.ensures c.in_ok-put_process.ensures c.in_ok-put_applied.ensures in
    on_ok_weaker c.put_text.result line_of c.put_text.ensures
