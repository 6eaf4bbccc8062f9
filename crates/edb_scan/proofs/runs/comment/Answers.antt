use Rattle.edb_scan.proofs.ShortKinds.{comment_found, comment_none}
use Rattle.edb_scan.proofs.runs.comment.Goals as goal

pub returns-in-Ok : goal.returns-in-Ok
returns-in-Ok c = comment_found c.args.bytes.now c.split_line.result.0.now c.split_line.result.1.now c.split_line.ensures c.in-Ok.ensures.cases.1

pub returns-in-Err : goal.returns-in-Err
returns-in-Err c = comment_none c.args.bytes.now c.split_line.result.0.now c.split_line.result.1.now c.split_line.ensures c.in-Err.ensures.cases.0
