use Rattle.std.proofs.Common.{map, string_bytes}
use Rattle.edb_tools.specs.Requests.{request_of}
use Rattle.edb_tools.proofs.RefusalLaws.{no_name, read_nothing, written_as}
use Rattle.edb_tools.proofs.top.run_tool.Goals as goal

pub returns-in-Ok-Some-clause-written : goal.returns-in-Ok-Some-clause-written
returns-in-Ok-Some-clause-written g c =
    written_as _ _ _ _ _ _ _ _ _ _ _ (rw c.in-Ok-Some.field-0-is at c.in-Ok-Some.ensures.request) c.serve.ensures.written

pub returns-in-Ok-None-clause-written : goal.returns-in-Ok-None-clause-written
returns-in-Ok-None-clause-written g c =
    c.refuse.ensures.written (request_of (map string_bytes c.args.words.now)) _ _ (no_name _ (rw c.in-Ok-None.field-0-is at c.in-Ok-None.ensures.request))

pub returns-in-Err-clause-reads : goal.returns-in-Err-clause-reads
returns-in-Err-clause-reads g c = read_nothing (request_of (map string_bytes c.args.words.now)) _
