use Rattle.std.proofs.Common.{map, string_bytes}
use Rattle.edb_tools.specs.Requests.{request_of}
use Rattle.edb_tools.proofs.CauseLaws.{refusal_comes, done_comes}
use Rattle.edb_tools.proofs.top.tool.Goals as goal

pub returns-clause-refusal_comes : goal.returns-clause-refusal_comes
returns-clause-refusal_comes g c = refusal_comes (request_of (map string_bytes c.args.words.now)) _ _ _ _ _ c.run_tool.ensures.cause

pub returns-clause-done_comes : goal.returns-clause-done_comes
returns-clause-done_comes g c =
    done_comes (request_of (map string_bytes c.args.words.now)) _ _ _ _ _ _ _ _ _ _ _ c.run_tool.ensures.cause c.run_tool.ensures.written
