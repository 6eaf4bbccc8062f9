use Rattle.std.proofs.Common.{map, string_bytes}
use Rattle.edb_tools.proofs.WordLaws.{found_check}
use Rattle.edb_tools.proofs.words.find_request.Goals as goal

pub returns-in_ok-files-in-Some-clause-request : goal.returns-in_ok-files-in-Some-clause-request
returns-in_ok-files-in-Some-clause-request c =
    found_check string_bytes (map string_bytes c.args.words.now) c.in-Some.names.now _ c.in-Some.ensures.names c.in_ok-files-in-Some.ensures.files
