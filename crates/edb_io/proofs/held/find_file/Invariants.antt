use Rattle.std.proofs.Common.{◌≡◌, take}
use Rattle.std.specs.Option.{option_copied}
use Rattle.edb_io.specs.Held.{files_with, no_files}
use Rattle.edb_io.proofs.held.find_file.Given as goal

-- what was found so far is the content among the files that were looked at
abbrev pub invariant-loop-file : goal.invariant-loop-file
invariant-loop-file l = option_copied l.found ≡ files_with no_files (take l.file-index l.held) l.name
