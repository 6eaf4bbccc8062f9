use Rattle.std.proofs.Common.{◌≡◌, map, take}
use Rattle.edb_files.specs.Asking.{asked_of}
use Rattle.edb_tools.specs.Ends.{joined}
use Rattle.edb_tools.proofs.LineLaws.{ok_lines}
use Rattle.edb_tools.proofs.lines.ok_texts.Given as goal

-- the lines so far are those of the files so far
abbrev pub invariant-loop-file : goal.invariant-loop-file
invariant-loop-file l = joined l.lines.items ≡ ok_lines (map asked_of (take l.file-index l.files))
