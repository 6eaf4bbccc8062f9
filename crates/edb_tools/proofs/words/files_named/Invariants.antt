use Rattle.std.proofs.Common.{◌≡◌, length, map, take, string_bytes}
use Rattle.edb_files.specs.InOrder.{text_file}
use Rattle.edb_files.specs.Asking.{asked_of}
use Rattle.edb_tools.proofs.words.files_named.Given as goal

-- the files so far are those of the names so far
abbrev pub invariant-loop-name : goal.invariant-loop-name
invariant-loop-name l = record {
  files : map asked_of l.files.items ≡ map (λ name. text_file (string_bytes name)) (take l.name-index l.names);
  count : length l.files.items ≡ l.name-index;
}
