use Rattle.std.proofs.Common.{◌≡◌, length, map, take}
use Rattle.edb_files.specs.Asking.{asked_of}
use Rattle.edb_files.specs.InOrder.{text_file}
use Rattle.edb_session.specs.Views.{texts_of}
use Rattle.edb_session.proofs.top.asked_files.Given as goal

-- the files of the names so far
abbrev pub invariant-loop-name : goal.invariant-loop-name
invariant-loop-name l = record {
  files : map asked_of l.files.items ≡ map text_file (texts_of (take l.name-index l.names));
  count : length l.files.items ≡ l.name-index;
}
