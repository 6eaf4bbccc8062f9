use Rattle.std.proofs.Common.{◌≡◌, ◌≤◌, ◌++◌, length, map}
use Rattle.edb_files.specs.InOrder.{reads_of}
use Rattle.edb_files.specs.Asking.{asked_of}
use Rattle.edb_files.proofs.reading.read_in_order.Given as goal

-- the files so far were read, and these are their texts
abbrev pub invariant-loop-file : goal.invariant-loop-file
invariant-loop-file g l = record {
  count : length l.texts.items ≡ l.file-index;
  listed : g.F.Files.reads l.files ≡ g.F.Files.reads l.fn.files ++ reads_of (map asked_of l.asked) l.texts.items;
  later : g.F.Files.faults l.fn.files ≤ g.F.Files.faults l.files;
}
