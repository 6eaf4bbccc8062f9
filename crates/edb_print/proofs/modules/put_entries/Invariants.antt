use Rattle.std.proofs.Common.{◌≡◌, ◌++◌, true, drop}
use Rattle.edb_print.specs.Pieces.{bytes_of}
use Rattle.edb_print.specs.Parts.{entries_left}
use Rattle.edb_print.proofs.modules.put_entries.Given as goal

-- what was put and what is left are all
abbrev pub invariant-loop-entry : goal.invariant-loop-entry
invariant-loop-entry l =
    l.out.items ++ bytes_of (entries_left l.first (drop l.entry-index l.entries)) ≡ l.fn.out.items ++ bytes_of (entries_left true l.entries)
