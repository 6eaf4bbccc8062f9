use Rattle.std.proofs.Common.{◌≡◌, ◌++◌, drop}
use Rattle.std.specs.List.{flat_map}
use Rattle.edb_journal.specs.Lines.{line}
use Rattle.edb_journal.proofs.journals.put_entries.Given as goal

-- what was put and what is left are all
abbrev pub invariant-loop-entry : goal.invariant-loop-entry
invariant-loop-entry l = l.out.items ++ flat_map line (drop l.entry-index l.entries) ≡ l.fn.out.items ++ flat_map line l.entries
