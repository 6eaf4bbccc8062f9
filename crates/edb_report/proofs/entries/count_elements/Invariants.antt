use Rattle.std.proofs.Common.{◌≡◌, ◌+◌, length}
use Rattle.edb_lang.specs.Terms.{elements}
use Rattle.edb_report.proofs.entries.count_elements.Given as goal

-- what was counted and what is left are all
abbrev pub invariant-loop-at : goal.invariant-loop-at
invariant-loop-at l = l.count + length (elements l.at) ≡ length (elements l.list)
