use Rattle.std.proofs.Common.{◌≡◌, ◌≤◌, ◌++◌, length}
use Rattle.edb_event.specs.Ranges.{most_weight}
use Rattle.edb_event.specs.Weights.{weight}
use Rattle.edb_journal.specs.Accepted.{IsAccepted}
use Rattle.edb_journal.specs.Texts.{journal_text}
use Rattle.edb_journal_read.proofs.journals.read_lines.Given as goal

-- what was read is accepted, and its text and the rest are the whole
abbrev pub invariant-loop-rest : goal.invariant-loop-rest
invariant-loop-rest l = record {
  text : l.fn.bytes ≡ journal_text l.journal.entries ++ l.rest;
  accepted : IsAccepted l.journal.entries;
  heavy : l.heavy ≡ weight l.journal.entries;
  light : l.heavy ≤ most_weight;
}

abbrev pub decreases-loop-rest : goal.decreases-loop-rest
decreases-loop-rest l = length l.rest
