use Rattle.std.proofs.Common.{◌≡◌, ◌++◌, drop}
use Rattle.edb_report.specs.Rendering.{transcript}
use Rattle.edb_report.proofs.entries.render.Given as goal

-- the lines so far, and those of what is left, are all
abbrev pub invariant-loop-entry : goal.invariant-loop-entry
invariant-loop-entry l = l.out.items ++ transcript (drop l.entry-index l.entries) ≡ transcript l.entries
