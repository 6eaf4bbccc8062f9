use Rattle.std.proofs.Common.{rules, inl, inr}
use Rattle.edb_io.proofs.mem_files.MemFilesFiles.read.Goals as goal
use Rattle.edb_io.proofs.mem_files.MemFilesFiles.read.Goals.{then-contains, else-contains}

pub returns-in_ok-note_read-in-None-clause-failed :
    goal.returns-in_ok-note_read-in-None-clause-failed
returns-in_ok-note_read-in-None-clause-failed c =
    λ _. elim c.if-contains.branch [ then-contains w ↦ inl (search rules) | else-contains w ↦ inr (search rules) ]
