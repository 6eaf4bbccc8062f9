use Rattle.std.proofs.Common.{◌≡◌, ◌++◌, List, ℕ, drop}
use Rattle.edb_scan.specs.declared.lexeme.Mark.{Mark}
use Rattle.edb_scan.specs.RowFronts.{table_of}
use Rattle.edb_scan.specs.Spellings.{Lists}
use Rattle.edb_scan.proofs.marks.find_front.Given as goal

-- each row that begins the bytes is still to come
abbrev pub invariant-loop-spelling : goal.invariant-loop-spelling
invariant-loop-spelling l = (text after : List ℕ) (m : Mark) → l.bytes ≡ text ++ after → Lists (table_of l.table) text m → Lists (table_of (drop l.spelling-index l.table)) text m
