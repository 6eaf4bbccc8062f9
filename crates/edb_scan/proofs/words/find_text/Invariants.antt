use Rattle.std.proofs.Common.{drop}
use Rattle.edb_scan.specs.declared.lexeme.Mark.{Mark}
use Rattle.edb_scan.specs.RowFronts.{table_of}
use Rattle.edb_scan.specs.Spellings.{Lists}
use Rattle.edb_scan.proofs.words.find_text.Given as goal

abbrev pub invariant-loop-spelling : goal.invariant-loop-spelling
invariant-loop-spelling l = (m : Mark) → Lists (table_of l.table) l.text m → Lists (table_of (drop l.spelling-index l.table)) l.text m
