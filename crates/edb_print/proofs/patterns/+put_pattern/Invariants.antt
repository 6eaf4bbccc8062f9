use Rattle.std.proofs.Common.{◌≡◌, ◌++◌, drop}
use Rattle.edb_syntax.specs.Patterns.{pats_of}
use Rattle.edb_print.specs.Pieces.{bytes_of}
use Rattle.edb_print.specs.Layout.{lay_patterns}
use Rattle.edb_print.specs.Parts.{patterns_left}
use Rattle.edb_print.specs.Views.{gap_of}
use Rattle.edb_print.proofs.patterns.+put_pattern.Given as goal

-- what was put and what is left are all
abbrev pub invariant-put_patterns-loop-pattern : goal.invariant-put_patterns-loop-pattern
invariant-put_patterns-loop-pattern l =
    l.out.items ++ bytes_of (patterns_left l.first (gap_of l.gap) (pats_of (drop l.pattern-index l.patterns)))
    ≡ l.fn.out.items ++ bytes_of (lay_patterns (gap_of l.gap) (pats_of l.patterns))
