use Rattle.std.proofs.Common.{◌≡◌, take}
use Rattle.edb_syntax.proofs.pattern.+copy_pattern.Given as goal

abbrev pub invariant-copy_patterns-loop-pattern : goal.invariant-copy_patterns-loop-pattern
invariant-copy_patterns-loop-pattern l = l.copies.items ≡ take l.pattern-index l.patterns
