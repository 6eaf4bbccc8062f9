use Rattle.std.proofs.Common.{◌≡◌, drop}
use Rattle.std.specs.Prelude.{nat_le}
use Rattle.edb_syntax.specs.Patterns.{pats_of}
use Rattle.edb_syntax.specs.Depths.{patterns_depth}
use Rattle.edb_syntax.proofs.pattern.+pattern_within.Given as goal

abbrev pub invariant-patterns_within-loop-pattern : goal.invariant-patterns_within-loop-pattern
invariant-patterns_within-loop-pattern l = nat_le (patterns_depth (pats_of (drop l.pattern-index l.patterns))) l.levels ≡ nat_le (patterns_depth (pats_of l.patterns)) l.levels
