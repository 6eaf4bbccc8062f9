use Rattle.std.proofs.Common.{◌≤◌, length, drop}
use Rattle.edb_check.specs.Parts.{patterns_part}
use Rattle.edb_check.specs.Walking.{Goes}
use Rattle.edb_check.proofs.walk.Walk.+pattern.Given as goal

abbrev pub invariant-patterns-loop-pattern : goal.invariant-patterns-loop-pattern
invariant-patterns-loop-pattern l = record {
  within : l.mark ≤ length l.self.scope;
  goes : Goes l.initial.self l.self (patterns_part (drop l.mark l.initial.self.scope) l.patterns) (patterns_part (drop l.mark l.self.scope) (drop l.pattern-index l.patterns));
}
