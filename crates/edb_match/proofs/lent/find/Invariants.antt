use Rattle.std.proofs.Common.{◌≡◌, ◌≤◌, length, take}
use Rattle.edb_lang.specs.Pairs.{bound}
use Rattle.edb_match.specs.Views.{known_pairs, with_lent}
use Rattle.edb_match.proofs.lent.find.Given as goal

abbrev pub invariant-loop-end : goal.invariant-loop-end
invariant-loop-end l = record {
  within : l.end ≤ length l.lent;
  seen : bound l.name (with_lent (take l.end l.lent) (known_pairs l.known)) ≡ bound l.name (with_lent l.lent (known_pairs l.known));
}

abbrev pub decreases-loop-end : goal.decreases-loop-end
decreases-loop-end l = l.end
