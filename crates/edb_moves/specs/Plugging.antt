-- The answer of a shared act takes the place of its node: a value, or a raise that goes outward as any other.

use Rattle.std.specs.Prelude.{ℕ}
use Rattle.edb_pure.specs.Answers.{Answer}
use Rattle.edb_moves.specs.Running.{Run}
use Rattle.edb_moves.specs.Going.{outside, go, settled}
use Rattle.edb_moves.specs.Calls.{answered}

unfoldable pub plugged : ℕ → Answer → Run → Run
plugged me answer t = settled t (go (λ p r. answered p answer) (outside me) t)
