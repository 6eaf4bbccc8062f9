use Rattle.std.proofs.Common.{◌≡◌, ◌++◌, List, ℕ, length}
use Rattle.std.specs.Prelude.{count_by, ◌==◌}
use Rattle.edb_scan.proofs.TopLemmas.{Goes, Comes}
use Rattle.edb_scan.proofs.top.scan.Given as goal

abbrev pub invariant-loop-rest : goal.invariant-loop-rest
invariant-loop-rest l = (front : List ℕ) × (l.bytes ≡ front ++ l.rest) × (l.lines ≡ count_by (λ c. c == 10) front)
    × Goes l.bytes front l.behind_string l.rest l.items.items × Comes l.bytes front l.behind_string l.rest

abbrev pub decreases-loop-rest : goal.decreases-loop-rest
decreases-loop-rest l = length l.rest
