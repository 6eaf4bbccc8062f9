-- What was put piece by piece is a line.

use Rattle.std.proofs.Common.{◌≡◌, ℕ, List, [], ◌∷◌, ◌++◌, codes, arith}
use Rattle.std.proofs.lemmas.Grind.{common_steps}
use Rattle.edb_report.specs.Rendering.{line}

pub start_line : (out console process function first second third whole : List ℕ)
    → first ≡ out ++ (codes "-- " ++ console ++ codes " " ++ codes "start")
    → second ≡ first ++ (codes " " ++ process)
    → third ≡ second ++ (codes " " ++ function)
    → whole ≡ third ++ codes "\n"
    → whole ≡ out ++ line (console ∷ codes "start" ∷ process ∷ function ∷ [])
start_line out console process function first second third whole h i j k = grind (arith, common_steps)
