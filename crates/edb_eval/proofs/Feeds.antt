-- Operands, one behind the other.

use Rattle.std.proofs.Common.{◌≡◌, refl, ap, List, [], ◌∷◌, ◌++◌}
use Rattle.edb_lang.specs.Terms.{Datum}
use Rattle.edb_model.specs.Running.{Runs, value, more, none, all_values}
use Rattle.edb_eval.specs.Tree.{operands}

pub operands-append : (vs : List Datum) (v : Datum) (ts : Runs) → operands (vs ++ v ∷ []) ts ≡ operands vs (more (value v) ts)
operands-append [] v ts = refl
operands-append (w ∷ vs) v ts = ap (more (value w)) (operands-append vs v ts)

pub operands-none : (vs : List Datum) → operands vs none ≡ all_values vs
operands-none [] = refl
operands-none (v ∷ vs) = ap (more (value v)) (operands-none vs)

pub ruleset feeds = (operands-append, operands-none)
