-- The operands of a guard test's call with its module, as a list.

use Rattle.std.specs.Prelude.{ℕ, ◌+◌, ◌<◌, false, List, [], ◌∷◌, length}
use Rattle.std.proofs.Common.{◌≡◌, refl, get_or, arith}
use Rattle.edb_syntax.proofs.Lists.{count-exps_of}
use Rattle.edb_syntax.specs.Syntax.{Exp, exps_of, count}
use Rattle.edb_check.specs.GuardRules.{name_test, is_named_test}

pub named_short : (es : List Exp) → length es < 2 → false ≡ is_named_test (exps_of es)
named_short [] lt = refl
named_short (e ∷ []) lt = refl
named_short (e ∷ d ∷ es) lt = absurd (omega arith)

pub named_long : (es : List Exp) (m f : Exp) (n : ℕ) → n + 2 ≡ length es → m ≡ get_or es 0 m → f ≡ get_or es 1 f → name_test m f n ≡ is_named_test (exps_of es)
named_long [] m f n e is1 is2 = absurd (omega arith)
named_long (a ∷ []) m f n e is1 is2 = absurd (omega arith)
named_long (a ∷ b ∷ es) m f n e is1 is2 = λ i. name_test (is1 i) (is2 i) (counted i)
  where
    counted : n ≡ count (exps_of es)
    counted = omega (arith, count-exps_of es)
