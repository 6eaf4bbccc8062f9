-- The operands of a call with its module, as a list.

use Rattle.std.specs.Prelude.{ℕ, ◌+◌, ◌<◌, false, List, [], ◌∷◌, length}
use Rattle.std.proofs.Common.{◌≡◌, refl, get_or, arith}
use Rattle.edb_syntax.proofs.Lists.{count-exps_of}
use Rattle.edb_syntax.specs.Syntax.{Exp, exps_of, count}
use Rattle.edb_notyet.specs.Calls.{call_is_beyond, remote_call_is_beyond}

pub call_short : (es : List Exp) → length es < 2 → false ≡ remote_call_is_beyond (exps_of es)
call_short [] lt = refl
call_short (e ∷ []) lt = refl
call_short (e ∷ d ∷ es) lt = absurd (omega arith)

pub call_long : (es : List Exp) (m f : Exp) (n : ℕ) → n + 2 ≡ length es → m ≡ get_or es 0 m → f ≡ get_or es 1 f → call_is_beyond m f n ≡ remote_call_is_beyond (exps_of es)
call_long [] m f n e is1 is2 = absurd (omega arith)
call_long (a ∷ []) m f n e is1 is2 = absurd (omega arith)
call_long (a ∷ b ∷ es) m f n e is1 is2 = λ i. call_is_beyond (is1 i) (is2 i) (counted i)
  where
    counted : n ≡ count (exps_of es)
    counted = omega (arith, count-exps_of es)
