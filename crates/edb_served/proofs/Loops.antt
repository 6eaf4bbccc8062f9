-- One turn of a loop.

use Rattle.std.proofs.Common.{◌≡◌, ℕ, zero, suc, ◌-◌, ◌<◌, nat_eq, false, List, [], ◌∷◌, ◌++◌, Some, refl, arith}
use Rattle.edb_event.specs.declared.call.AutoFlag.{AutoFlag}
use Rattle.edb_fields.specs.Hexadecimal.{AreBytes, bytes_at}
use Rattle.edb_journal.specs.Wide.{AreRows}
use Rattle.edb_served.specs.Answers.{rows_at}
use Rattle.edb_served.specs.Calls.{flags_at}
use Rattle.edb_served.specs.Small.{flag_at}
use Rattle.edb_served.specs.Words.{begins_with}

pub row_on : (more : ℕ) (found next : List (List ℕ)) (bytes row after : List ℕ) → 0 < more → next ≡ found ++ row ∷ [] → bytes_at bytes ≡ Some (row, after)
    → rows_at more found bytes ≡ rows_at (more - 1) next after
row_on zero found next bytes row after some is read = absurd (omega (arith, some))
row_on (suc more) found next bytes row after some is read =
    let less : suc more - 1 ≡ more = omega arith in
    rw less (rw is (rw read refl))

pub rows_kept : (rows : List (List ℕ)) (row : List ℕ) → AreRows rows → AreBytes row → AreRows (rows ++ row ∷ [])
rows_kept [] row are is = (is, tt)
rows_kept (r ∷ rows) row are is = (are.0, rows_kept rows row are.1 is)

pub flag_on : (turns : ℕ) (found next : List AutoFlag) (bytes : List ℕ) (flag : AutoFlag) (after : List ℕ) → 0 < turns → begins_with (nat_eq 61) bytes ≡ false
    → next ≡ found ++ flag ∷ [] → flag_at bytes ≡ Some (flag, after) → flags_at turns found bytes ≡ flags_at (turns - 1) next after
flag_on zero found next bytes flag after some goes is read = absurd (omega (arith, some))
flag_on (suc turns) found next bytes flag after some goes is read =
    let less : suc turns - 1 ≡ turns = omega arith in
    rw less (rw is (rw goes (rw read refl)))
