-- A command that was written is read again.

use Rattle.std.proofs.Common.{◌≡◌, ℕ, ◌≤◌, List, [], ◌∷◌, ◌++◌, length, codes, Some, refl, arith}
use Rattle.std.specs.Char.{is_ascii_digit}
use Rattle.std.specs.Fmt.{decimal}
use Rattle.edb_lang.specs.TermText.{atom_text, plain_text}
use Rattle.edb_event.specs.declared.call.AutoFlag.{AutoFlag}
use Rattle.edb_event.specs.declared.call.Call.{Call}
use Rattle.edb_event.specs.declared.call.Call.TheVariants as call
use Rattle.edb_event.specs.Ranges.{IsCall, IsLine, IsArity, IsNumber, IsShort}
use Rattle.std.specs.Prelude.{IsUtf8}
use Rattle.edb_words.specs.Commands.{call_words}
use Rattle.edb_words.specs.Words.{status_word, action_word, flag_word, trace_word}
use Rattle.edb_fields.specs.Separators.{fields}
use Rattle.edb_fields.proofs.FieldLaws.{number_field, name_field, list_field}
use Rattle.edb_journal.specs.Wide.{IsWideCall}
use Rattle.edb_served.specs.Calls.{call_at, place_at, function_at, line_number_at, process_at}
use Rattle.edb_served.proofs.WordLaws.{word_read, status_read, action_read, flag_read, trace_read, digit_first, no_equals_number, no_digit_name, no_equals_name, equals_first, no_equals_flag, flag_not_false, flag_whole, flag_found, begins_field}

line_read : (l : ℕ) → IsLine l → (fs : List (List ℕ)) (rest : List ℕ) → line_number_at (fields (decimal l ∷ fs) ++ rest) ≡ Some (l, fields fs ++ rest)
line_read l is fs rest = number_field 1 999_999 l (omega arith) is.0 is.1 fs rest

process_read : (p : ℕ) → IsNumber p → (fs : List (List ℕ)) (rest : List ℕ) → process_at (fields (decimal p ∷ fs) ++ rest) ≡ Some (p, fields fs ++ rest)
process_read p is fs rest = number_field 0 9_999_999 p (omega arith) (omega arith) is fs rest

place_read : (m : List ℕ) (l : ℕ) → IsUtf8 m → IsShort m → IsLine l → (fs : List (List ℕ)) (rest : List ℕ)
    → place_at (fields (atom_text m ∷ decimal l ∷ fs) ++ rest) ≡ Some (m, l, fields fs ++ rest)
place_read m l text short is fs rest = rw (name_field m (text, short) (decimal l ∷ fs) rest) (rw (line_read l is fs rest) refl)

function_read : (f : List ℕ) (a : ℕ) → IsUtf8 f → IsShort f → IsArity a → (fs : List (List ℕ)) (rest : List ℕ)
    → function_at (fields (atom_text f ∷ decimal a ∷ fs) ++ rest) ≡ Some (f, a, fields fs ++ rest)
function_read f a text short is fs rest = rw (name_field f (text, short) (decimal a ∷ fs) rest) (rw (number_field 0 255 a (omega arith) (omega arith) is fs rest) refl)

-- what a command with its process has, whatever its word
abbrev Law : Call → Type 0
Law x = (fs : List (List ℕ)) (rest : List ℕ) → call_at (fields (call_words decimal x ++ (codes "=" ∷ fs)) ++ rest) ≡ Some (x, fields (codes "=" ∷ fs) ++ rest)

flags_of : (fs : List AutoFlag) → length fs ≤ 3 → Law (call.Iaa fs)
unfolding call_at
flags_of [] few fs rest = rw (word_read (codes "iaa") (codes "false" ∷ codes "=" ∷ fs) rest refl) (rw (word_read (codes "false") (codes "=" ∷ fs) rest refl) refl)
flags_of (f ∷ []) few fs rest =
    rw (word_read (codes "iaa") (flag_word f ∷ codes "=" ∷ fs) rest refl)
    (rw (word_read (flag_word f) (codes "=" ∷ fs) rest (flag_whole f))
    (rw (flag_not_false f)
    (rw (no_equals_flag f (codes "=" ∷ fs) rest) (rw (flag_found f)
    (rw (equals_first fs rest) refl)))))
flags_of (f ∷ g ∷ []) few fs rest =
    rw (word_read (codes "iaa") (flag_word f ∷ flag_word g ∷ codes "=" ∷ fs) rest refl)
    (rw (word_read (flag_word f) (flag_word g ∷ codes "=" ∷ fs) rest (flag_whole f))
    (rw (flag_not_false f)
    (rw (no_equals_flag f (flag_word g ∷ codes "=" ∷ fs) rest) (rw (flag_found f)
    (rw (no_equals_flag g (codes "=" ∷ fs) rest) (rw (flag_read g (codes "=" ∷ fs) rest)
    (rw (equals_first fs rest) refl)))))))
flags_of (f ∷ g ∷ h ∷ []) few fs rest =
    rw (word_read (codes "iaa") (flag_word f ∷ flag_word g ∷ flag_word h ∷ codes "=" ∷ fs) rest refl)
    (rw (word_read (flag_word f) (flag_word g ∷ flag_word h ∷ codes "=" ∷ fs) rest (flag_whole f))
    (rw (flag_not_false f)
    (rw (no_equals_flag f (flag_word g ∷ flag_word h ∷ codes "=" ∷ fs) rest) (rw (flag_found f)
    (rw (no_equals_flag g (flag_word h ∷ codes "=" ∷ fs) rest) (rw (flag_read g (flag_word h ∷ codes "=" ∷ fs) rest)
    (rw (no_equals_flag h (codes "=" ∷ fs) rest) (rw (flag_read h (codes "=" ∷ fs) rest) refl))))))))
flags_of (f ∷ g ∷ h ∷ k ∷ more) few fs rest = absurd (omega (arith, few))

-- a command that was written is read again, whatever its reply and the rest
pub call_again : (x : Call) → IsCall x → IsWideCall x → Law x
unfolding call_at
call_again (call.Start m f args) is wide fs rest =
    rw (word_read (codes "start") (atom_text m ∷ atom_text f ∷ plain_text args ∷ codes "=" ∷ fs) rest refl)
    (rw (name_field m (wide.0, is.0) (atom_text f ∷ plain_text args ∷ codes "=" ∷ fs) rest)
    (rw (name_field f (wide.1, is.1) (plain_text args ∷ codes "=" ∷ fs) rest) (rw (list_field args (is.2, wide.2) (codes "=" ∷ fs) rest) refl)))
call_again (call.Load m v) is wide fs rest =
    rw (word_read (codes "load") (atom_text m ∷ decimal v ∷ codes "=" ∷ fs) rest refl)
    (rw (name_field m (wide, is.0) (decimal v ∷ codes "=" ∷ fs) rest) (rw (number_field 1 999 v (omega arith) is.1.0 is.1.1 (codes "=" ∷ fs) rest) refl))
call_again (call.Ii m) is wide fs rest = rw (word_read (codes "ii") (atom_text m ∷ codes "=" ∷ fs) rest refl) (rw (name_field m (wide, is) (codes "=" ∷ fs) rest) refl)
call_again (call.Iq m) is wide fs rest = rw (word_read (codes "iq") (atom_text m ∷ codes "=" ∷ fs) rest refl) (rw (name_field m (wide, is) (codes "=" ∷ fs) rest) refl)
call_again call.Il is wide fs rest = rw (word_read (codes "il") (codes "=" ∷ fs) rest refl) refl
call_again (call.Ib m l) is wide fs rest =
    rw (word_read (codes "ib") (atom_text m ∷ decimal l ∷ codes "=" ∷ fs) rest refl)
    (rw (name_field m (wide, is.0) (decimal l ∷ codes "=" ∷ fs) rest)
    (rw (digit_first l (omega (arith, is.1.1)) (codes "=" ∷ fs) rest) (rw (line_read l is.1 (codes "=" ∷ fs) rest) refl)))
call_again (call.IbIn m f a) is wide fs rest =
    rw (word_read (codes "ib") (atom_text m ∷ atom_text f ∷ decimal a ∷ codes "=" ∷ fs) rest refl)
    (rw (name_field m (wide.0, is.0) (atom_text f ∷ decimal a ∷ codes "=" ∷ fs) rest)
    (rw (no_digit_name f (decimal a ∷ codes "=" ∷ fs) rest) (rw (function_read f a wide.1 is.1 is.2 (codes "=" ∷ fs) rest) refl)))
call_again (call.Ir m l) is wide fs rest =
    rw (word_read (codes "ir") (atom_text m ∷ decimal l ∷ codes "=" ∷ fs) rest refl)
    (rw (no_equals_name m (decimal l ∷ codes "=" ∷ fs) rest) (rw (name_field m (wide, is.0) (decimal l ∷ codes "=" ∷ fs) rest)
    (rw (no_equals_number l (omega (arith, is.1.1)) (codes "=" ∷ fs) rest)
    (rw (digit_first l (omega (arith, is.1.1)) (codes "=" ∷ fs) rest) (rw (line_read l is.1 (codes "=" ∷ fs) rest) refl)))))
call_again (call.IrModule m) is wide fs rest =
    rw (word_read (codes "ir") (atom_text m ∷ codes "=" ∷ fs) rest refl)
    (rw (no_equals_name m (codes "=" ∷ fs) rest) (rw (name_field m (wide, is) (codes "=" ∷ fs) rest) (rw (equals_first fs rest) refl)))
call_again call.IrAll is wide fs rest = rw (word_read (codes "ir") (codes "=" ∷ fs) rest refl) (rw (equals_first fs rest) refl)
call_again (call.IrIn m f a) is wide fs rest =
    rw (word_read (codes "ir") (atom_text m ∷ atom_text f ∷ decimal a ∷ codes "=" ∷ fs) rest refl)
    (rw (no_equals_name m (atom_text f ∷ decimal a ∷ codes "=" ∷ fs) rest) (rw (name_field m (wide.0, is.0) (atom_text f ∷ decimal a ∷ codes "=" ∷ fs) rest)
    (rw (no_equals_name f (decimal a ∷ codes "=" ∷ fs) rest)
    (rw (no_digit_name f (decimal a ∷ codes "=" ∷ fs) rest) (rw (function_read f a wide.1 is.1 is.2 (codes "=" ∷ fs) rest) refl)))))
call_again (call.Ibd m l) is wide fs rest =
    rw (word_read (codes "ibd") (atom_text m ∷ decimal l ∷ codes "=" ∷ fs) rest refl) (rw (place_read m l wide is.0 is.1 (codes "=" ∷ fs) rest) refl)
call_again (call.Ibe m l) is wide fs rest =
    rw (word_read (codes "ibe") (atom_text m ∷ decimal l ∷ codes "=" ∷ fs) rest refl) (rw (place_read m l wide is.0 is.1 (codes "=" ∷ fs) rest) refl)
call_again (call.Iba m l a) is wide fs rest =
    rw (word_read (codes "iba") (atom_text m ∷ decimal l ∷ action_word a ∷ codes "=" ∷ fs) rest refl)
    (rw (place_read m l wide is.0 is.1 (action_word a ∷ codes "=" ∷ fs) rest) (rw (action_read a (codes "=" ∷ fs) rest) refl))
call_again (call.Ibc m l c) is wide fs rest =
    rw (word_read (codes "ibc") (atom_text m ∷ decimal l ∷ atom_text c.0 ∷ atom_text c.1 ∷ codes "=" ∷ fs) rest refl)
    (rw (place_read m l wide.0 is.0 is.1 (atom_text c.0 ∷ atom_text c.1 ∷ codes "=" ∷ fs) rest)
    (rw (name_field c.0 (wide.1, is.2) (atom_text c.1 ∷ codes "=" ∷ fs) rest) (rw (name_field c.1 (wide.2, is.3) (codes "=" ∷ fs) rest) refl)))
call_again call.Ipb is wide fs rest = rw (word_read (codes "ipb") (codes "=" ∷ fs) rest refl) (rw (equals_first fs rest) refl)
call_again (call.IpbModule m) is wide fs rest =
    rw (word_read (codes "ipb") (atom_text m ∷ codes "=" ∷ fs) rest refl) (rw (no_equals_name m (codes "=" ∷ fs) rest) (rw (name_field m (wide, is) (codes "=" ∷ fs) rest) refl))
call_again call.Ip is wide fs rest = rw (word_read (codes "ip") (codes "=" ∷ fs) rest refl) refl
call_again call.Ic is wide fs rest = rw (word_read (codes "ic") (codes "=" ∷ fs) rest refl) refl
call_again (call.Iaa flags) is wide fs rest = flags_of flags is fs rest
call_again (call.Ist w) is wide fs rest = rw (word_read (codes "ist") (trace_word w ∷ codes "=" ∷ fs) rest refl) (rw (trace_read w (codes "=" ∷ fs) rest) refl)
call_again (call.Ia p) is wide fs rest = rw (word_read (codes "ia") (decimal p ∷ codes "=" ∷ fs) rest refl) (rw (process_read p is (codes "=" ∷ fs) rest) refl)
call_again (call.Detach p) is wide fs rest = rw (word_read (codes "detach") (decimal p ∷ codes "=" ∷ fs) rest refl) (rw (process_read p is (codes "=" ∷ fs) rest) refl)
call_again (call.Step p) is wide fs rest = rw (word_read (codes "step") (decimal p ∷ codes "=" ∷ fs) rest refl) (rw (process_read p is (codes "=" ∷ fs) rest) refl)
call_again (call.Next p) is wide fs rest = rw (word_read (codes "next") (decimal p ∷ codes "=" ∷ fs) rest refl) (rw (process_read p is (codes "=" ∷ fs) rest) refl)
call_again (call.Finish p) is wide fs rest = rw (word_read (codes "finish") (decimal p ∷ codes "=" ∷ fs) rest refl) (rw (process_read p is (codes "=" ∷ fs) rest) refl)
call_again (call.Halt p) is wide fs rest = rw (word_read (codes "halt") (decimal p ∷ codes "=" ∷ fs) rest refl) (rw (process_read p is (codes "=" ∷ fs) rest) refl)
call_again (call.Continue p) is wide fs rest = rw (word_read (codes "continue") (decimal p ∷ codes "=" ∷ fs) rest refl) (rw (process_read p is (codes "=" ∷ fs) rest) refl)
call_again (call.Skip p) is wide fs rest = absurd is
call_again (call.Kill p) is wide fs rest = absurd is
call_again (call.Timeout p) is wide fs rest = absurd is
call_again (call.Bindings p) is wide fs rest = rw (word_read (codes "bindings") (decimal p ∷ codes "=" ∷ fs) rest refl) (rw (process_read p is (codes "=" ∷ fs) rest) refl)
call_again (call.Frames p) is wide fs rest = rw (word_read (codes "frames") (decimal p ∷ codes "=" ∷ fs) rest refl) (rw (process_read p is (codes "=" ∷ fs) rest) refl)
call_again (call.Await p s) is wide fs rest =
    rw (word_read (codes "await") (decimal p ∷ status_word s ∷ codes "=" ∷ fs) rest refl)
    (rw (digit_first p (omega (arith, is)) (status_word s ∷ codes "=" ∷ fs) rest)
    (rw (process_read p is (status_word s ∷ codes "=" ∷ fs) rest) (rw (status_read s (codes "=" ∷ fs) rest) refl)))
call_again (call.AwaitAny s) is wide fs rest =
    rw (word_read (codes "await") (codes "any" ∷ status_word s ∷ codes "=" ∷ fs) rest refl)
    (rw (begins_field is_ascii_digit 97 (codes "ny") (codes "any") (status_word s ∷ codes "=" ∷ fs) rest refl)
    (rw (word_read (codes "any") (status_word s ∷ codes "=" ∷ fs) rest refl) (rw (status_read s (codes "=" ∷ fs) rest) refl)))
call_again call.Quit is wide fs rest = rw (word_read (codes "quit") (codes "=" ∷ fs) rest refl) refl
