-- Commands, read loosely: the words of a command and what follows them, up to the equals sign before its reply. What was read is then
-- written again and compared.

use Rattle.std.specs.Prelude.{ℕ, zero, suc, nat_eq, if◌then◌else◌, List, [], ◌∷◌, ◌++◌, Option, None, Some, codes}
use Rattle.std.specs.Char.{is_ascii_digit}
use Rattle.edb_event.specs.declared.call.AutoFlag.{AutoFlag}
use Rattle.edb_event.specs.declared.call.Call.{Call}
use Rattle.edb_event.specs.declared.call.Call.TheVariants as call
use Rattle.edb_fields.specs.Atoms.{name_at}
use Rattle.edb_fields.specs.Chain.{◌>>=◌}
use Rattle.edb_fields.specs.Numerals.{number_at}
use Rattle.edb_fields.specs.TermReading.{args_at}
use Rattle.edb_served.specs.Small.{status_at, action_at, flag_at, trace_at}
use Rattle.edb_served.specs.Words.{word_at, same, begins_with}

abbrev pub FoundCall : Type 0
FoundCall = Option (Call × List ℕ)

-- a line of a source, the number of a process
abbrev pub line_number_at : List ℕ → Option (ℕ × List ℕ)
line_number_at = number_at 1 999_999

abbrev pub process_at : List ℕ → Option (ℕ × List ℕ)
process_at = number_at 0 9_999_999

-- a module and a line of it
abbrev pub place_at : List ℕ → Option (List ℕ × ℕ × List ℕ)
place_at bytes = do
  (m, after) ← name_at bytes
  (l, rest) ← line_number_at after
  Some (m, l, rest)

-- a function, of whatever module, and its arity
abbrev pub function_at : List ℕ → Option (List ℕ × ℕ × List ℕ)
function_at bytes = do
  (f, after) ← name_at bytes
  (a, rest) ← number_at 0 255 after
  Some (f, a, rest)

abbrev pub start_call_at : List ℕ → FoundCall
start_call_at bytes = do
  (m, after) ← name_at bytes
  (f, from) ← name_at after
  (args, rest) ← args_at from
  Some (call.Start m f args, rest)

abbrev pub load_call_at : List ℕ → FoundCall
load_call_at bytes = do
  (m, after) ← name_at bytes
  (v, rest) ← number_at 1 999 after
  Some (call.Load m v, rest)

-- behind a module a digit begins a line, and anything else a function
abbrev pub set_after : List ℕ → List ℕ → FoundCall
set_after m bytes =
    if begins_with is_ascii_digit bytes then line_number_at bytes >>= (λ x. Some (call.Ib m x.0, x.1))
    else function_at bytes >>= (λ x. Some (call.IbIn m x.0 x.1, x.2))

abbrev pub set_at : List ℕ → FoundCall
set_at bytes = name_at bytes >>= (λ x. set_after x.0 x.1)

abbrev pub delete_after : List ℕ → List ℕ → FoundCall
delete_after m bytes =
    if begins_with (nat_eq 61) bytes then Some (call.IrModule m, bytes)
    else if begins_with is_ascii_digit bytes then line_number_at bytes >>= (λ x. Some (call.Ir m x.0, x.1))
    else function_at bytes >>= (λ x. Some (call.IrIn m x.0 x.1, x.2))

abbrev pub delete_at : List ℕ → FoundCall
delete_at bytes = if begins_with (nat_eq 61) bytes then Some (call.IrAll, bytes) else name_at bytes >>= (λ x. delete_after x.0 x.1)

abbrev pub breaks_at : List ℕ → FoundCall
breaks_at bytes = if begins_with (nat_eq 61) bytes then Some (call.Ipb, bytes) else name_at bytes >>= (λ x. Some (call.IpbModule x.0, x.1))

abbrev pub trigger_call_at : List ℕ → FoundCall
trigger_call_at bytes = do
  (m, l, after) ← place_at bytes
  (a, rest) ← action_at after
  Some (call.Iba m l a, rest)

abbrev pub condition_call_at : List ℕ → FoundCall
condition_call_at bytes = do
  (m, l, after) ← place_at bytes
  (cm, from) ← name_at after
  (cf, rest) ← name_at from
  Some (call.Ibc m l (cm, cf), rest)

-- the flags so far with those up to the equals sign, at most as many as there are turns
abbrev pub flags_at : ℕ → List AutoFlag → List ℕ → Option (List AutoFlag × List ℕ)
flags_at zero found bytes = Some (found, bytes)
flags_at (suc turns) found bytes =
    if begins_with (nat_eq 61) bytes then Some (found, bytes) else flag_at bytes >>= (λ x. flags_at turns (found ++ x.0 ∷ []) x.1)

-- the word for no flag, or up to three
abbrev pub attach_after : List ℕ × List ℕ → List ℕ → FoundCall
attach_after word bytes =
    if same word.0 (codes "false") then Some (call.Iaa [], word.1) else flags_at 3 [] bytes >>= (λ x. Some (call.Iaa x.0, x.1))

abbrev pub attach_at : List ℕ → FoundCall
attach_at bytes = word_at bytes >>= (λ word. attach_after word bytes)

abbrev pub trace_call_at : List ℕ → FoundCall
trace_call_at bytes = trace_at bytes >>= (λ x. Some (call.Ist x.0, x.1))

abbrev pub any_status_at : List ℕ → FoundCall
any_status_at bytes = status_at bytes >>= (λ x. Some (call.AwaitAny x.0, x.1))

abbrev pub process_status_at : List ℕ → FoundCall
process_status_at bytes = do
  (p, after) ← process_at bytes
  (s, rest) ← status_at after
  Some (call.Await p s, rest)

-- a digit begins a process
abbrev pub await_at : List ℕ → FoundCall
await_at bytes =
    if begins_with is_ascii_digit bytes then process_status_at bytes
    else word_at bytes >>= (λ x. if same x.0 (codes "any") then any_status_at x.1 else None)

-- the command of this word about a process
abbrev pub about : List ℕ → ℕ → Option Call
about word p =
    if same word (codes "ia") then Some (call.Ia p) else if same word (codes "detach") then Some (call.Detach p)
    else if same word (codes "step") then Some (call.Step p) else if same word (codes "next") then Some (call.Next p)
    else if same word (codes "finish") then Some (call.Finish p) else if same word (codes "halt") then Some (call.Halt p)
    else if same word (codes "continue") then Some (call.Continue p) else if same word (codes "bindings") then Some (call.Bindings p)
    else if same word (codes "frames") then Some (call.Frames p) else None

abbrev pub about_at : List ℕ → List ℕ → FoundCall
about_at word bytes = do
  (p, rest) ← process_at bytes
  command ← about word p
  Some (command, rest)

-- the commands with words of their own, or with none
abbrev pub other_at : List ℕ → List ℕ → FoundCall
other_at word bytes =
    if same word (codes "il") then Some (call.Il, bytes) else if same word (codes "ip") then Some (call.Ip, bytes)
    else if same word (codes "ic") then Some (call.Ic, bytes) else if same word (codes "quit") then Some (call.Quit, bytes)
    else if same word (codes "iaa") then attach_at bytes else if same word (codes "ist") then trace_call_at bytes
    else if same word (codes "await") then await_at bytes else about_at word bytes

-- the commands about a breakpoint
abbrev pub break_at : List ℕ → List ℕ → FoundCall
break_at word bytes =
    if same word (codes "ibd") then place_at bytes >>= (λ x. Some (call.Ibd x.0 x.1, x.2))
    else if same word (codes "ibe") then place_at bytes >>= (λ x. Some (call.Ibe x.0 x.1, x.2))
    else if same word (codes "iba") then trigger_call_at bytes else if same word (codes "ibc") then condition_call_at bytes
    else other_at word bytes

-- a command whose first word was read
abbrev pub command_at : List ℕ → List ℕ → FoundCall
command_at word bytes =
    if same word (codes "start") then start_call_at bytes else if same word (codes "load") then load_call_at bytes
    else if same word (codes "ii") then name_at bytes >>= (λ x. Some (call.Ii x.0, x.1))
    else if same word (codes "iq") then name_at bytes >>= (λ x. Some (call.Iq x.0, x.1))
    else if same word (codes "ib") then set_at bytes else if same word (codes "ir") then delete_at bytes
    else if same word (codes "ipb") then breaks_at bytes else break_at word bytes

-- a command, however its words are spelled
unfoldable pub call_at : List ℕ → FoundCall
call_at bytes = word_at bytes >>= (λ x. command_at x.0 x.1)
