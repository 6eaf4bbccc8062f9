-- Lines that a reader can check by hand: entries, and what the transcript has for each.

use Rattle.std.proofs.Common.{◌≡◌, true, false, None, Some, List, [], ◌∷◌, codes, refl, pos}
use Rattle.std.specs.Fmt.{digits}
use Rattle.edb_lang.specs.Terms.{Datum, int, atom, tuple, nil, cons, none, more}
use Rattle.edb_lang.specs.TermText.{text, plain_text, tuple_text, items_text}
use Rattle.edb_lang.specs.declared.small.Action.TheVariants as action
use Rattle.edb_lang.specs.declared.act.ActKind.TheVariants as kind
use Rattle.edb_event.specs.declared.call.Call.TheVariants as call
use Rattle.edb_event.specs.declared.call.ProcStatus.TheVariants as status
use Rattle.edb_event.specs.declared.entry.Cause.TheVariants.{Order, Break}
use Rattle.edb_event.specs.declared.entry.Entry.{Entry}
use Rattle.edb_event.specs.declared.entry.Entry.TheVariants.{Start, Load, Lease, Did, Signal, Advance, Stop, Trigger, Served}
use Rattle.edb_event.specs.declared.reply.Refusal.TheVariants as refusal
use Rattle.edb_event.specs.declared.reply.Reply.TheVariants as reply
use Rattle.edb_report.specs.Rendering.{entry_text, transcript}

-- a list of two elements, the first of them a list of two
abbrev two_elements : Datum
two_elements = cons (cons (int (pos 97)) (cons (int (pos 98)) nil)) (cons (int (pos 7)) nil)

start_row : entry_text (Start 1 2 (codes "shop") (codes "Main") two_elements)
    ≡ codes "-- 1 start <2> shop:'Main'/2\n"
unfolding digits
start_row = refl

load_row : entry_text (Load 8 (codes "shop") 2) ≡ codes "-- 8 load shop 2\n"
unfolding digits
load_row = refl

stop_row : entry_text (Stop 1 (codes "shop") 7 2 Order) ≡ codes "-- <1> stop shop:7 level 2\n"
unfolding digits
stop_row = refl

break_row : entry_text (Stop 12 (codes "till") 33 10 (Break 3)) ≡ codes "-- <12> stop till:33 level 10\n"
unfolding digits
break_row = refl

await_row : entry_text (Served 1 (call.Await 1 status.Break) (reply.Status 1 status.Break))
    ≡ codes "-- 1 await <1> break: <1> break\n"
unfolding digits
await_row = refl

any_row : entry_text (Served 2 (call.AwaitAny status.Exit) reply.Quiet) ≡ codes "-- 2 await any exit: quiet\n"
unfolding digits
any_row = refl

bindings_row : entry_text (Served 1 (call.Bindings 1) (reply.Rows (codes "A = 2" ∷ codes "B = 40" ∷ [])))
    ≡ codes "-- 1 bindings <1>: 2 rows\nA = 2\nB = 40\n"
unfolding digits
bindings_row = refl

no_rows : entry_text (Served 1 call.Ipb (reply.Rows [])) ≡ codes "-- 1 ipb: 0 rows\n"
unfolding digits
no_rows = refl

function_row : entry_text (Served 3 (call.IbIn (codes "shop") (codes "sum") 2) (reply.Refused refusal.FunctionNotFound))
    ≡ codes "-- 3 ib shop sum 2: function_not_found\n"
unfolding digits
function_row = refl

-- the list of a start that was refused is written without strings, and its atoms are quoted
abbrev one_tuple : Datum
one_tuple = cons (int (pos 97)) (cons (tuple (more (atom (codes "end")) none)) nil)

refused_start : entry_text (Served 1 (call.Start (codes "shop") (codes "main") one_tuple) (reply.Refused refusal.SystemLimit))
    ≡ codes "-- 1 start shop main [97,{'end'}]: system_limit\n"
unfolding digits plain_text text tuple_text items_text
refused_start = refl

exit_row : entry_text (Did 1 kind.End (codes "normal") []) ≡ codes "-- <1> exit normal\n"
unfolding digits
exit_row = refl

signal_row : entry_text (Signal 3 (Some (codes "{bad_price,[]}"))) ≡ codes "-- <3> exit {bad_price,[]}\n"
unfolding digits
signal_row = refl

-- a signal that ended nothing has no line, and neither has a lease or an act that prints nothing
quiet_signal : entry_text (Signal 3 None) ≡ []
quiet_signal = refl

lease_row : entry_text (Lease 1 100) ≡ []
lease_row = refl

send_row : entry_text (Did 1 kind.Send (codes "ok") []) ≡ []
send_row = refl

trigger_row : entry_text (Trigger 1 (codes "shop") 7 4 action.Delete true) ≡ codes "-- <1> trigger shop:7 delete\n"
unfolding digits
trigger_row = refl

disable_row : entry_text (Trigger 1 (codes "shop") 7 4 action.Disable true) ≡ codes "-- <1> trigger shop:7 disable\n"
unfolding digits
disable_row = refl

-- what leaves the breakpoint as it was, and what came too late, has no line
enable_row : entry_text (Trigger 1 (codes "shop") 7 4 action.Enable true) ≡ []
enable_row = refl

late_row : entry_text (Trigger 1 (codes "shop") 7 4 action.Delete false) ≡ []
late_row = refl

time_row : entry_text (Advance 5000) ≡ codes "-- time 5000\n"
unfolding digits
time_row = refl

-- a print without a newline is followed by the next line at once
abbrev journal : List Entry
journal =
    Start 1 1 (codes "shop") (codes "main") nil ∷ Did 1 kind.Print (codes "true") (codes "5")
    ∷ Did 1 kind.End (codes "normal") [] ∷ []

whole : transcript journal
    ≡ codes "-- 1 start <1> shop:main/0\n5-- <1> exit normal\n"
unfolding digits
whole = refl
