-- The interpreter server on a module of one function: for each command a refusal of each kind, an answer, and a change.

use Rattle.std.proofs.Common.{◌≡◌, ℕ, pos, true, false, List, [], ◌∷◌, None, Some, codes, refl}
use Rattle.std.specs.Fmt.{digits}
use Rattle.edb_lang.specs.Terms as term
use Rattle.edb_lang.specs.TermText.{text, term_text}
use Rattle.edb_lang.specs.Syntax as syntax
use Rattle.edb_lang.specs.Syntax.{FunctionTree, ModuleTree}
use Rattle.edb_lang.specs.declared.small.Action.TheVariants as action
use Rattle.edb_lang.specs.declared.small.Op.TheVariants.{Add}
use Rattle.edb_lang.specs.declared.small.TraceFlag.TheVariants as trace
use Rattle.edb_breaks.specs.Table.{with_row, empty_table}
use Rattle.edb_event.specs.declared.call.AutoFlag.TheVariants as flag
use Rattle.edb_event.specs.declared.call.TraceWord.TheVariants as word
use Rattle.edb_event.specs.declared.call.ProcStatus.TheVariants as status
use Rattle.edb_event.specs.declared.call.Call.TheVariants as command
use Rattle.edb_event.specs.declared.reply.Refusal.TheVariants as refusal
use Rattle.edb_event.specs.declared.reply.Reply.TheVariants as reply
use Rattle.edb_rules.specs.Seen.{Frame}
use Rattle.edb_rules.specs.Server.{Server, first_server, seen_at, stop_at}
use Rattle.edb_rules.specs.Refusals.{first_case, waiting_cases}
use Rattle.edb_rules.specs.Answers.{enables, reply_of}
use Rattle.edb_rules.specs.Called.{called}
use Rattle.edb_rules.specs.Noted.{started, loaded, entered, left, stopped, asks, took, triggered, ended, noted}
use Rattle.edb_rules.specs.ServerRows.{module_rows, gapped_rows}

abbrev shop : List ℕ
shop = codes "shop"

abbrev nope : List ℕ
nope = codes "nope"

abbrev sum : List ℕ
sum = codes "sum"

-- a module with `sum(A, B) -> A + B.`, whose body is on line 7
abbrev tree : ModuleTree
tree = record {
  name = shop;
  exports = [];
  functions =
      record {
        name = sum;
        parameters = syntax.variable 6 (codes "A") ∷ (syntax.variable 6 (codes "B") ∷ []);
        first = syntax.binary 7 Add (syntax.variable 7 (codes "A")) (syntax.variable 7 (codes "B"));
        rest = syntax.none;
      }
      ∷ [];
}

-- before anything; with a process; interpreted; and stopped at line 7 at a breakpoint, with console 1 attached
abbrev opening : Server
opening = first_server (tree ∷ [])

abbrev idle : Server
idle = noted opening (started 1)

abbrev inside : Server
inside = noted (called idle 1 (command.Ii shop)) (entered 1 shop sum 2)

abbrev broken : Server
broken = called inside 1 (command.Ib shop 7)

abbrev sum_frame : Frame
sum_frame = record { level = 2; home = shop; name = sum; arity = 2; line = 7; bindings = (codes "A", term.int (pos 1)) ∷ ((codes "B", term.int (pos 2)) ∷ []) }

abbrev main_frame : Frame
main_frame = record { level = 1; home = shop; name = codes "main"; arity = 0; line = 4; bindings = [] }

abbrev halted : Server
halted = noted (called broken 1 (command.Ia 1)) (stopped 1 shop 7 2 (sum_frame ∷ (main_frame ∷ [])))

abbrev gone : Server
gone = noted halted (ended 1 (codes "normal"))

-- start, load, ii, iq, il
start_done : reply_of opening 1 (command.Start shop sum term.nil) ≡ reply.Ok
start_done = refl

start_changes_nothing : called idle 1 (command.Start shop sum term.nil) ≡ idle
start_changes_nothing = refl

start_past_the_limit : reply_of (record opening { made = 65536 }) 1 (command.Start shop sum term.nil) ≡ reply.Refused refusal.SystemLimit
start_past_the_limit = refl

load_no_module : reply_of opening 1 (command.Load nope 1) ≡ reply.Refused refusal.NoModule
load_no_module = refl

load_no_version : reply_of opening 1 (command.Load shop 2) ≡ reply.Refused refusal.NoVersion
load_no_version = refl

load_done : reply_of opening 1 (command.Load shop 1) ≡ reply.Ok
load_done = refl

loaded_second : (noted (first_server (tree ∷ (tree ∷ []))) (loaded shop 2)).current ≡ (shop, 2) ∷ ((shop, 2) ∷ [])
loaded_second = refl

ii_no_module : reply_of opening 1 (command.Ii nope) ≡ reply.Refused refusal.NoModule
ii_no_module = refl

ii_done : reply_of opening 1 (command.Ii shop) ≡ reply.Ok
ii_done = refl

ii_once : (called inside 1 (command.Ii shop)).interpreted ≡ shop ∷ []
ii_once = refl

iq_not_interpreted : reply_of idle 1 (command.Iq shop) ≡ reply.Refused refusal.NotInterpreted
iq_not_interpreted = refl

iq_takes_its_rows : (called broken 1 (command.Iq shop)).table ≡ record { rows = []; given = 1 }
iq_takes_its_rows = refl

iq_takes_the_module : (called broken 1 (command.Iq shop)).interpreted ≡ []
iq_takes_the_module = refl

il_by_name : module_rows (shop ∷ (codes "bill" ∷ (codes "Tail" ∷ []))) ≡ codes "'Tail'" ∷ (codes "bill" ∷ (codes "shop" ∷ []))
il_by_name = refl

il_rows : reply_of inside 1 command.Il ≡ reply.Rows (codes "shop" ∷ [])
il_rows = refl

-- breakpoints
ib_exists : reply_of broken 1 (command.Ib shop 7) ≡ reply.Refused refusal.BreakExists
ib_exists = refl

ib_done : reply_of inside 1 (command.Ib shop 7) ≡ reply.Ok
ib_done = refl

ib_function_not_found : reply_of inside 1 (command.IbIn shop sum 3) ≡ reply.Refused refusal.FunctionNotFound
ib_function_not_found = refl

ib_no_file : reply_of inside 1 (command.IbIn nope sum 2) ≡ reply.Refused refusal.FunctionNotFound
ib_no_file = refl

ib_at_its_clauses : (called inside 1 (command.IbIn shop sum 2)).table ≡ with_row shop 7 empty_table
ib_at_its_clauses = refl

ib_leaves_a_line : (called broken 1 (command.IbIn shop sum 2)).table ≡ broken.table
ib_leaves_a_line = refl

ir_one : (called (called broken 1 (command.Ib shop 8)) 1 (command.Ir shop 7)).table.rows ≡ (called (called broken 1 (command.Ir shop 7)) 1 (command.Ib shop 8)).table.rows
ir_one = refl

ir_of_a_module : (called broken 1 (command.IrModule shop)).table.rows ≡ []
ir_of_a_module = refl

ir_of_another : called broken 1 (command.IrModule nope) ≡ broken
ir_of_another = refl

ir_all : (called broken 1 command.IrAll).table ≡ record { rows = []; given = 1 }
ir_all = refl

ir_in : (called broken 1 (command.IrIn shop sum 2)).table.rows ≡ []
ir_in = refl

ir_function_not_found : reply_of broken 1 (command.IrIn shop sum 1) ≡ reply.Refused refusal.FunctionNotFound
ir_function_not_found = refl

ibd_row : reply_of (called broken 1 (command.Ibd shop 7)) 1 command.Ipb ≡ reply.Rows (codes "{{shop,7},[inactive,enable,null,null]}" ∷ [])
unfolding digits
ibd_row = refl

ibe_row : called (called broken 1 (command.Ibd shop 7)) 1 (command.Ibe shop 7) ≡ broken
ibe_row = refl

iba_row : reply_of (called broken 1 (command.Iba shop 7 action.Delete)) 1 (command.IpbModule shop) ≡ reply.Rows (codes "{{shop,7},[active,delete,null,null]}" ∷ [])
unfolding digits
iba_row = refl

ibc_row : reply_of (called broken 1 (command.Ibc shop 7 (shop, codes "fine"))) 1 command.Ipb ≡ reply.Rows (codes "{{shop,7},[active,enable,null,{shop,fine}]}" ∷ [])
unfolding digits
ibc_row = refl

ipb_of_another : reply_of broken 1 (command.IpbModule nope) ≡ reply.Rows []
ipb_of_another = refl

trigger_deletes : (noted broken (triggered shop 7 1 action.Delete)).table.rows ≡ []
trigger_deletes = refl

trigger_disables : noted broken (triggered shop 7 1 action.Disable) ≡ called broken 1 (command.Ibd shop 7)
trigger_disables = refl

trigger_of_another_serial : noted broken (triggered shop 7 2 action.Delete) ≡ broken
trigger_of_another_serial = refl

-- the snapshot
ip_running : reply_of inside 1 command.Ip ≡ reply.Rows (codes "{<1>,{shop,sum,2},running,{}}" ∷ [])
unfolding digits
ip_running = refl

ip_waiting : reply_of (noted inside (asks 1 true)) 1 command.Ip ≡ reply.Rows (codes "{<1>,{shop,sum,2},waiting,{}}" ∷ [])
unfolding digits
ip_waiting = refl

ip_took : noted (noted inside (asks 1 true)) (took 1) ≡ inside
ip_took = refl

ip_idle : reply_of (noted inside (left 1)) 1 command.Ip ≡ reply.Rows (codes "{<1>,{shop,sum,2},idle,{}}" ∷ [])
unfolding digits
ip_idle = refl

ip_break : reply_of halted 1 command.Ip ≡ reply.Rows (codes "{<1>,{shop,sum,2},break,{shop,7}}" ∷ [])
unfolding digits
ip_break = refl

ip_exit : reply_of gone 1 command.Ip ≡ reply.Rows (codes "{<1>,{shop,sum,2},exit,normal}" ∷ [])
unfolding digits
ip_exit = refl

ip_never_entered : reply_of idle 1 command.Ip ≡ reply.Rows []
ip_never_entered = refl

ic_clears : reply_of (called gone 1 command.Ic) 1 command.Ip ≡ reply.Rows []
ic_clears = refl

ic_detaches : (called gone 1 command.Ic).attached ≡ []
ic_detaches = refl

ic_keeps_the_living : called halted 1 command.Ic ≡ halted
ic_keeps_the_living = refl

-- flags
iaa_kept : called opening 2 (command.Iaa (flag.Init ∷ (flag.Exit ∷ []))) ≡ record opening { flags = flag.Init ∷ (flag.Exit ∷ []); flag_console = 2 }
iaa_kept = refl

ist_top : (called opening 1 (command.Ist word.False)).trace ≡ trace.Top
ist_top = refl

init_attaches : (noted (called idle 2 (command.Iaa (flag.Init ∷ []))) (entered 1 shop sum 2)).attached ≡ (1, 2) ∷ []
init_attaches = refl

break_attaches : (noted (called broken 2 (command.Iaa (flag.Break ∷ []))) (stopped 1 shop 7 2 [])).attached ≡ (1, 2) ∷ []
break_attaches = refl

exit_attaches : (noted (called inside 2 (command.Iaa (flag.Exit ∷ []))) (ended 1 (codes "normal"))).attached ≡ (1, 2) ∷ []
exit_attaches = refl

exit_of_one_never_entered : (noted (called idle 2 (command.Iaa (flag.Exit ∷ []))) (ended 1 (codes "normal"))).attached ≡ []
exit_of_one_never_entered = refl

nobody_is_attached_twice : (noted (called (called inside 1 (command.Ia 1)) 2 (command.Iaa (flag.Break ∷ []))) (stopped 1 shop 7 2 [])).attached ≡ (1, 1) ∷ []
nobody_is_attached_twice = refl

-- a process
ia_no_process : reply_of inside 1 (command.Ia 2) ≡ reply.Refused refusal.NoProcess
ia_no_process = refl

ia_not_interpreted : reply_of idle 1 (command.Ia 1) ≡ reply.Refused refusal.NotInterpreted
ia_not_interpreted = refl

ia_already_attached : reply_of halted 2 (command.Ia 1) ≡ reply.Refused refusal.AlreadyAttached
ia_already_attached = refl

ia_done : reply_of inside 2 (command.Ia 1) ≡ reply.Ok
ia_done = refl

ia_attaches : (called inside 2 (command.Ia 1)).attached ≡ (1, 2) ∷ []
ia_attaches = refl

detach_no_process : reply_of halted 1 (command.Detach 0) ≡ reply.Refused refusal.NoProcess
detach_no_process = refl

detach_not_attached : reply_of halted 2 (command.Detach 1) ≡ reply.Refused refusal.NotAttached
detach_not_attached = refl

detach_keeps_the_stop : called halted 1 (command.Detach 1) ≡ record halted { attached = [] }
detach_keeps_the_stop = refl

step_not_attached : reply_of halted 2 (command.Step 1) ≡ reply.Refused refusal.NotAttached
step_not_attached = refl

next_not_stopped : reply_of (called halted 1 (command.Next 1)) 1 (command.Next 1) ≡ reply.Refused refusal.NotStopped
next_not_stopped = refl

finish_of_the_ended : reply_of gone 1 (command.Finish 1) ≡ reply.Refused refusal.NotInterpreted
finish_of_the_ended = refl

step_resumes : stop_at (called halted 1 (command.Step 1)) 1 ≡ None
step_resumes = refl

halt_done : reply_of halted 1 (command.Halt 1) ≡ reply.Ok
halt_done = refl

halt_not_attached : reply_of broken 1 (command.Halt 1) ≡ reply.Refused refusal.NotAttached
halt_not_attached = refl

halt_resumes_nothing : called halted 1 (command.Halt 1) ≡ halted
halt_resumes_nothing = refl

continue_of_nobody : reply_of halted 1 (command.Continue 2) ≡ reply.Refused refusal.NoProcess
continue_of_nobody = refl

continue_of_another_console : reply_of halted 2 (command.Continue 1) ≡ reply.Ok
continue_of_another_console = refl

continue_of_one_that_goes_on : called inside 1 (command.Continue 1) ≡ inside
continue_of_one_that_goes_on = refl

skip_resumes : called halted 1 (command.Skip 1) ≡ called halted 1 (command.Step 1)
skip_resumes = refl

skip_not_stopped : reply_of (called broken 1 (command.Ia 1)) 1 (command.Skip 1) ≡ reply.Refused refusal.NotStopped
skip_not_stopped = refl

kill_not_attached : reply_of halted 2 (command.Kill 1) ≡ reply.Refused refusal.NotAttached
kill_not_attached = refl

kill_changes_nothing : called halted 1 (command.Kill 1) ≡ halted
kill_changes_nothing = refl

timeout_not_waiting : first_case (waiting_cases halted 1 1 false) ≡ Some refusal.NotWaiting
timeout_not_waiting = refl

timeout_done : first_case (waiting_cases halted 1 1 true) ≡ None
timeout_done = refl

bindings_rows : reply_of halted 1 (command.Bindings 1) ≡ reply.Rows (codes "A = 1" ∷ (codes "B = 2" ∷ []))
unfolding digits text term_text
bindings_rows = refl

bindings_not_stopped : reply_of (called broken 1 (command.Ia 1)) 1 (command.Bindings 1) ≡ reply.Refused refusal.NotStopped
bindings_not_stopped = refl

frames_rows : reply_of halted 1 (command.Frames 1) ≡ reply.Rows (codes "2 shop:sum/2 line 7" ∷ (codes "1 shop:main/0 line 4" ∷ []))
unfolding digits
frames_rows = refl

frames_top : reply_of (called halted 1 (command.Ist word.False)) 1 (command.Frames 1) ≡ reply.Rows (codes "2 shop:sum/2 line 7" ∷ [])
unfolding digits
frames_top = refl

frames_gaps : gapped_rows (record sum_frame { level = 6 } ∷ (record main_frame { level = 3 } ∷ []))
    ≡ codes "6 shop:sum/2 line 7" ∷ (codes "4-5 replaced" ∷ (codes "3 shop:main/0 line 4" ∷ (codes "1-2 replaced" ∷ [])))
unfolding digits
frames_gaps = refl

-- awaits
await_met : reply_of halted 2 (command.Await 1 status.Break) ≡ reply.Status 1 status.Break
await_met = refl

await_not_met : reply_of halted 2 (command.Await 1 status.Exit) ≡ reply.Quiet
await_not_met = refl

await_of_nobody : enables halted (command.Await 0 status.Idle) ≡ false
await_of_nobody = refl

await_any : reply_of (noted halted (started 2)) 1 (command.AwaitAny status.Idle) ≡ reply.Status 2 status.Idle
await_any = refl

await_any_not_met : reply_of halted 1 (command.AwaitAny status.Exit) ≡ reply.Quiet
await_any_not_met = refl

quit_done : reply_of halted 1 command.Quit ≡ reply.Ok
quit_done = refl

-- news that comes late or again
started_again : noted halted (started 1) ≡ halted
started_again = refl

started_none : noted opening (started 0) ≡ opening
started_none = refl

a_gap_is_none : seen_at (noted opening (started 3)) 2 ≡ None
a_gap_is_none = refl

news_of_the_ended : noted (noted (noted gone (entered 1 shop sum 2)) (stopped 1 shop 7 1 [])) (left 1) ≡ gone
news_of_the_ended = refl

news_of_nobody : noted idle (entered 2 shop sum 2) ≡ idle
news_of_nobody = refl

ended_twice : noted gone (ended 1 (codes "killed")) ≡ gone
ended_twice = refl
