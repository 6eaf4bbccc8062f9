-- Statuses and refusals told from small journals: each status, each refusal, and which of two refusals comes first.

use Rattle.std.proofs.Common.{◌≡◌, ℕ, true, false, if◌then◌else◌, nat_lt, List, [], ◌∷◌, ◌++◌, None, Some, codes, refl, ap}
use Rattle.edb_lang.specs.Terms as term
use Rattle.edb_lang.specs.Syntax.{ModuleTree}
use Rattle.edb_lang.specs.declared.act.ActKind.TheVariants as kind
use Rattle.edb_lang.specs.declared.small.Action.TheVariants as action
use Rattle.edb_event.specs.declared.call.Call.TheVariants as command
use Rattle.edb_event.specs.declared.call.ProcStatus.TheVariants as status
use Rattle.edb_event.specs.declared.reply.Refusal.TheVariants as refusal
use Rattle.edb_event.specs.declared.reply.Reply.TheVariants as reply
use Rattle.edb_event.specs.declared.entry.Cause.TheVariants as cause
use Rattle.edb_event.specs.declared.entry.Entry.{Entry}
use Rattle.edb_event.specs.declared.entry.Entry.TheVariants as entry
use Rattle.edb_rules.specs.Statuses.{status_by, is_inside, is_halted}
use Rattle.edb_rules.specs.Refused.{processes_by, refused_by, refusal_in}

abbrev shop : List ℕ
shop = codes "shop"

abbrev main : List ℕ
main = codes "main"

abbrev code : List ModuleTree
code = record { name = shop; exports = []; functions = [] } ∷ []

-- Process 1 starts; comes to interpreted code; stops; is let go on; and leaves. Or it ends while it runs.
abbrev started : List Entry
started = entry.Start 1 1 shop main term.nil ∷ []

abbrev inside : List Entry
inside = started ++ entry.Enter 1 shop main 0 ∷ []

abbrev halted : List Entry
halted = inside ++ entry.Stop 1 shop 4 1 (cause.Break 1) ∷ []

abbrev resumed : List Entry
resumed = halted ++ entry.Served 1 (command.Continue 1) reply.Ok ∷ []

abbrev left : List Entry
left = resumed ++ entry.Leave 1 ∷ []

abbrev gone : List Entry
gone = inside ++ entry.Did 1 kind.End (codes "normal") [] ∷ []

-- console 1 is attached to process 1
abbrev attached : List Entry → List Entry
attached journal = journal ++ entry.Served 1 (command.Ia 1) reply.Ok ∷ []

-- the statuses
not_started : status_by 1 [] ≡ None
not_started = refl

another_started : status_by 2 started ≡ None
another_started = refl

idle_once_started : status_by 1 started ≡ Some status.Idle
idle_once_started = refl

running_inside : status_by 1 inside ≡ Some status.Running
running_inside = refl

break_at_a_stop : status_by 1 halted ≡ Some status.Break
break_at_a_stop = refl

break_behind_its_trigger : status_by 1 (halted ++ entry.Trigger 1 shop 4 1 action.Enable true ∷ []) ≡ Some status.Break
break_behind_its_trigger = refl

running_once_it_goes_on : status_by 1 resumed ≡ Some status.Running
running_once_it_goes_on = refl

break_where_refused : status_by 1 (halted ++ entry.Served 1 (command.Continue 1) (reply.Refused refusal.NotInterpreted) ∷ []) ≡ Some status.Break
break_where_refused = refl

break_where_another_goes_on : status_by 1 (halted ++ entry.Served 1 (command.Continue 2) reply.Ok ∷ []) ≡ Some status.Break
break_where_another_goes_on = refl

idle_once_it_left : status_by 1 left ≡ Some status.Idle
idle_once_it_left = refl

running_as_it_prints : status_by 1 (inside ++ entry.Did 1 kind.Print (codes "true") (codes "hi") ∷ []) ≡ Some status.Running
running_as_it_prints = refl

exit_at_its_end : status_by 1 gone ≡ Some status.Exit
exit_at_its_end = refl

exit_by_a_signal : status_by 1 (halted ++ entry.Signal 1 (Some (codes "normal")) ∷ []) ≡ Some status.Exit
exit_by_a_signal = refl

exit_by_a_kill : status_by 1 (halted ++ entry.Kill 1 1 ∷ []) ≡ Some status.Exit
exit_by_a_kill = refl

running_once_left_out : status_by 1 (halted ++ entry.Skip 1 1 ∷ []) ≡ Some status.Running
running_once_left_out = refl

waiting_for_a_message : status_by 1 (inside ++ entry.Ask 1 kind.Receive ∷ []) ≡ Some status.Waiting
waiting_for_a_message = refl

running_for_another_act : status_by 1 (inside ++ entry.Ask 1 kind.Print ∷ []) ≡ Some status.Running
running_for_another_act = refl

running_with_its_answer : status_by 1 (inside ++ entry.Ask 1 kind.Receive ∷ (entry.Took 1 ∷ [])) ≡ Some status.Running
running_with_its_answer = refl

exit_outside : is_inside (status_by 1 gone) ≡ false
exit_outside = refl

halted_inside : is_inside (status_by 1 halted) ≡ true
halted_inside = refl

running_unhalted : is_halted (status_by 1 resumed) ≡ false
running_unhalted = refl

-- the refusals
start_done : refused_by code started 1 (command.Start shop main term.nil) ≡ None
start_done = refl

start_below_the_limit : (journal : List Entry) → processes_by journal ≡ 65_535 → refused_by code journal 1 (command.Start shop main term.nil) ≡ None
start_below_the_limit journal is = ap (λ (n : ℕ). if nat_lt n 65_536 then None else Some refusal.SystemLimit) is

start_at_the_limit : (journal : List Entry) → processes_by journal ≡ 65_536 → refused_by code journal 1 (command.Start shop main term.nil) ≡ Some refusal.SystemLimit
start_at_the_limit journal is = ap (λ (n : ℕ). if nat_lt n 65_536 then None else Some refusal.SystemLimit) is

ii_done : refused_by code [] 1 (command.Ii shop) ≡ None
ii_done = refl

ii_no_module : refused_by code [] 1 (command.Ii main) ≡ Some refusal.NoModule
ii_no_module = refl

abbrev broken : List Entry
broken = entry.Served 1 (command.Ib shop 4) reply.Ok ∷ []

ib_done : refused_by code [] 1 (command.Ib shop 4) ≡ None
ib_done = refl

ib_at_another_line : refused_by code broken 1 (command.Ib shop 5) ≡ None
ib_at_another_line = refl

ib_exists : refused_by code broken 2 (command.Ib shop 4) ≡ Some refusal.BreakExists
ib_exists = refl

ib_once_deleted : refused_by code (broken ++ entry.Trigger 1 shop 4 1 action.Delete true ∷ []) 1 (command.Ib shop 4) ≡ None
ib_once_deleted = refl

ia_no_process : refused_by code inside 1 (command.Ia 9) ≡ Some refusal.NoProcess
ia_no_process = refl

ia_not_interpreted : refused_by code started 1 (command.Ia 1) ≡ Some refusal.NotInterpreted
ia_not_interpreted = refl

ia_once_ended : refused_by code gone 1 (command.Ia 1) ≡ Some refusal.NotInterpreted
ia_once_ended = refl

ia_attached : refused_by code (attached inside) 2 (command.Ia 1) ≡ Some refusal.AlreadyAttached
ia_attached = refl

ia_attached_by_itself : refused_by code (attached inside) 1 (command.Ia 1) ≡ Some refusal.AlreadyAttached
ia_attached_by_itself = refl

ia_done : refused_by code inside 1 (command.Ia 1) ≡ None
ia_done = refl

continue_no_process : refused_by code inside 1 (command.Continue 9) ≡ Some refusal.NoProcess
continue_no_process = refl

continue_not_interpreted : refused_by code left 1 (command.Continue 1) ≡ Some refusal.NotInterpreted
continue_not_interpreted = refl

continue_unattached : refused_by code halted 2 (command.Continue 1) ≡ None
continue_unattached = refl

bindings_no_process : refused_by code (attached halted) 1 (command.Bindings 9) ≡ Some refusal.NoProcess
bindings_no_process = refl

bindings_not_interpreted : refused_by code (attached left) 1 (command.Bindings 1) ≡ Some refusal.NotInterpreted
bindings_not_interpreted = refl

bindings_not_attached : refused_by code halted 1 (command.Bindings 1) ≡ Some refusal.NotAttached
bindings_not_attached = refl

bindings_of_another_console : refused_by code (attached halted) 2 (command.Bindings 1) ≡ Some refusal.NotAttached
bindings_of_another_console = refl

bindings_not_stopped : refused_by code (attached resumed) 1 (command.Bindings 1) ≡ Some refusal.NotStopped
bindings_not_stopped = refl

bindings_done : refused_by code (attached halted) 1 (command.Bindings 1) ≡ None
bindings_done = refl

await_never : refused_by code [] 1 (command.Await 9 status.Exit) ≡ None
await_never = refl

-- which comes first: what is told first hides what is told behind it
no_process_before_attached : refused_by code (entry.Served 1 (command.Ia 9) reply.Ok ∷ []) 1 (command.Ia 9) ≡ Some refusal.NoProcess
no_process_before_attached = refl

not_interpreted_before_attached : refused_by code (attached left) 2 (command.Ia 1) ≡ Some refusal.NotInterpreted
not_interpreted_before_attached = refl

no_process_before_not_attached : refused_by code [] 1 (command.Bindings 9) ≡ Some refusal.NoProcess
no_process_before_not_attached = refl

not_interpreted_before_not_attached : refused_by code left 1 (command.Bindings 1) ≡ Some refusal.NotInterpreted
not_interpreted_before_not_attached = refl

not_attached_before_not_stopped : refused_by code inside 1 (command.Bindings 1) ≡ Some refusal.NotAttached
not_attached_before_not_stopped = refl

-- how an entry is refused
refused_so : refusal_in (entry.Served 1 (command.Ia 9) (reply.Refused refusal.NoProcess)) ≡ Some refusal.NoProcess
refused_so = refl

unrefused_start : refusal_in (entry.Start 1 1 shop main term.nil) ≡ None
unrefused_start = refl
