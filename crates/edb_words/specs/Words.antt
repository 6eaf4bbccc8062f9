-- The small words of a session, a word for each variant; and how words are put next to each other.

use Rattle.std.specs.Prelude.{ℕ, List, ◌++◌, codes}
use Rattle.std.specs.List.{flat_map, join_by}
use Rattle.std.specs.Fmt.{decimal}
use Rattle.edb_lang.specs.declared.small.Action.{Action}
use Rattle.edb_lang.specs.declared.small.Action.TheVariants as action
use Rattle.edb_lang.specs.declared.act.ActKind.{ActKind}
use Rattle.edb_lang.specs.declared.act.ActKind.TheVariants as kind
use Rattle.edb_event.specs.declared.call.AutoFlag.{AutoFlag}
use Rattle.edb_event.specs.declared.call.AutoFlag.TheVariants as flag
use Rattle.edb_event.specs.declared.call.ProcStatus.{ProcStatus}
use Rattle.edb_event.specs.declared.call.ProcStatus.TheVariants as status
use Rattle.edb_event.specs.declared.call.TraceWord.{TraceWord}
use Rattle.edb_event.specs.declared.call.TraceWord.TheVariants as trace
use Rattle.edb_event.specs.declared.reply.Refusal.{Refusal}
use Rattle.edb_event.specs.declared.reply.Refusal.TheVariants as refusal
use Rattle.edb_words.specs.declared.names.ProcessForm.{ProcessForm}
use Rattle.edb_words.specs.declared.names.ProcessForm.TheVariants as form

-- a process as a transcript shows it
abbrev pub angled : ℕ → List ℕ
angled p = codes "<" ++ decimal p ++ codes ">"

-- a process: as a transcript shows it, or its number alone
abbrev pub process_word : ProcessForm → ℕ → List ℕ
process_word form.Angled p = angled p
process_word form.Plain p = decimal p

abbrev pub status_word : ProcStatus → List ℕ
status_word status.Idle = codes "idle"
status_word status.Running = codes "running"
status_word status.Waiting = codes "waiting"
status_word status.Break = codes "break"
status_word status.Exit = codes "exit"

abbrev pub action_word : Action → List ℕ
action_word action.Enable = codes "enable"
action_word action.Disable = codes "disable"
action_word action.Delete = codes "delete"

abbrev pub flag_word : AutoFlag → List ℕ
flag_word flag.Init = codes "init"
flag_word flag.Break = codes "break"
flag_word flag.Exit = codes "exit"

abbrev pub trace_word : TraceWord → List ℕ
trace_word trace.All = codes "all"
trace_word trace.True = codes "true"
trace_word trace.NoTail = codes "no_tail"
trace_word trace.False = codes "false"

abbrev pub refusal_word : Refusal → List ℕ
refusal_word refusal.BreakExists = codes "break_exists"
refusal_word refusal.FunctionNotFound = codes "function_not_found"
refusal_word refusal.NotInterpreted = codes "not_interpreted"
refusal_word refusal.NoModule = codes "no_module"
refusal_word refusal.NoVersion = codes "no_version"
refusal_word refusal.NoProcess = codes "no_process"
refusal_word refusal.AlreadyAttached = codes "already_attached"
refusal_word refusal.NotAttached = codes "not_attached"
refusal_word refusal.NotStopped = codes "not_stopped"
refusal_word refusal.SystemLimit = codes "system_limit"
refusal_word refusal.NotWaiting = codes "not_waiting"

abbrev pub kind_word : ActKind → List ℕ
kind_word kind.Send = codes "send"
kind_word kind.Receive = codes "receive"
kind_word kind.Wait = codes "wait"
kind_word kind.Timeout = codes "timeout"
kind_word kind.Spawn = codes "spawn"
kind_word kind.Link = codes "link"
kind_word kind.Unlink = codes "unlink"
kind_word kind.Monitor = codes "monitor"
kind_word kind.Demonitor = codes "demonitor"
kind_word kind.Exit = codes "exit"
kind_word kind.Register = codes "register"
kind_word kind.Unregister = codes "unregister"
kind_word kind.Whereis = codes "whereis"
kind_word kind.Trap = codes "trap"
kind_word kind.Alive = codes "alive"
kind_word kind.MakeRef = codes "makeref"
kind_word kind.Print = codes "print"
kind_word kind.End = codes "end"

-- words with one space between them
abbrev pub spaced : List (List ℕ) → List ℕ
spaced words = join_by (λ word. word) (codes " ") words

-- words, each after a space
abbrev pub after_spaces : List (List ℕ) → List ℕ
after_spaces words = flat_map (λ word. codes " " ++ word) words
