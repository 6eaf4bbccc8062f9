-- The small words, read back.

use Rattle.std.specs.Prelude.{◌≡◌, ℕ, List, [], ◌∷◌, Option, None, Some, codes, refl}
use Rattle.edb_lang.specs.declared.act.ActKind.{ActKind}
use Rattle.edb_lang.specs.declared.act.ActKind.TheVariants as kind
use Rattle.edb_lang.specs.declared.small.Action.{Action}
use Rattle.edb_lang.specs.declared.small.Action.TheVariants as action
use Rattle.edb_event.specs.declared.call.AutoFlag.{AutoFlag}
use Rattle.edb_event.specs.declared.call.AutoFlag.TheVariants as flag
use Rattle.edb_event.specs.declared.call.ProcStatus.{ProcStatus}
use Rattle.edb_event.specs.declared.call.ProcStatus.TheVariants as status
use Rattle.edb_event.specs.declared.call.TraceWord.{TraceWord}
use Rattle.edb_event.specs.declared.call.TraceWord.TheVariants as trace
use Rattle.edb_event.specs.declared.reply.Refusal.{Refusal}
use Rattle.edb_event.specs.declared.reply.Refusal.TheVariants as refusal
use Rattle.edb_words.specs.Words.{status_word, action_word, flag_word, trace_word, refusal_word, kind_word}
use Rattle.edb_fields.specs.Chain.{◌>>=◌}
use Rattle.edb_served.specs.Words.{word_at, named}

abbrev pub kinds : List ActKind
kinds =
    kind.Send ∷ kind.Receive ∷ kind.Wait ∷ kind.Timeout ∷ kind.Spawn ∷ kind.Link ∷ kind.Unlink ∷ kind.Monitor ∷ kind.Demonitor ∷ kind.Exit
    ∷ kind.Register ∷ kind.Unregister ∷ kind.Whereis ∷ kind.Trap ∷ kind.Alive ∷ kind.MakeRef ∷ kind.Print ∷ kind.End ∷ []

abbrev pub statuses : List ProcStatus
statuses = status.Idle ∷ status.Running ∷ status.Waiting ∷ status.Break ∷ status.Exit ∷ []

abbrev pub actions : List Action
actions = action.Enable ∷ action.Disable ∷ action.Delete ∷ []

abbrev pub flags : List AutoFlag
flags = flag.Init ∷ flag.Break ∷ flag.Exit ∷ []

abbrev pub traces : List TraceWord
traces = trace.All ∷ trace.True ∷ trace.NoTail ∷ trace.False ∷ []

-- those that a journal of the first version may have
abbrev pub refusals : List Refusal
refusals =
    refusal.BreakExists ∷ refusal.FunctionNotFound ∷ refusal.NotInterpreted ∷ refusal.NoModule ∷ refusal.NoVersion ∷ refusal.NoProcess
    ∷ refusal.AlreadyAttached ∷ refusal.NotAttached ∷ refusal.NotStopped ∷ refusal.SystemLimit ∷ []

-- a field that is the word of one of some values
abbrev pub value_at : {A : Type 0} → (A → List ℕ) → List A → List ℕ → Option (A × List ℕ)
value_at word_of values bytes = do
  (word, rest) ← word_at bytes
  value ← named word_of values word
  Some (value, rest)

abbrev pub kind_at : List ℕ → Option (ActKind × List ℕ)
kind_at = value_at kind_word kinds

abbrev pub status_at : List ℕ → Option (ProcStatus × List ℕ)
status_at = value_at status_word statuses

abbrev pub action_at : List ℕ → Option (Action × List ℕ)
action_at = value_at action_word actions

abbrev pub flag_at : List ℕ → Option (AutoFlag × List ℕ)
flag_at = value_at flag_word flags

abbrev pub trace_at : List ℕ → Option (TraceWord × List ℕ)
trace_at = value_at trace_word traces

abbrev pub refusal_at : List ℕ → Option (Refusal × List ℕ)
refusal_at = value_at refusal_word refusals

print_read : kind_at (codes " print 35") ≡ Some (kind.Print, codes " 35")
print_read = refl

no_kind : kind_at (codes " prints 35") ≡ None
no_kind = refl

not_yet : refusal_at (codes " not_waiting\n") ≡ None
not_yet = refl
