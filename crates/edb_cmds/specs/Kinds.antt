-- How a reader of a line goes on behind its first word.

use Rattle.std.specs.Prelude.{◌≡◌, ◌==◌, ℕ, Bool, not, List, [], ◌∷◌, codes}
use Rattle.edb_event.specs.declared.call.Call.TheVariants as call
use Rattle.edb_event.specs.declared.call.Command.{Command}
use Rattle.edb_event.specs.declared.call.ProcStatus.{ProcStatus}
use Rattle.edb_event.specs.declared.call.Word.{Word}
use Rattle.edb_event.specs.declared.call.Word.TheVariants.{Absent}
use Rattle.edb_scan.specs.Fronts.{SplitsRun}
use Rattle.edb_cmds.specs.declared.commands.Kind.{Kind}
use Rattle.edb_cmds.specs.declared.commands.Kind.TheVariants.{Start, Ii, Ib, Await, Ia, Bindings, Continue}
use Rattle.edb_cmds.specs.declared.script.StartCommand.{StartCommand}
use Rattle.edb_cmds.specs.Fields.{atom, line, process, status, AreFields}
use Rattle.edb_cmds.specs.Script.{IsStart}
use Rattle.edb_cmds.specs.Words.{SplitsGap}

abbrev pub stays_in_word : ℕ → Bool
stays_in_word c = not (c == 32)

-- the gap at the head of a text, the word behind it up to a space, and the rest
pub record SplitsWord (text word rest : List ℕ) : Type 0 where
  pub from : List ℕ
  pub gap : SplitsGap text from
  pub run : SplitsRun stays_in_word from word rest

abbrev pub word_of : Kind → List ℕ
word_of Start = codes "start"
word_of Ii = codes "ii"
word_of Ib = codes "ib"
word_of Await = codes "await"
word_of Ia = codes "ia"
word_of Bindings = codes "bindings"
word_of Continue = codes "continue"

-- a line of this kind gives the command, where this comes behind its first word
abbrev pub Behind : Kind → List ℕ → List ℕ → Command → Type 0
Behind Start text rest c = (s : StartCommand) × IsStart text s × (c ≡ record { call = call.Start s.home s.name s.args; word = Absent })
Behind Ii text rest c = (m : List ℕ) × AreFields rest (atom m ∷ []) × (c ≡ record { call = call.Ii m; word = Absent })
Behind Ib text rest c = (m : List ℕ) × (l : ℕ) × AreFields rest (atom m ∷ line l ∷ []) × (c ≡ record { call = call.Ib m l; word = Absent })
Behind Await text rest c = (w : Word) × (s : ProcStatus) × AreFields rest (process w ∷ status s ∷ []) × (c ≡ record { call = call.Await 0 s; word = w })
Behind Ia text rest c = (w : Word) × AreFields rest (process w ∷ []) × (c ≡ record { call = call.Ia 0; word = w })
Behind Bindings text rest c = (w : Word) × AreFields rest (process w ∷ []) × (c ≡ record { call = call.Bindings 0; word = w })
Behind Continue text rest c = (w : Word) × AreFields rest (process w ∷ []) × (c ≡ record { call = call.Continue 0; word = w })
