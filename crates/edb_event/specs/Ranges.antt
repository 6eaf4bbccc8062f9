-- The ranges of an entry's fields, beyond those of their types.

use Rattle.std.specs.Prelude.{ℕ, ℤ, pos, negsuc, ◌+◌, ◌^◌, ◌<◌, ◌≤◌, List, [], ◌∷◌, length, chars}
use Rattle.edb_lang.specs.Terms.{Datum, Datums, Captures, IsWithin}
use Rattle.edb_lang.specs.Terms as term
use Rattle.edb_event.specs.declared.entry.Entry.{Entry}
use Rattle.edb_event.specs.declared.entry.Entry.TheVariants as entry
use Rattle.edb_event.specs.declared.call.Call.{Call}
use Rattle.edb_event.specs.declared.call.Call.TheVariants as call
use Rattle.edb_event.specs.declared.call.Word.{Word}
use Rattle.edb_event.specs.declared.call.Word.TheVariants as word
use Rattle.edb_event.specs.declared.call.Command.{Command}
use Rattle.edb_event.specs.declared.reply.Refusal.TheVariants as refusal
use Rattle.edb_event.specs.declared.reply.Reply.{Reply}
use Rattle.edb_event.specs.declared.reply.Reply.TheVariants as reply
use Rattle.edb_event.specs.Weights.{weight}

-- consoles are numbered from 1 to 8
abbrev pub IsConsole : ℕ → Type 0
IsConsole c = (1 ≤ c) × (c ≤ 8)

-- an atom has at most 255 characters
abbrev pub IsShort : List ℕ → Type 0
IsShort name = length (chars name) ≤ 255

-- what is written in so many decimal digits at most: a process, and the place of a start
abbrev pub IsNumber : ℕ → Type 0
IsNumber n = n ≤ 9_999_999

-- the lines that a command may name, its arities and its versions
abbrev pub IsLine : ℕ → Type 0
IsLine l = (1 ≤ l) × (l ≤ 999_999)

abbrev pub IsArity : ℕ → Type 0
IsArity a = a ≤ 255

abbrev pub IsVersion : ℕ → Type 0
IsVersion v = (1 ≤ v) × (v ≤ 999)

-- an integer as it is written: digits of a number below 2^127, behind a sign or not
abbrev pub IsWritten : ℤ → Type 0
IsWritten (pos n) = n < 2 ^ 127
IsWritten (negsuc n) = n + 1 < 2 ^ 127

-- a literal: integers, atoms, tuples and lists of such
abbrev mutual
  pub IsLiteral : Datum → Type 0
  IsLiteral (term.int i) = IsWritten i
  IsLiteral (term.atom a) = IsShort a
  IsLiteral (term.reference r) = ⊥
  IsLiteral (term.made m v i a cs) = ⊥
  IsLiteral (term.named m f a) = ⊥
  IsLiteral (term.pid p) = ⊥
  IsLiteral (term.tuple ts) = AreLiteral ts
  IsLiteral term.nil = Unit {0}
  IsLiteral (term.cons h t) = IsLiteral h × IsLiteral t

  pub AreLiteral : Datums → Type 0
  AreLiteral term.none = Unit {0}
  AreLiteral (term.more t ts) = IsLiteral t × AreLiteral ts

-- a list up to its end
abbrev pub IsProper : Datum → Type 0
IsProper term.nil = Unit {0}
IsProper (term.cons h t) = IsProper t
IsProper _ = ⊥

-- the list of a start: proper, literal, within the limits of a term
abbrev pub IsList : Datum → Type 0
IsList args = IsProper args × IsLiteral args × IsWithin args

-- The words of a command are in range: atoms, lines, arities, versions, numbers of processes, flags. No script can
-- spell `skip`, `kill` and `timeout` yet.
abbrev pub IsCall : Call → Type 0
IsCall (call.Start m f args) = IsShort m × IsShort f × IsList args
IsCall (call.Load m v) = IsShort m × IsVersion v
IsCall (call.Ii m) = IsShort m
IsCall (call.Iq m) = IsShort m
IsCall call.Il = Unit {0}
IsCall (call.Ib m l) = IsShort m × IsLine l
IsCall (call.IbIn m f a) = IsShort m × IsShort f × IsArity a
IsCall (call.Ir m l) = IsShort m × IsLine l
IsCall (call.IrModule m) = IsShort m
IsCall call.IrAll = Unit {0}
IsCall (call.IrIn m f a) = IsShort m × IsShort f × IsArity a
IsCall (call.Ibd m l) = IsShort m × IsLine l
IsCall (call.Ibe m l) = IsShort m × IsLine l
IsCall (call.Iba m l a) = IsShort m × IsLine l
IsCall (call.Ibc m l c) = IsShort m × IsLine l × IsShort c.0 × IsShort c.1
IsCall call.Ipb = Unit {0}
IsCall (call.IpbModule m) = IsShort m
IsCall call.Ip = Unit {0}
IsCall call.Ic = Unit {0}
IsCall (call.Iaa flags) = length flags ≤ 3
IsCall (call.Ist w) = Unit {0}
IsCall (call.Ia p) = IsNumber p
IsCall (call.Detach p) = IsNumber p
IsCall (call.Step p) = IsNumber p
IsCall (call.Next p) = IsNumber p
IsCall (call.Finish p) = IsNumber p
IsCall (call.Halt p) = IsNumber p
IsCall (call.Continue p) = IsNumber p
IsCall (call.Skip p) = ⊥
IsCall (call.Kill p) = ⊥
IsCall (call.Timeout p) = ⊥
IsCall (call.Bindings p) = IsNumber p
IsCall (call.Frames p) = IsNumber p
IsCall (call.Await p s) = IsNumber p
IsCall (call.AwaitAny s) = Unit {0}
IsCall call.Quit = Unit {0}

-- what is answered by an entry of its own where it is accepted is served only where it is refused
abbrev pub MayAnswer : Call → Reply → Type 0
MayAnswer (call.Start m f args) (reply.Refused why) = Unit {0}
MayAnswer (call.Start m f args) _ = ⊥
MayAnswer (call.Load m v) (reply.Refused why) = Unit {0}
MayAnswer (call.Load m v) _ = ⊥
MayAnswer _ _ = Unit {0}

-- a reply of today: nothing is refused as `not_waiting` yet
abbrev pub IsReply : Reply → Type 0
IsReply (reply.Refused refusal.NotWaiting) = ⊥
IsReply _ = Unit {0}

-- the fields of an entry are in range; the entries of `skip`, `kill` and `timeout` aren't in any journal yet
abbrev pub IsEntry : Entry → Type 0
IsEntry (entry.Start c p m f args) = IsConsole c × IsCall (call.Start m f args)
IsEntry (entry.Load c m v) = IsConsole c × IsShort m
IsEntry (entry.Skip c p) = ⊥
IsEntry (entry.Kill c p) = ⊥
IsEntry (entry.Expire c p) = ⊥
IsEntry (entry.Lease p b) = Unit {0}
IsEntry (entry.Ran p n c) = Unit {0}
IsEntry (entry.Ask p k) = Unit {0}
IsEntry (entry.Did p k v bytes) = Unit {0}
IsEntry (entry.Took p) = Unit {0}
IsEntry (entry.Forward p) = Unit {0}
IsEntry (entry.Leave p) = Unit {0}
IsEntry (entry.Enter p m f a) = IsShort m × IsShort f
IsEntry (entry.Signal p r) = Unit {0}
IsEntry (entry.Advance t) = Unit {0}
IsEntry (entry.Stop p m l n by) = IsShort m
IsEntry (entry.Trigger p m l s a applied) = IsShort m
IsEntry (entry.Served c x r) = IsConsole c × IsCall x × MayAnswer x r × IsReply r

-- the greatest weight of a journal
abbrev pub most_weight : ℕ
most_weight = 1_007_000

abbrev pub AreEntries : List Entry → Type 0
AreEntries [] = Unit {0}
AreEntries (e ∷ es) = IsEntry e × AreEntries es

-- a journal: its entries are in range, and it isn't heavier than any may be
pub record IsJournal (entries : List Entry) : Type 0 where
  pub ranges : AreEntries entries
  pub light : weight entries ≤ most_weight

-- how a command names its process: by a number, or by the place of a start, in at most 7 digits, or by an atom
abbrev pub IsWord : Word → Type 0
IsWord word.Absent = Unit {0}
IsWord (word.Number n) = IsNumber n
IsWord (word.Own k) = IsNumber k
IsWord (word.Named name) = IsShort name
IsWord word.Last = Unit {0}

-- a command of a script
abbrev pub IsCommand : Command → Type 0
IsCommand c = IsCall c.call × IsWord c.word

abbrev pub AreCommands : List Command → Type 0
AreCommands [] = Unit {0}
AreCommands (c ∷ cs) = IsCommand c × AreCommands cs

abbrev pub AreScripts : List (List Command) → Type 0
AreScripts [] = Unit {0}
AreScripts (cs ∷ rest) = AreCommands cs × AreScripts rest
