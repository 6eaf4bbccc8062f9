-- The ranges that the types of code give an entry's fields, where the ranges of a journal's entries aren't narrower, and that
-- the names are UTF-8: what a journal's text can say. Of every entry that code holds they are so.

use Rattle.std.specs.Prelude.{ℕ, ◌^◌, ◌<◌, Option, None, Some, List, [], ◌∷◌, length, IsUtf8}
use Rattle.edb_event.specs.declared.call.Call.{Call}
use Rattle.edb_event.specs.declared.call.Call.TheVariants as call
use Rattle.edb_event.specs.declared.entry.Cause.{Cause}
use Rattle.edb_event.specs.declared.entry.Cause.TheVariants as cause
use Rattle.edb_event.specs.declared.entry.Entry.{Entry}
use Rattle.edb_event.specs.declared.entry.Entry.TheVariants as entry
use Rattle.edb_event.specs.declared.reply.Reply.{Reply}
use Rattle.edb_event.specs.declared.reply.Reply.TheVariants as reply
use Rattle.edb_fields.specs.Hexadecimal.{AreBytes}
use Rattle.edb_fields.specs.Literals.{HasText}

-- numbers of 32, 64 and 128 bits
abbrev pub Is32Bits : ℕ → Type 0
Is32Bits n = n < 2 ^ 32

abbrev pub Is64Bits : ℕ → Type 0
Is64Bits n = n < 2 ^ 64

abbrev pub Is128Bits : ℕ → Type 0
Is128Bits n = n < 2 ^ 128

-- The numbers of a command are in the ranges of its entry, which are narrower.
abbrev pub IsWideCall : Call → Type 0
IsWideCall (call.Start m f args) = IsUtf8 m × IsUtf8 f × HasText args
IsWideCall (call.Load m v) = IsUtf8 m
IsWideCall (call.Ii m) = IsUtf8 m
IsWideCall (call.Iq m) = IsUtf8 m
IsWideCall (call.Ib m l) = IsUtf8 m
IsWideCall (call.IbIn m f a) = IsUtf8 m × IsUtf8 f
IsWideCall (call.Ir m l) = IsUtf8 m
IsWideCall (call.IrModule m) = IsUtf8 m
IsWideCall (call.IrIn m f a) = IsUtf8 m × IsUtf8 f
IsWideCall (call.Ibd m l) = IsUtf8 m
IsWideCall (call.Ibe m l) = IsUtf8 m
IsWideCall (call.Iba m l a) = IsUtf8 m
IsWideCall (call.Ibc m l c) = IsUtf8 m × IsUtf8 c.0 × IsUtf8 c.1
IsWideCall (call.IpbModule m) = IsUtf8 m
IsWideCall _ = Unit {0}

abbrev pub AreRows : List (List ℕ) → Type 0
AreRows [] = Unit {0}
AreRows (r ∷ rs) = AreBytes r × AreRows rs

abbrev pub IsWideReply : Reply → Type 0
IsWideReply (reply.Status p s) = Is32Bits p
IsWideReply (reply.Rows rows) = Is64Bits (length rows) × AreRows rows
IsWideReply _ = Unit {0}

abbrev pub IsWideCause : Cause → Type 0
IsWideCause cause.Order = Unit {0}
IsWideCause (cause.Break serial) = Is128Bits serial

abbrev pub IsWideReason : Option (List ℕ) → Type 0
IsWideReason None = Unit {0}
IsWideReason (Some reason) = AreBytes reason

abbrev pub IsWide : Entry → Type 0
IsWide (entry.Start c p m f args) = Is32Bits p × IsUtf8 m × IsUtf8 f × HasText args
IsWide (entry.Load c m v) = IsUtf8 m × Is32Bits v
IsWide (entry.Skip c p) = Is32Bits c × Is32Bits p
IsWide (entry.Kill c p) = Is32Bits c × Is32Bits p
IsWide (entry.Expire c p) = Is32Bits c × Is32Bits p
IsWide (entry.Lease p budget) = Is32Bits p × Is32Bits budget
IsWide (entry.Ran p moves cond) = Is32Bits p × Is32Bits moves × Is32Bits cond
IsWide (entry.Ask p k) = Is32Bits p
IsWide (entry.Did p k value bytes) = Is32Bits p × AreBytes value × AreBytes bytes
IsWide (entry.Took p) = Is32Bits p
IsWide (entry.Forward p) = Is32Bits p
IsWide (entry.Leave p) = Is32Bits p
IsWide (entry.Enter p m f a) = Is32Bits p × IsUtf8 m × IsUtf8 f × Is32Bits a
IsWide (entry.Signal p ended) = Is32Bits p × IsWideReason ended
IsWide (entry.Advance t) = Is64Bits t
IsWide (entry.Stop p m l n by) = Is32Bits p × IsUtf8 m × Is32Bits l × Is64Bits n × IsWideCause by
IsWide (entry.Trigger p m l serial a applied) = Is32Bits p × IsUtf8 m × Is32Bits l × Is128Bits serial
IsWide (entry.Served c x r) = IsWideCall x × IsWideReply r

abbrev pub AreWide : List Entry → Type 0
AreWide [] = Unit {0}
AreWide (e ∷ es) = IsWide e × AreWide es
