-- The line of an entry: its word and its fields.

use Rattle.std.specs.Prelude.{◌≡◌, ℕ, pos, Bool, true, false, List, [], ◌∷◌, ◌++◌, Option, None, Some, codes, refl}
use Rattle.std.specs.Fmt.{decimal, digits}
use Rattle.edb_lang.specs.Terms.{int, nil, cons}
use Rattle.edb_lang.specs.TermText.{atom_text, plain_text, text, tuple_text, items_text}
use Rattle.edb_lang.specs.declared.act.ActKind.TheVariants as kind
use Rattle.edb_lang.specs.declared.small.Action.TheVariants as action
use Rattle.edb_event.specs.declared.call.Call.TheVariants as call
use Rattle.edb_event.specs.declared.entry.Cause.{Cause}
use Rattle.edb_event.specs.declared.entry.Cause.TheVariants as cause
use Rattle.edb_event.specs.declared.entry.Entry.{Entry}
use Rattle.edb_event.specs.declared.entry.Entry.TheVariants as entry
use Rattle.edb_event.specs.declared.reply.Refusal.TheVariants as refusal
use Rattle.edb_event.specs.declared.reply.Reply.TheVariants as reply
use Rattle.edb_words.specs.Commands.{call_words}
use Rattle.edb_words.specs.Words.{action_word, kind_word}
use Rattle.edb_fields.specs.Hexadecimal.{hex_text}
use Rattle.edb_fields.specs.Separators.{fields}
use Rattle.edb_journal.specs.Replies.{reply_fields}

-- the reason of a signal that ended its receiver
abbrev pub ended_fields : Option (List ℕ) → List (List ℕ)
ended_fields None = []
ended_fields (Some reason) = hex_text reason ∷ []

-- why a process stopped
abbrev pub cause_fields : Cause → List (List ℕ)
cause_fields cause.Order = codes "order" ∷ []
cause_fields (cause.Break serial) = codes "break" ∷ decimal serial ∷ []

-- whether a trigger was applied
abbrev pub applied_text : Bool → List ℕ
applied_text true = codes "1"
applied_text false = codes "0"

-- The entries of `skip`, `kill` and `timeout` have lines too, though no journal of the first version has such an entry.
unfoldable pub line : Entry → List ℕ
line (entry.Start c p m f args) =
    codes "start" ++ fields (decimal c ∷ decimal p ∷ atom_text m ∷ atom_text f ∷ plain_text args ∷ [])
line (entry.Load c m v) = codes "load" ++ fields (decimal c ∷ atom_text m ∷ decimal v ∷ [])
line (entry.Skip c p) = codes "skip" ++ fields (decimal c ∷ decimal p ∷ [])
line (entry.Kill c p) = codes "kill" ++ fields (decimal c ∷ decimal p ∷ [])
line (entry.Expire c p) = codes "expire" ++ fields (decimal c ∷ decimal p ∷ [])
line (entry.Lease p budget) = codes "lease" ++ fields (decimal p ∷ decimal budget ∷ [])
line (entry.Ran p moves cond) = codes "ran" ++ fields (decimal p ∷ decimal moves ∷ decimal cond ∷ [])
line (entry.Ask p k) = codes "ask" ++ fields (decimal p ∷ kind_word k ∷ [])
line (entry.Did p k value bytes) = codes "did" ++ fields (decimal p ∷ kind_word k ∷ hex_text value ∷ hex_text bytes ∷ [])
line (entry.Took p) = codes "took" ++ fields (decimal p ∷ [])
line (entry.Forward p) = codes "forward" ++ fields (decimal p ∷ [])
line (entry.Leave p) = codes "leave" ++ fields (decimal p ∷ [])
line (entry.Enter p m f a) = codes "enter" ++ fields (decimal p ∷ atom_text m ∷ atom_text f ∷ decimal a ∷ [])
line (entry.Signal p ended) = codes "signal" ++ fields (decimal p ∷ ended_fields ended)
line (entry.Advance t) = codes "advance" ++ fields (decimal t ∷ [])
line (entry.Stop p m l n by) = codes "stop" ++ fields (decimal p ∷ atom_text m ∷ decimal l ∷ decimal n ∷ cause_fields by)
line (entry.Trigger p m l serial a applied) =
    codes "trigger"
    ++ fields (decimal p ∷ atom_text m ∷ decimal l ∷ decimal serial ∷ action_word a ∷ applied_text applied ∷ [])
line (entry.Served c x r) = codes "served" ++ fields (decimal c ∷ (call_words decimal x ++ (codes "=" ∷ reply_fields r)))

start_row : line (entry.Start 1 1 (codes "shop") (codes "main") (cons (int (pos 97)) nil)) ≡ codes "start 1 1 shop main [97]\n"
unfolding line fields digits plain_text text tuple_text items_text
start_row = refl

did_row : line (entry.Did 1 kind.Print (codes "true") (codes "5\n")) ≡ codes "did 1 print 74727565 350a\n"
unfolding line fields digits
did_row = refl

signal_row : line (entry.Signal 2 None) ≡ codes "signal 2\n"
unfolding line fields digits
signal_row = refl

ended_row : line (entry.Signal 2 (Some (codes "ok"))) ≡ codes "signal 2 6f6b\n"
unfolding line fields digits
ended_row = refl

order_row : line (entry.Stop 1 (codes "Shop") 7 2 cause.Order) ≡ codes "stop 1 'Shop' 7 2 order\n"
unfolding line fields digits
order_row = refl

break_row : line (entry.Stop 1 (codes "shop") 7 2 (cause.Break 340282366920938463463374607431768211455))
    ≡ codes "stop 1 shop 7 2 break 340282366920938463463374607431768211455\n"
unfolding line fields digits
break_row = refl

trigger_row : line (entry.Trigger 1 (codes "shop") 7 3 action.Delete true) ≡ codes "trigger 1 shop 7 3 delete 1\n"
unfolding line fields digits
trigger_row = refl

served_row : line (entry.Served 8 (call.Ibc (codes "shop") 7 (codes "check", codes "rich")) reply.Ok) ≡ codes "served 8 ibc shop 7 check rich = ok\n"
unfolding line fields digits
served_row = refl

refused_row : line (entry.Served 1 (call.Start (codes "shop") (codes "main") nil) (reply.Refused refusal.SystemLimit))
    ≡ codes "served 1 start shop main [] = refused system_limit\n"
unfolding line fields digits plain_text text tuple_text items_text
refused_row = refl

no_flags_row : line (entry.Served 1 (call.Iaa []) reply.Ok) ≡ codes "served 1 iaa false = ok\n"
unfolding line fields digits
no_flags_row = refl

frames_row : line (entry.Served 1 (call.Frames 3) (reply.Rows (codes "a" ∷ []))) ≡ codes "served 1 frames 3 = rows 1 61\n"
unfolding line fields digits
frames_row = refl
