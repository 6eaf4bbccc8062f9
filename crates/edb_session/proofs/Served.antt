-- The commands of a script are of those that are served.

use Rattle.std.proofs.Common.{◌≡◌, ℕ, true, List, refl}
use Rattle.std.specs.List.{All}
use Rattle.std.proofs.lemmas.List.Elements.{All-nil, All-cons}
use Rattle.edb_event.specs.declared.call.Call.{Call}
use Rattle.edb_event.specs.declared.call.Call.TheVariants as call
use Rattle.edb_event.specs.declared.call.Command.{Command}
use Rattle.edb_event.specs.declared.call.Word.{Word}
use Rattle.edb_cmds.specs.CommandLines.{IsCallLine}
use Rattle.edb_cmds.specs.Listing.{ReadsLines, none, blank, command, IsScriptOf}
use Rattle.edb_rules.specs.Replies.{is_served}

-- a line gives no other call than one that is served
call_served : (text : List ℕ) (x : Call) (w : Word) → IsCallLine text x w → is_served x ≡ true
call_served text (call.Start m f args) w is = refl
call_served text (call.Ii m) w is = refl
call_served text (call.Ib m l) w is = refl
call_served text (call.Await p s) w is = refl
call_served text (call.Ia p) w is = refl
call_served text (call.Bindings p) w is = refl
call_served text (call.Continue p) w is = refl
call_served text _ w is = absurd is

abbrev IsKnown : Command → Type 0
IsKnown c = is_served c.call ≡ true

lines_served : (ls : List (List ℕ)) (cs : List Command) → ReadsLines ls cs → All IsKnown cs
lines_served ls cs none = All-nil IsKnown
lines_served ls cs (blank line more ds b r) = lines_served more ds r
lines_served ls cs (command line more c ds b r) = All-cons IsKnown c ds (call_served line c.call c.word b) (lines_served more ds r)

pub script_served : (bytes : List ℕ) (cs : List Command) → IsScriptOf bytes cs → All (λ (c : Command). is_served c.call ≡ true) cs
script_served bytes cs is = lines_served _ cs is.read
