-- What an entry of a journal tells the interpreter server.

use Rattle.std.specs.Prelude.{ℕ, Bool, true, false, if◌then◌else◌, nat_lt, length, codes, List, [], ◌∷◌, Option, None, Some}
use Rattle.std.specs.Option.{option_and_then, option_map_or}
use Rattle.edb_lang.specs.declared.act.ActKind.{ActKind}
use Rattle.edb_lang.specs.declared.act.ActKind.TheVariants as kind
use Rattle.edb_model.specs.Running.{Info, Run}
use Rattle.edb_model.specs.Innermost.{innermost}
use Rattle.edb_model.specs.Plain.{Plain, running_at}
use Rattle.edb_event.specs.declared.call.Call.TheVariants as command
use Rattle.edb_event.specs.declared.entry.Entry.{Entry}
use Rattle.edb_event.specs.declared.entry.Entry.TheVariants as entry
use Rattle.edb_rules.specs.Seen.{Frame}
use Rattle.edb_rules.specs.Server.{Server}
use Rattle.edb_rules.specs.Replies.{is_accepted}
use Rattle.edb_rules.specs.Called.{called}
use Rattle.edb_rules.specs.Noted as news
use Rattle.edb_rules.specs.Noted.{Noted, noted}

-- The frame of a Body that is to begin the expression at this line.
abbrev pub frame_at : ℕ → Info → Frame
frame_at l i = record { level = i.level; home = i.home; name = i.name; arity = i.arity; line = l; bindings = i.bindings }

-- The frames of what a process has to do that are told at a stop at this line: that of the innermost Body. Those of the Bodies
-- round it come with the command that shows them.
abbrev pub frames_in : ℕ → Option Run → List Frame
frames_in l t = option_map_or (λ (i : Info). frame_at l i ∷ []) (option_and_then innermost t) []

abbrev pub is_receive : ActKind → Bool
is_receive kind.Receive = true
is_receive _ = false

-- what an act tells: its process's end, with the text of its reason; or the process that a spawn made, which is the last one
abbrev pub act_news : ActKind → Plain → Plain → ℕ → List ℕ → Option Noted
act_news kind.End old new p value = Some (news.ended p value)
act_news kind.Spawn old new p value = if nat_lt (length old.running) (length new.running) then Some (news.started (length new.running)) else None
act_news _ old new p value = None

-- THE NEWS OF AN ENTRY, by the plain states before and behind it
abbrev pub news_of : Plain → Plain → Entry → Option Noted
news_of old new (entry.Start c p m n args) = Some (news.started p)
news_of old new (entry.Load c m v) = Some (news.loaded m v)
news_of old new (entry.Kill c p) = Some (news.ended p (codes "killed"))
news_of old new (entry.Ask p k) = Some (news.asks p (is_receive k))
news_of old new (entry.Did p k value bytes) = act_news k old new p value
news_of old new (entry.Took p) = Some (news.took p)
news_of old new (entry.Leave p) = Some (news.left p)
news_of old new (entry.Enter p m n a) = Some (news.entered p m n a)
news_of old new (entry.Signal p (Some reason)) = Some (news.ended p reason)
news_of old new (entry.Stop p m l n by) = Some (news.stopped p m l n (frames_in l (running_at old p)))
news_of old new (entry.Trigger p m l serial a applied) = Some (news.triggered m l serial a)
news_of old new _ = None

abbrev pub told : Server → Option Noted → Server
told s None = s
told s (Some n) = noted s n

-- A command that was accepted changes what it is for, and so does an expression that is left out; every other entry is news, or
-- nothing.
abbrev pub server_with : Server → Plain → Plain → Entry → Server
server_with s old new (entry.Served c x r) = if is_accepted r then called s c x else s
server_with s old new (entry.Skip c p) = called s c (command.Skip p)
server_with s old new e = told s (news_of old new e)
