-- The server after a legal journal is what its entries made.

use Rattle.std.proofs.Common.{◌≡◌, ◌⊎◌, inl, inr, ℕ, Bool, true, false, if◌then◌else◌, cond, not, ◌&&◌, ◌||◌, nat_lt, length, is_none, is_some, List, [], ◌∷◌, ◌++◌, map, Option, None, Some, refl, sym, ◌∙◌, ap}
use Rattle.std.specs.List.{list_any, filter}
use Rattle.std.proofs.lemmas.Bool.{both_ways}
use Rattle.edb_lang.specs.declared.small.Action.{Action}
use Rattle.edb_lang.specs.declared.small.Action.TheVariants as action
use Rattle.edb_lang.specs.declared.small.Break.{Break}
use Rattle.edb_lang.specs.declared.small.BreakRow.{BreakRow}
use Rattle.edb_lang.specs.declared.act.ActKind.{ActKind}
use Rattle.edb_lang.specs.declared.act.ActKind.TheVariants as kind
use Rattle.edb_model.specs.Plain.{Plain}
use Rattle.edb_event.specs.declared.call.AutoFlag.{AutoFlag}
use Rattle.edb_event.specs.declared.call.AutoFlag.TheVariants as flag
use Rattle.edb_breaks.specs.Table.{Table, is_row, has_row}
use Rattle.edb_event.specs.declared.call.Call.{Call}
use Rattle.edb_event.specs.declared.call.Call.TheVariants as command
use Rattle.edb_event.specs.declared.reply.Refusal.{Refusal}
use Rattle.edb_event.specs.declared.reply.Reply.{Reply}
use Rattle.edb_event.specs.declared.reply.Reply.TheVariants as reply
use Rattle.edb_event.specs.declared.entry.Entry.{Entry}
use Rattle.edb_event.specs.declared.entry.Entry.TheVariants as entry
use Rattle.edb_rules.specs.Plans.{Plan}
use Rattle.edb_rules.specs.Facts.{Facts, at_first}
use Rattle.edb_rules.specs.Server.{Server, console_of}
use Rattle.edb_rules.specs.TableEdits.{changed_row, active, inactive, triggered}
use Rattle.edb_rules.specs.Replies.{is_served, is_accepted}
use Rattle.edb_rules.specs.Refusals.{refused}
use Rattle.edb_rules.specs.Answers.{answer, reply_of}
use Rattle.edb_rules.specs.Called.{called}
use Rattle.edb_rules.specs.Noted as news
use Rattle.edb_rules.specs.Noted.{attached_by}
use Rattle.edb_rules.specs.News.{act_news, told, server_with}
use Rattle.edb_rules.specs.Notes.{plain_with, note, facts}
use Rattle.edb_rules.specs.Legal.{IsAnswer, May, Legal}
use Rattle.edb_rules.specs.Made.{table_with, table_of, modules_with, modules_of, attached_with, attached_of}
use Rattle.edb_rules.proofs.Between.{folded}

-- where the table has no row of a serial at a place, a trigger of it changes nothing
none_of : (b c : Bool) → (b || c) ≡ false → (b ≡ false) × (c ≡ false)
none_of true c none = absurd (both_ways true none refl)
none_of false c none = (refl, none)

unchanged : (is : BreakRow → Bool) (change : Break → Break) (rs : List BreakRow) → list_any is rs ≡ false → map (changed_row is change) rs ≡ rs
unchanged is change [] none = refl
unchanged is change (r ∷ rs) none =
    let parts = none_of (is r) (list_any is rs) none in
    let first : changed_row is change r ≡ r = ap (λ (b : Bool). if b then record r { row = change r.row } else r) parts.0 in
    let rest = unchanged is change rs parts.1 in
    λ i. first i ∷ rest i

undeleted : (is : BreakRow → Bool) (rs : List BreakRow) → list_any is rs ≡ false → filter (λ r. not (is r)) rs ≡ rs
undeleted is [] none = refl
undeleted is (r ∷ rs) none =
    let parts = none_of (is r) (list_any is rs) none in
    ap (λ (b : Bool). cond (not b) (r ∷ filter (λ x. not (is x)) rs) (filter (λ x. not (is x)) rs)) parts.0
    ∙ ap (λ (xs : List BreakRow). r ∷ xs) (undeleted is rs parts.1)

unapplied : (a : Action) (serial : ℕ) (m : List ℕ) (l : ℕ) (t : Table) → has_row serial m l t ≡ false → triggered a serial m l t ≡ t
unapplied action.Enable serial m l t none = ap (λ (rs : List BreakRow). record t { rows = rs }) (unchanged (is_row serial m l) active t.rows none)
unapplied action.Disable serial m l t none = ap (λ (rs : List BreakRow). record t { rows = rs }) (unchanged (is_row serial m l) inactive t.rows none)
unapplied action.Delete serial m l t none = ap (λ (rs : List BreakRow). record t { rows = rs }) (undeleted (is_row serial m l) t.rows none)

trigger_made : (p : ℕ) (m : List ℕ) (l serial : ℕ) (a : Action) (applied : Bool) (t : Table) → applied ≡ has_row serial m l t
    → triggered a serial m l t ≡ table_with t (entry.Trigger p m l serial a applied)
trigger_made p m l serial a true t is = refl
trigger_made p m l serial a false t is = unapplied a serial m l t (sym is)

-- A command whose answer is `ok` is refused, answered `quiet`, or answered `ok`.
abbrev pub IsShort : Reply → Type 0
IsShort r = (is_accepted r ≡ false) ⊎ (r ≡ reply.Ok)

short_reply : (s : Server) (c : ℕ) (x : Call) (r : Reply) → answer s x ≡ reply.Ok → (o : Option Refusal) → refused s c x ≡ o → r ≡ reply_of s c x → IsShort r
short_reply s c x r ok None is same = inr (let here : reply_of s c x ≡ answer s x = rw is refl in same ∙ (here ∙ ok))
short_reply s c x r ok (Some why) is same = inl (let here : reply_of s c x ≡ reply.Refused why = rw is refl in ap is_accepted (same ∙ here))

pub short : (plan : Plan) (f : Facts) (c : ℕ) (x : Call) (r : Reply) → answer f.server x ≡ reply.Ok → IsAnswer plan f c x r → IsShort r
short plan f c x r ok (inl a) = short_reply f.server c x r ok (refused f.server c x) refl a.same
short plan f c x r ok (inr q) = inl (ap is_accepted q.same)

-- what an accepted command leaves as it was
pub kept_if : {A : Type 0} (h : Server → A) (b : Bool) (s t : Server) → h s ≡ h t → h (if b then s else t) ≡ h t
kept_if h true s t same = same
kept_if h false s t same = refl

pub not_short : {A : Type 0} (r : Reply) → is_accepted r ≡ true → (r ≡ reply.Ok → ⊥) → IsShort r → A
not_short r accepted other (inl refuses) = absurd (both_ways (is_accepted r) refuses accepted)
not_short r accepted other (inr is) = absurd (other is)

ib_made : (s : Server) (old new : Plain) (c : ℕ) (m : List ℕ) (l : ℕ) (r : Reply) → IsShort r
    → (server_with s old new (entry.Served c (command.Ib m l) r)).table ≡ table_with s.table (entry.Served c (command.Ib m l) r)
ib_made s old new c m l reply.Ok is = refl
ib_made s old new c m l (reply.Refused why) is = refl
ib_made s old new c m l reply.Quiet is = refl
ib_made s old new c m l (reply.Status p t) is = not_short (reply.Status p t) refl (λ e. cc) is
ib_made s old new c m l (reply.Rows rs) is = not_short (reply.Rows rs) refl (λ e. cc) is

ii_made : (s : Server) (old new : Plain) (c : ℕ) (m : List ℕ) (r : Reply) → IsShort r
    → (server_with s old new (entry.Served c (command.Ii m) r)).interpreted ≡ modules_with s.interpreted (entry.Served c (command.Ii m) r)
ii_made s old new c m reply.Ok is = refl
ii_made s old new c m (reply.Refused why) is = refl
ii_made s old new c m reply.Quiet is = refl
ii_made s old new c m (reply.Status p t) is = not_short (reply.Status p t) refl (λ e. cc) is
ii_made s old new c m (reply.Rows rs) is = not_short (reply.Rows rs) refl (λ e. cc) is

ia_made : (s : Server) (old new : Plain) (c p : ℕ) (r : Reply) → IsShort r
    → (server_with s old new (entry.Served c (command.Ia p) r)).attached ≡ attached_with s.attached (entry.Served c (command.Ia p) r)
ia_made s old new c p reply.Ok is = refl
ia_made s old new c p (reply.Refused why) is = refl
ia_made s old new c p reply.Quiet is = refl
ia_made s old new c p (reply.Status q t) is = not_short (reply.Status q t) refl (λ e. cc) is
ia_made s old new c p (reply.Rows rs) is = not_short (reply.Rows rs) refl (λ e. cc) is

-- WHAT A COMMAND THAT IS SERVED LEAVES: all but `ib` the table, all but `ii` the interpreted modules, all but `ia` who is
-- attached, and each the flags.
unserved : {A : Type 0} (x : Call) → is_served x ≡ true → is_served x ≡ false → A
unserved x known other = absurd (both_ways (is_served x) other known)

abbrev is_ib : Call → Bool
is_ib (command.Ib m l) = true
is_ib _ = false

pub table_kept : (s : Server) (c : ℕ) (x : Call) → is_served x ≡ true → is_ib x ≡ false → (called s c x).table ≡ s.table
table_kept s c (command.Ib m l) known other = absurd (both_ways true other refl)
table_kept s c (command.Iq m) known other = unserved (command.Iq m) known refl
table_kept s c (command.IbIn m f a) known other = unserved (command.IbIn m f a) known refl
table_kept s c (command.Ir m l) known other = unserved (command.Ir m l) known refl
table_kept s c (command.IrModule m) known other = unserved (command.IrModule m) known refl
table_kept s c command.IrAll known other = unserved command.IrAll known refl
table_kept s c (command.IrIn m f a) known other = unserved (command.IrIn m f a) known refl
table_kept s c (command.Ibd m l) known other = unserved (command.Ibd m l) known refl
table_kept s c (command.Ibe m l) known other = unserved (command.Ibe m l) known refl
table_kept s c (command.Iba m l a) known other = unserved (command.Iba m l a) known refl
table_kept s c (command.Ibc m l w) known other = unserved (command.Ibc m l w) known refl
table_kept s c _ known other = refl

abbrev is_ii : Call → Bool
is_ii (command.Ii m) = true
is_ii _ = false

modules_kept : (s : Server) (c : ℕ) (x : Call) → is_served x ≡ true → is_ii x ≡ false → (called s c x).interpreted ≡ s.interpreted
modules_kept s c (command.Ii m) known other = absurd (both_ways true other refl)
modules_kept s c (command.Iq m) known other = unserved (command.Iq m) known refl
modules_kept s c _ known other = refl

abbrev is_ia : Call → Bool
is_ia (command.Ia p) = true
is_ia _ = false

attached_kept : (s : Server) (c : ℕ) (x : Call) → is_served x ≡ true → is_ia x ≡ false → (called s c x).attached ≡ s.attached
attached_kept s c (command.Ia p) known other = absurd (both_ways true other refl)
attached_kept s c command.Ic known other = unserved command.Ic known refl
attached_kept s c (command.Detach p) known other = unserved (command.Detach p) known refl
attached_kept s c _ known other = refl

flags_kept : (s : Server) (c : ℕ) (x : Call) → is_served x ≡ true → (called s c x).flags ≡ s.flags
flags_kept s c (command.Iaa flags) known = unserved (command.Iaa flags) known refl
flags_kept s c _ known = refl

-- what an act tells changes nothing but what was seen of its process, where no flag is set
act_keeps : {A : Type 0} (h : Server → A) (s : Server) (k : ActKind) (old new : Plain) (p : ℕ) (value : List ℕ)
    → (h (told s (act_news kind.End old new p value)) ≡ h s) → (h (told s (act_news kind.Spawn old new p value)) ≡ h s) → h (told s (act_news k old new p value)) ≡ h s
act_keeps h s kind.End old new p value ends spawns = ends
act_keeps h s kind.Spawn old new p value ends spawns = spawns
act_keeps h s _ old new p value ends spawns = refl

spawn_keeps : {A : Type 0} (h : Server → A) (s : Server) (old new : Plain) (p : ℕ) (value : List ℕ) → ((n : ℕ) → h (told s (Some (news.started n))) ≡ h s)
    → h (told s (act_news kind.Spawn old new p value)) ≡ h s
spawn_keeps h s old new p value starts = by (nat_lt (length old.running) (length new.running))
  where
    by : (b : Bool) → h (told s (if b then Some (news.started (length new.running)) else None)) ≡ h s
    by true = starts (length new.running)
    by false = refl

-- no console is attached by itself where no flag is set
pub unattached : (s : Server) (p : ℕ) (a : AutoFlag) (is : Bool) → s.flags ≡ [] → attached_by s p a is ≡ s.attached
unattached s p a is none = rw none (by is)
  where
    by : (b : Bool) → (if (b && false) && is_none (console_of p s.attached) then s.attached ++ (p, s.flag_console) ∷ [] else s.attached) ≡ s.attached
    by true = refl
    by false = refl

pub did_table : (plan : Plan) (f : Facts) (p : ℕ) (k : ActKind) (v bytes : List ℕ) → (note plan f (entry.Did p k v bytes)).server.table ≡ f.server.table
did_table plan f p k v bytes =
    act_keeps (λ (s : Server). s.table) f.server k f.plain (plain_with plan f.plain (entry.Did p k v bytes)) p v refl
    (spawn_keeps (λ (s : Server). s.table) f.server f.plain (plain_with plan f.plain (entry.Did p k v bytes)) p v (λ n. refl))

-- what each entry makes
pub table_step : (plan : Plan) (f : Facts) (e : Entry) → Unit {0} → May plan f e → (note plan f e).server.table ≡ table_with f.server.table e
table_step plan f (entry.Trigger p m l s a applied) kept may = trigger_made p m l s a applied f.server.table may.rule.done
table_step plan f (entry.Served c (command.Ib m l) r) kept may = ib_made f.server f.plain f.plain c m l r (short plan f c (command.Ib m l) r refl may.rule.answer)
table_step plan f (entry.Served c x r) kept may = kept_if (λ (s : Server). s.table) (is_accepted r) _ f.server (table_kept f.server c x may.rule.known refl)
table_step plan f (entry.Did p k v bytes) kept may = did_table plan f p k v bytes
table_step plan f (entry.Skip c p) kept may = absurd may.rule
table_step plan f (entry.Signal p r) kept may = absurd may.rule
table_step plan f _ kept may = refl

modules_step : (plan : Plan) (f : Facts) (e : Entry) → Unit {0} → May plan f e → (note plan f e).server.interpreted ≡ modules_with f.server.interpreted e
modules_step plan f (entry.Served c (command.Ii m) r) kept may = ii_made f.server f.plain f.plain c m r (short plan f c (command.Ii m) r refl may.rule.answer)
modules_step plan f (entry.Served c x r) kept may = kept_if (λ (s : Server). s.interpreted) (is_accepted r) _ f.server (modules_kept f.server c x may.rule.known refl)
modules_step plan f (entry.Did p k v bytes) kept may =
    act_keeps (λ (s : Server). s.interpreted) f.server k f.plain (plain_with plan f.plain (entry.Did p k v bytes)) p v refl
    (spawn_keeps (λ (s : Server). s.interpreted) f.server f.plain (plain_with plan f.plain (entry.Did p k v bytes)) p v (λ n. refl))
modules_step plan f (entry.Skip c p) kept may = absurd may.rule
modules_step plan f (entry.Signal p r) kept may = absurd may.rule
modules_step plan f _ kept may = refl

pub attached_step : (plan : Plan) (f : Facts) (e : Entry) → f.server.flags ≡ [] → May plan f e → (note plan f e).server.attached ≡ attached_with f.server.attached e
attached_step plan f (entry.Served c (command.Ia p) r) none may = ia_made f.server f.plain f.plain c p r (short plan f c (command.Ia p) r refl may.rule.answer)
attached_step plan f (entry.Served c x r) none may = kept_if (λ (s : Server). s.attached) (is_accepted r) _ f.server (attached_kept f.server c x may.rule.known refl)
attached_step plan f (entry.Did p k v bytes) none may =
    act_keeps (λ (s : Server). s.attached) f.server k f.plain (plain_with plan f.plain (entry.Did p k v bytes)) p v (unattached f.server p flag.Exit (news.is_so f.server p (λ x. is_some x.first)) none)
    (spawn_keeps (λ (s : Server). s.attached) f.server f.plain (plain_with plan f.plain (entry.Did p k v bytes)) p v (λ n. refl))
attached_step plan f (entry.Enter p m n a) none may = unattached f.server p flag.Init (news.is_so f.server p (λ x. is_none x.first)) none
attached_step plan f (entry.Stop p m l n by) none may = unattached f.server p flag.Break (news.is_so f.server p (λ x. true)) none
attached_step plan f (entry.Skip c p) none may = absurd may.rule
attached_step plan f (entry.Kill c p) none may = absurd may.rule
attached_step plan f (entry.Signal p r) none may = absurd may.rule
attached_step plan f _ none may = refl

-- no command sets a flag yet
flags_step : (plan : Plan) (f : Facts) (e : Entry) → f.server.flags ≡ [] → May plan f e → (note plan f e).server.flags ≡ []
flags_step plan f (entry.Served c x r) none may = kept_if (λ (s : Server). s.flags) (is_accepted r) (called f.server c x) f.server (flags_kept f.server c x may.rule.known) ∙ none
flags_step plan f (entry.Did p k v bytes) none may =
    act_keeps (λ (s : Server). s.flags) f.server k f.plain (plain_with plan f.plain (entry.Did p k v bytes)) p v refl
    (spawn_keeps (λ (s : Server). s.flags) f.server f.plain (plain_with plan f.plain (entry.Did p k v bytes)) p v (λ n. refl))
    ∙ none
flags_step plan f (entry.Signal p r) none may = absurd may.rule
flags_step plan f _ none may = none

pub no_flags : (plan : Plan) (f : Facts) (e : Entry) → f.server.flags ≡ [] → May plan f e → (note plan f e).server.flags ≡ []
no_flags = flags_step

pub table_is : (plan : Plan) (journal : List Entry) → Legal plan journal → (facts plan journal).server.table ≡ table_of journal
table_is plan journal legal =
    folded plan (λ f. f.server.table) table_with (λ f. Unit {0}) (λ f e kept may. tt) (table_step plan) (at_first plan) journal tt legal

pub modules_are : (plan : Plan) (journal : List Entry) → Legal plan journal → (facts plan journal).server.interpreted ≡ modules_of journal
modules_are plan journal legal =
    folded plan (λ f. f.server.interpreted) modules_with (λ f. Unit {0}) (λ f e kept may. tt) (modules_step plan) (at_first plan) journal tt legal

pub attached_are : (plan : Plan) (journal : List Entry) → Legal plan journal → (facts plan journal).server.attached ≡ attached_of journal
attached_are plan journal legal =
    folded plan (λ f. f.server.attached) attached_with (λ f. f.server.flags ≡ []) (no_flags plan) (attached_step plan) (at_first plan) journal refl legal
