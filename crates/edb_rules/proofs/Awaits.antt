-- An await in a legal journal is answered by its status exactly where the entries before it say that status.

use Rattle.std.proofs.Common.{◌≡◌, inl, inr, ℕ, Bool, true, false, if◌then◌else◌, List, Option, None, Some, take, refl, sym, ◌∙◌, ap, subst}
use Rattle.std.specs.List.{slice_get}
use Rattle.std.specs.Prelude.{IfSome}
use Rattle.std.specs.Option.{option_map, option_map_or}
use Rattle.std.proofs.lemmas.Bool.{both_ways}
use Rattle.std.proofs.lemmas.Option.{none-some, same_Some}
use Rattle.edb_event.specs.declared.call.Call.{Call}
use Rattle.edb_event.specs.declared.call.Call.TheVariants as command
use Rattle.edb_event.specs.declared.call.ProcStatus.{ProcStatus}
use Rattle.edb_event.specs.declared.call.ProcStatus.TheVariants as status
use Rattle.edb_event.specs.declared.reply.Reply.{Reply}
use Rattle.edb_event.specs.declared.reply.Reply.TheVariants as reply
use Rattle.edb_event.specs.declared.entry.Entry.{Entry}
use Rattle.edb_event.specs.declared.entry.Entry.TheVariants as entry
use Rattle.edb_rules.specs.Plans.{Plan}
use Rattle.edb_rules.specs.Facts.{Facts}
use Rattle.edb_rules.specs.Seen.{Seen, status_of, same_status}
use Rattle.edb_rules.specs.Server.{seen_at}
use Rattle.edb_rules.specs.Replies.{is_enabled}
use Rattle.edb_rules.specs.Notes.{facts}
use Rattle.edb_rules.specs.Legal.{IsAnswer, IsQuiet, Legal}
use Rattle.edb_rules.specs.Statuses.{status_by}
use Rattle.edb_rules.proofs.Entries.{may_at, legal_take}
use Rattle.edb_rules.proofs.Standings.{status_is}

same_is : (s t : ProcStatus) → same_status s t ≡ true → s ≡ t
same_is status.Idle status.Idle e = refl
same_is status.Running status.Running e = refl
same_is status.Waiting status.Waiting e = refl
same_is status.Break status.Break e = refl
same_is status.Exit status.Exit e = refl
same_is _ _ e = absurd (both_ways false refl e)

same_self : (t : ProcStatus) → same_status t t ≡ true
same_self status.Idle = refl
same_self status.Running = refl
same_self status.Waiting = refl
same_self status.Break = refl
same_self status.Exit = refl

has_shown : (o : Option Seen) (t : ProcStatus) → option_map status_of o ≡ Some t → option_map_or (λ (x : Seen). same_status (status_of x) t) o false ≡ true
has_shown None t is = absurd (none-some t is)
has_shown (Some x) t is = ap (λ (s : ProcStatus). same_status s t) (same_Some (status_of x) t is) ∙ same_self t

shown_has : (o : Option Seen) (t : ProcStatus) → option_map_or (λ (x : Seen). same_status (status_of x) t) o false ≡ true → option_map status_of o ≡ Some t
shown_has None t has = absurd (both_ways false refl has)
shown_has (Some x) t has = ap (λ (s : ProcStatus). Some s) (same_is (status_of x) t has)

-- an await is enabled exactly where the entries say its status
pub enabled_is : (plan : Plan) (journal : List Entry) (p : ℕ) (t : ProcStatus) → Legal plan journal → status_by p journal ≡ Some t → is_enabled (facts plan journal) (command.Await p t) ≡ true
enabled_is plan journal p t legal says = has_shown (seen_at (facts plan journal).server p) t (status_is plan journal p legal ∙ says)

pub waiting_is : (plan : Plan) (journal : List Entry) (p : ℕ) (t : ProcStatus) → Legal plan journal → (status_by p journal ≡ Some t → ⊥) → is_enabled (facts plan journal) (command.Await p t) ≡ false
waiting_is plan journal p t legal other = by (is_enabled (facts plan journal) (command.Await p t)) refl
  where
    by : (b : Bool) → is_enabled (facts plan journal) (command.Await p t) ≡ b → is_enabled (facts plan journal) (command.Await p t) ≡ false
    by false is = is
    by true is = absurd (other (sym (status_is plan journal p legal) ∙ shown_has (seen_at (facts plan journal).server p) t is))

-- where an await is answered `quiet` it isn't enabled
pub quiet_waits : (plan : Plan) (f : Facts) (c : ℕ) (x : Call) (r : Reply) → IsQuiet plan f c x r → is_enabled f x ≡ false
quiet_waits plan f c x r q = subst (λ (o : Option Call). IfSome o (λ y. is_enabled f y ≡ false)) q.call (q.at.at.at.at.no_command c q.console)

met_by : (plan : Plan) (f : Facts) (c p : ℕ) (t : ProcStatus) (r : Reply) → is_enabled f (command.Await p t) ≡ true → IsAnswer plan f c (command.Await p t) r → r ≡ reply.Status p t
met_by plan f c p t r has (inl a) = a.same ∙ ap (λ (b : Bool). if b then reply.Status p t else reply.Quiet) has
met_by plan f c p t r has (inr q) = absurd (both_ways _ (quiet_waits plan f c (command.Await p t) r q) has)

unmet_by : (plan : Plan) (f : Facts) (c p : ℕ) (t : ProcStatus) (r : Reply) → is_enabled f (command.Await p t) ≡ false → IsAnswer plan f c (command.Await p t) r → r ≡ reply.Quiet
unmet_by plan f c p t r none (inl a) = absurd (both_ways _ none a.enabled)
unmet_by plan f c p t r none (inr q) = q.same

pub await_met : (plan : Plan) (journal : List Entry) (k c p : ℕ) (t : ProcStatus) (r : Reply) → Legal plan journal → slice_get journal k ≡ Some (entry.Served c (command.Await p t) r)
    → status_by p (take k journal) ≡ Some t → r ≡ reply.Status p t
await_met plan journal k c p t r legal at says =
    met_by plan (facts plan (take k journal)) c p t r (enabled_is plan (take k journal) p t (legal_take plan journal k legal) says)
    (may_at plan journal k (entry.Served c (command.Await p t) r) legal at).rule.answer

pub await_unmet : (plan : Plan) (journal : List Entry) (k c p : ℕ) (t : ProcStatus) (r : Reply) → Legal plan journal → slice_get journal k ≡ Some (entry.Served c (command.Await p t) r)
    → (status_by p (take k journal) ≡ Some t → ⊥) → r ≡ reply.Quiet
await_unmet plan journal k c p t r legal at other =
    unmet_by plan (facts plan (take k journal)) c p t r (waiting_is plan (take k journal) p t (legal_take plan journal k legal) other)
    (may_at plan journal k (entry.Served c (command.Await p t) r) legal at).rule.answer
