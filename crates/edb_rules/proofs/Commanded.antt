-- The commands of each console come once and in order, and the least console that can be answered is.

use Rattle.std.proofs.Common.{◌≡◌, inl, inr, ℕ, zero, suc, ◌+◌, ◌<◌, ◌≤◌, Bool, true, false, if◌then◌else◌, cond, nat_eq, List, [], ◌∷◌, length, Option, None, Some, take, replicate, slice_index_or, refl, sym, ◌∙◌, ap, subst, arith}
use Rattle.std.specs.List.{slice_get, fold}
use Rattle.std.specs.Option.{option_map}
use Rattle.std.specs.Prelude.{IfSome}
use Rattle.std.proofs.lemmas.Bool.{eqb-true}
use Rattle.std.proofs.lemmas.Option.{none-some, same_Some, some_pair_parts, slice_get_within}
use Rattle.edb_model.specs.Procs.{numbered}
use Rattle.edb_event.specs.declared.call.Command.{Command}
use Rattle.edb_event.specs.declared.call.Call.{Call}
use Rattle.edb_event.specs.declared.call.Call.TheVariants as command
use Rattle.edb_event.specs.declared.reply.Reply.{Reply}
use Rattle.edb_event.specs.declared.reply.Reply.TheVariants as reply
use Rattle.edb_event.specs.declared.entry.Entry.{Entry}
use Rattle.edb_event.specs.declared.entry.Entry.TheVariants as entry
use Rattle.edb_event.specs.Books.{commands_of}
use Rattle.edb_event.specs.Ranges.{IsConsole}
use Rattle.edb_rules.specs.Plans.{Plan}
use Rattle.edb_rules.specs.Facts.{Console, Facts, at_first, new_console, console_at}
use Rattle.edb_rules.specs.Consoles.{command_of, console_with, consoles_by}
use Rattle.edb_rules.specs.Commands.{is_of, is_command_of, commands_in, IsCommandAt}
use Rattle.edb_rules.specs.Replies.{next_call, resolved, is_enabled}
use Rattle.edb_rules.specs.Ranks.{IsWaiting}
use Rattle.edb_rules.specs.Notes.{note, after, facts}
use Rattle.edb_rules.specs.Legal.{IsAnswer, IsThrough, May, Legal}
use Rattle.edb_rules.proofs.Entries.{kept_from, may_at, legal_take}
use Rattle.edb_rules.proofs.Between.{folded}
use Rattle.edb_rules.proofs.Kept.{with_length}
use Rattle.edb_rules.proofs.Present.{IsPresent, with_exact}

-- there are always eight consoles
by_length : (ks : List Console) (e : Entry) (o : Option (ℕ × Call)) → length (consoles_by ks e o) ≡ length ks
by_length ks e None = refl
by_length ks e (Some x) = with_length ks x.0 _

length_from : (plan : Plan) (f : Facts) (es : List Entry) → length (after plan f es).consoles ≡ length f.consoles
length_from plan f [] = refl
length_from plan f (e ∷ es) = length_from plan (note plan f e) es ∙ by_length f.consoles e (command_of e)

pub eight : (plan : Plan) (journal : List Entry) → length (facts plan journal).consoles ≡ 8
eight plan journal = length_from plan (at_first plan) journal

-- One command more is counted for the console that it is of.
one_more : (e : Entry) (k : Console) → (console_with e k).served ≡ k.served + 1
one_more (entry.Start c p m n args) k = refl
one_more (entry.Served c x (reply.Status p s)) k = refl
one_more (entry.Served c x reply.Ok) k = refl
one_more (entry.Served c x (reply.Refused r)) k = refl
one_more (entry.Served c x reply.Quiet) k = refl
one_more (entry.Served c x (reply.Rows rs)) k = refl
one_more _ k = refl

plus_if : (b : Bool) (x k : Console) → (b ≡ true → x.served ≡ k.served + 1) → (if b then x else k).served ≡ k.served + cond b 1 0
plus_if true x k is = is refl
plus_if false x k is = omega arith

counts_by : (ks : List Console) (e : Entry) (c : ℕ) (o : Option (ℕ × Call)) → ((x : ℕ × Call) → o ≡ Some x → IsPresent (length ks) x.0)
    → (numbered new_console (consoles_by ks e o) c).served ≡ (numbered new_console ks c).served + cond (is_of c o) 1 0
counts_by ks e c None here = omega arith
counts_by ks e c (Some x) here =
    ap (λ (y : Console). y.served) (with_exact new_console ks x.0 (console_with e (numbered new_console ks x.0)) c (here x refl))
    ∙ plus_if (nat_eq x.0 c) (console_with e (numbered new_console ks x.0)) (numbered new_console ks c)
    (λ same. one_more e (numbered new_console ks x.0) ∙ ap (λ (n : ℕ). (numbered new_console ks n).served + 1) (eqb-true x.0 c same))

-- the command that an entry answers is its console's next one
pub record Answers (plan : Plan) (f : Facts) (c : ℕ) (x : Call) : Type 0 where
  pub console : IsConsole c
  pub call : next_call plan f c ≡ Some x

served_answers : (plan : Plan) (f : Facts) (c : ℕ) (x : Call) (r : Reply) → IsAnswer plan f c x r → Answers plan f c x
served_answers plan f c x r (inl a) = record { console = a.next.console; call = a.next.call }
served_answers plan f c x r (inr q) = record { console = q.console; call = q.call }

moved_to : (plan : Plan) (f : Facts) (d c : ℕ) (y x : Call) → ◌≡◌ {A = Option (ℕ × Call)} (Some (d, y)) (Some (c, x)) → Answers plan f d y → Answers plan f c x
moved_to plan f d c y x is a =
    let parts = some_pair_parts d c y x is in
    record {
      console = subst IsConsole parts.0 a.console;
      call = ap (next_call plan f) (sym parts.0) ∙ (a.call ∙ ap (λ (z : Call). Some z) parts.1);
    }

pub next_command : (plan : Plan) (f : Facts) (e : Entry) (c : ℕ) (x : Call) → May plan f e → command_of e ≡ Some (c, x) → Answers plan f c x
next_command plan f (entry.Start d p m n args) c x may is =
    moved_to plan f d c (command.Start m n args) x is (record { console = may.rule.next.console; call = may.rule.next.call })
next_command plan f (entry.Load d m v) c x may is =
    moved_to plan f d c (command.Load m v) x is (record { console = may.rule.next.console; call = may.rule.next.call })
next_command plan f (entry.Skip con who) c x may is = absurd may.rule
next_command plan f (entry.Kill con who) c x may is = absurd may.rule
next_command plan f (entry.Expire con who) c x may is = absurd may.rule
next_command plan f (entry.Served d y r) c x may is = moved_to plan f d c y x is (served_answers plan f d y r may.rule.answer)
next_command plan f _ c x may is = absurd (none-some (c, x) is)

pub in_order : (plan : Plan) (journal : List Entry) (k : ℕ) (e : Entry) (c : ℕ) (x : Call) → Legal plan journal → slice_get journal k ≡ Some e
    → command_of e ≡ Some (c, x) → IsConsole c × (next_call plan (facts plan (take k journal)) c ≡ Some x)
in_order plan journal k e c x legal at is =
    let a = next_command plan (facts plan (take k journal)) e c x (may_at plan journal k e legal at) is in (a.console, a.call)

-- How many of its commands were answered is how many entries answer one.
pub console_within : (n c : ℕ) → n ≡ 8 → IsConsole c → IsPresent n c
console_within n c eight_ console = (console.0, let most = console.1 in omega arith)

served_step : (plan : Plan) (f : Facts) (e : Entry) (c : ℕ) → length f.consoles ≡ 8 → May plan f e
    → (console_at (note plan f e) c).served ≡ (console_at f c).served + cond (is_command_of c e) 1 0
served_step plan f e c eight_ may =
    counts_by f.consoles e c (command_of e) (λ x is. console_within (length f.consoles) x.0 eight_ (next_command plan f e x.0 x.1 may is).console)

pub record IsEight (f : Facts) : Type 0 where
  pub eight : length f.consoles ≡ 8

pub eight_step : (plan : Plan) (f : Facts) (e : Entry) → IsEight f → May plan f e → IsEight (note plan f e)
eight_step plan f e here may = record { eight = by_length f.consoles e (command_of e) ∙ here.eight }

first_served : (plan : Plan) (c : ℕ) → (console_at (at_first plan) c).served ≡ 0
first_served plan c = replicated 8 c
  where
    at : (n m : ℕ) → (slice_index_or (replicate n new_console) m new_console).served ≡ 0
    at zero m = refl
    at (suc n) zero = refl
    at (suc n) (suc m) = at n m

    replicated : (n c : ℕ) → (numbered new_console (replicate n new_console) c).served ≡ 0
    replicated n zero = refl
    replicated n (suc m) = at n m

pub served_is : (plan : Plan) (journal : List Entry) (c : ℕ) → Legal plan journal → (console_at (facts plan journal) c).served ≡ commands_in c journal
served_is plan journal c legal =
    folded plan (λ f. (console_at f c).served) (λ n e. n + cond (is_command_of c e) 1 0) IsEight
    (eight_step plan) (λ f e here may. served_step plan f e c here.eight may)
    (at_first plan) journal (record { eight = refl }) legal
    ∙ ap (λ (n : ℕ). fold (λ (m : ℕ) (e : Entry). m + cond (is_command_of c e) 1 0) n journal) (first_served plan c)

-- the next command stands at the place of as many as were answered
pub next_stands : (plan : Plan) (f : Facts) (c : ℕ) (x : Call) → next_call plan f c ≡ Some x → IsCommandAt plan f c (console_at f c).served x
next_stands plan f c x e = by (slice_get (commands_of c plan.commands) (console_at f c).served) refl e
  where
    by : (o : Option Command) → slice_get (commands_of c plan.commands) (console_at f c).served ≡ o → option_map (resolved f c) o ≡ Some x → IsCommandAt plan f c (console_at f c).served x
    by None is at = absurd (none-some x at)
    by (Some a) is at = record { command = a; stands = is; same = same_Some (resolved f c a) x at }

pub at_place : (plan : Plan) (journal : List Entry) (k : ℕ) (e : Entry) (c : ℕ) (x : Call) → Legal plan journal → slice_get journal k ≡ Some e
    → command_of e ≡ Some (c, x) → IsCommandAt plan (facts plan (take k journal)) c (commands_in c (take k journal)) x
at_place plan journal k e c x legal at is =
    subst (λ (n : ℕ). IsCommandAt plan (facts plan (take k journal)) c n x) (served_is plan (take k journal) c (legal_take plan journal k legal))
    (next_stands plan (facts plan (take k journal)) c x (in_order plan journal k e c x legal at is).1)

-- no more commands of a console are answered than it has
record IsFew (plan : Plan) (f : Facts) : Type 0 where
  pub eight : length f.consoles ≡ 8
  pub few : (c : ℕ) → IsConsole c → (console_at f c).served ≤ length (commands_of c plan.commands)

few_one : (plan : Plan) (f : Facts) (e : Entry) (c : ℕ) (o : Option (ℕ × Call)) → command_of e ≡ o → IsFew plan f → IsConsole c → May plan f e
    → (console_at f c).served + cond (is_of c o) 1 0 ≤ length (commands_of c plan.commands)
few_one plan f e c None is few console may = let was = few.few c console in omega arith
few_one plan f e c (Some y) is few console may = by (nat_eq y.0 c) refl
  where
    by : (b : Bool) → nat_eq y.0 c ≡ b → (console_at f c).served + cond b 1 0 ≤ length (commands_of c plan.commands)
    by true same =
        let a = next_command plan f e y.0 y.1 may is in
        let at = next_stands plan f c y.1 (ap (next_call plan f) (sym (eqb-true y.0 c same)) ∙ a.call) in
        let less = slice_get_within (commands_of c plan.commands) (console_at f c).served at.command at.stands in
        omega arith
    by false same = let was = few.few c console in omega arith

few_step : (plan : Plan) (f : Facts) (e : Entry) → IsFew plan f → May plan f e → IsFew plan (note plan f e)
few_step plan f e few may = record {
  eight = by_length f.consoles e (command_of e) ∙ few.eight;
  few = λ c console. subst (λ (n : ℕ). n ≤ length (commands_of c plan.commands)) (sym (served_step plan f e c few.eight may)) (few_one plan f e c (command_of e) refl few console may);
}

pub few_served : (plan : Plan) (journal : List Entry) (c : ℕ) → Legal plan journal → IsConsole c → (console_at (facts plan journal) c).served ≤ length (commands_of c plan.commands)
few_served plan journal c legal console =
    (kept_from plan (IsFew plan) (few_step plan) (at_first plan) journal
    (record { eight = refl; few = λ d console. (let none = first_served plan d in omega arith) }) legal).few c console

-- once none is left all were answered
past : {A : Type 0} (xs : List A) (k : ℕ) → slice_get xs k ≡ None → length xs ≤ k
past [] k e = omega arith
past (x ∷ xs) zero e = absurd (none-some x (sym e))
past (x ∷ xs) (suc k) e = let rest = past xs k e in omega arith

pub none_left : (plan : Plan) (f : Facts) (c : ℕ) → next_call plan f c ≡ None → length (commands_of c plan.commands) ≤ (console_at f c).served
none_left plan f c e = past (commands_of c plan.commands) (console_at f c).served (by (slice_get (commands_of c plan.commands) (console_at f c).served) refl e)
  where
    by : (o : Option Command) → slice_get (commands_of c plan.commands) (console_at f c).served ≡ o → option_map (resolved f c) o ≡ None
        → slice_get (commands_of c plan.commands) (console_at f c).served ≡ None
    by None is at = is
    by (Some a) is at = absurd (none-some (resolved f c a) (sym at))

pub all_served : (plan : Plan) (journal : List Entry) (c : ℕ) → Legal plan journal → IsThrough plan (facts plan journal) → IsConsole c
    → (console_at (facts plan journal) c).served ≡ length (commands_of c plan.commands)
all_served plan journal c legal through console =
    let few = few_served plan journal c legal console in
    let all = none_left plan (facts plan journal) c (through.through c console) in
    omega arith

-- each lesser console waits, or has no command left
least : (plan : Plan) (f : Facts) (e : Entry) (c : ℕ) (x : Call) → May plan f e → command_of e ≡ Some (c, x) → (d : ℕ) → 1 ≤ d → d < c → IsWaiting plan f d
least plan f (entry.Start b p m n args) c x may is d low less =
    may.rule.next.first d low (subst (λ (n : ℕ). d < n) (sym (some_pair_parts b c (command.Start m n args) x is).0) less)
least plan f (entry.Load b m v) c x may is d low less =
    may.rule.next.first d low (subst (λ (n : ℕ). d < n) (sym (some_pair_parts b c (command.Load m v) x is).0) less)
least plan f (entry.Skip con who) c x may is d low less = absurd may.rule
least plan f (entry.Kill con who) c x may is d low less = absurd may.rule
least plan f (entry.Expire con who) c x may is d low less = absurd may.rule
least plan f (entry.Served b y r) c x may is d low less = by may.rule.answer
  where
    under : d < b
    under = subst (λ (n : ℕ). d < n) (sym (some_pair_parts b c y x is).0) less

    by : IsAnswer plan f b y r → IsWaiting plan f d
    by (inl a) = a.next.first d low under
    by (inr q) = subst (λ (o : Option Call). IfSome o (λ z. is_enabled f z ≡ false)) (sym (q.first d low under)) tt
least plan f _ c x may is d low less = absurd (none-some (c, x) is)

pub least_console : (plan : Plan) (journal : List Entry) (k : ℕ) (e : Entry) (c : ℕ) (x : Call) → Legal plan journal → slice_get journal k ≡ Some e
    → command_of e ≡ Some (c, x) → (d : ℕ) → 1 ≤ d → d < c → IsWaiting plan (facts plan (take k journal)) d
least_console plan journal k e c x legal at is = least plan (facts plan (take k journal)) e c x (may_at plan journal k e legal at) is

-- a command's answer is the one that one thread would give
pub reply_is : (plan : Plan) (journal : List Entry) (k c : ℕ) (x : Call) (r : Reply) → Legal plan journal → slice_get journal k ≡ Some (entry.Served c x r)
    → IsAnswer plan (facts plan (take k journal)) c x r
reply_is plan journal k c x r legal at = (may_at plan journal k (entry.Served c x r) legal at).rule.answer
