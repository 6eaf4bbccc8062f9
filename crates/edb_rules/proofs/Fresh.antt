-- A process that stops in a legal journal doesn't stand where it stopped before, no lease of it is out, and its Stop is the
-- last entry of its slice's end.

use Rattle.std.proofs.Common.{◌≡◌, ◌⊎◌, inl, inr, ℕ, zero, suc, Bool, true, false, if◌then◌else◌, not, ◌&&◌, nat_eq, List, [], ◌∷◌, Option, None, Some, take, refl, sym, ◌∙◌, ap, subst}
use Rattle.std.specs.List.{slice_get}
use Rattle.std.specs.Option.{option_and_then}
use Rattle.std.proofs.lemmas.Bool.{both_ways, and_parts, eq-eqb}
use Rattle.std.proofs.lemmas.Option.{none-some, same_Some, option_and_then_some}
use Rattle.edb_lang.specs.declared.small.Break.{Break}
use Rattle.edb_lang.specs.declared.act.ActKind.{ActKind}
use Rattle.edb_lang.specs.declared.act.ActKind.TheVariants as kind
use Rattle.edb_lang.specs.Syntax.{ModuleTree}
use Rattle.edb_model.specs.Running.{Run}
use Rattle.edb_event.specs.declared.entry.Cause.{Cause}
use Rattle.edb_event.specs.declared.entry.Entry.{Entry}
use Rattle.edb_event.specs.declared.entry.Entry.TheVariants as entry
use Rattle.edb_rules.specs.Plans.{Plan}
use Rattle.edb_rules.specs.Facts.{Handout, Debuggee, Facts, at_first, debuggee_at}
use Rattle.edb_rules.specs.Server.{is_among}
use Rattle.edb_rules.specs.Slices.{after_moves, is_stop_point, is_ordered, row_tried, active_among, asked_of, Why, ordered, broken, due, SliceEnd, leaves, act_next, enters, stops, spent}
use Rattle.edb_rules.specs.SliceEnds.{end_entries, coming_after}
use Rattle.edb_rules.specs.Orders.{order_of, with_order}
use Rattle.edb_rules.specs.Notes.{process_in, debuggee_with, acted_debuggee, behind_first, note, facts}
use Rattle.edb_rules.specs.Legal.{May, Legal}
use Rattle.edb_rules.proofs.Entries.{may_at, kept_at}
use Rattle.edb_rules.proofs.Changes.{each, order_keeps}
use Rattle.edb_rules.proofs.Present.{Holds, holds_step, first_holds, lives_known, coming_is, exact}
use Rattle.edb_rules.proofs.Endings.{EndMeans, end_means}

-- WHERE A BEGINNING IS DUE: it may stop the process, and it is ordered or an active breakpoint is there.
pub record DueMeans (code : List ModuleTree) (h : Handout) (p i : ℕ) (t : Run) (m : List ℕ) (l : ℕ) (why : Why) : Type 0 where
  pub point : is_stop_point h i m ≡ true
  pub cause : ((why ≡ ordered) × (is_ordered h t ≡ true)) ⊎ ((b : Break) × ((why ≡ broken b) × (active_among m l h.rows ≡ Some b)) × (is_ordered h t ≡ false))

tried_if : (c : Bool) (o : Option Break) (b : Break) → (if c then o else None) ≡ Some b → (c ≡ true) × (o ≡ Some b)
tried_if true o b e = (refl, e)
tried_if false o b e = absurd (none-some b e)

holds_if : (c : Bool) (b : Break) (why : Why) → (if c then Some (broken b) else None) ≡ Some why → why ≡ broken b
holds_if true b why e = sym (same_Some (broken b) why e)
holds_if false b why e = absurd (none-some why e)

not_true : (b : Bool) → not b ≡ true → b ≡ false
not_true true e = absurd (both_ways false refl e)
not_true false e = refl

pub due_means : (code : List ModuleTree) (h : Handout) (p i : ℕ) (t : Run) (m : List ℕ) (l : ℕ) (why : Why) → due code h p i t m l ≡ Some why → DueMeans code h p i t m l why
due_means code h p i t m l why e = by (is_stop_point h i m && is_ordered h t) refl e
  where
    rest : Option Why
    rest = option_and_then (λ (b : Break). if (asked_of code h p t b).holds then Some (broken b) else None) (row_tried h i t m l)

    by : (c : Bool) → is_stop_point h i m && is_ordered h t ≡ c → (if c then Some ordered else rest) ≡ Some why → DueMeans code h p i t m l why
    by true is e =
        let both = and_parts (is_stop_point h i m) (is_ordered h t) is in
        record { point = both.0; cause = inl (sym (same_Some ordered why e), both.1) }
    by false is e =
        option_and_then_some _ _ _ e (λ b tried holds.
        let parts = tried_if (is_stop_point h i m && not (is_ordered h t)) (active_among m l h.rows) b tried in
        let both = and_parts (is_stop_point h i m) (not (is_ordered h t)) parts.0 in
        record { point = both.0; cause = inr (b, (holds_if (asked_of code h p t b).holds b why holds, parts.1), not_true (is_ordered h t) both.1) })

-- so its module is interpreted by what was taken in, and the process wasn't resumed at this very point
pub point_means : (h : Handout) (i : ℕ) (m : List ℕ) → is_stop_point h i m ≡ true → (is_among m h.modules ≡ true) × ((h.is_resumed && nat_eq i 0) ≡ false)
point_means h i m e = let both = and_parts (is_among m h.modules) (not (h.is_resumed && nat_eq i 0)) e in (both.0, not_true (h.is_resumed && nat_eq i 0) both.1)

-- While a lease is out, whether its process was resumed is what was handed out.
abbrev Seen : Type 0
Seen = Bool × (Bool × Bool)

abbrev seen : Debuggee → Seen
seen d = (d.is_out, (d.handout.is_resumed, d.is_resumed))

abbrev IsSeen : Seen → Type 0
IsSeen s = s.0 ≡ true → s.1.0 ≡ s.1.1

abbrev pub IsTold : Debuggee → Type 0
IsTold d = IsSeen (seen d)

-- what is known of a process that is to stop
abbrev IsFresh : Facts → Entry → List Entry → Type 0
IsFresh f (entry.Stop p m l n by) es = (es ≡ []) × ((debuggee_at f p).is_out ≡ false) × ((debuggee_at f p).is_resumed ≡ false)
IsFresh f _ es = Unit {0}

abbrev AreFresh : Facts → List Entry → Type 0
AreFresh f [] = Unit {0}
AreFresh f (e ∷ es) = IsFresh f e es × AreFresh f es

pub record Keeps (f : Facts) : Type 0 where
  pub holds : Holds f
  pub told : (q : ℕ) → IsTold (debuggee_at f q)
  pub fresh : AreFresh f f.coming

same_seen : (d e : Debuggee) → seen e ≡ seen d → IsTold d → IsTold e
same_seen d e same told = subst IsSeen (sym same) told

abbrev pub IsStop : Entry → Type 0
IsStop (entry.Stop p m l n by) = Unit {0}
IsStop _ = ⊥

act_told : (k : ActKind) (d : Debuggee) → IsTold d → IsTold (acted_debuggee k d)
act_told kind.End d told = λ out. absurd (both_ways false refl out)
act_told kind.Wait d told = told
act_told _ d told = told

told_with : (plan : Plan) (f : Facts) (e : Entry) (d : Debuggee) → May plan f e → (IsStop e → d.is_out ≡ false) → IsTold d → IsTold (debuggee_with f e d)
told_with plan f (entry.Start c p m n args) d may free told = told
told_with plan f (entry.Load c m v) d may free told = told
told_with plan f (entry.Skip c p) d may free told = absurd may.rule
told_with plan f (entry.Kill c p) d may free told = absurd may.rule
told_with plan f (entry.Expire c p) d may free told = absurd may.rule
told_with plan f (entry.Lease p b) d may free told = λ out. refl
told_with plan f (entry.Ran p n c) d may free told = λ out. absurd (both_ways false refl out)
told_with plan f (entry.Ask p k) d may free told = absurd may.rule
told_with plan f (entry.Did p k v bytes) d may free told = act_told k d told
told_with plan f (entry.Took p) d may free told = absurd may.rule
told_with plan f (entry.Forward p) d may free told = absurd may.rule
told_with plan f (entry.Leave p) d may free told = told
told_with plan f (entry.Enter p m n a) d may free told = told
told_with plan f (entry.Signal p r) d may free told = absurd may.rule
told_with plan f (entry.Advance t) d may free told = told
told_with plan f (entry.Stop p m l n by) d may free told = λ out. absurd (both_ways d.is_out (free tt) out)
told_with plan f (entry.Trigger p m l s a applied) d may free told = told
told_with plan f (entry.Served c x r) d may free told = same_seen d (with_order (order_of f.plain x) d) (order_keeps seen (λ e m. refl) (λ e m. refl) (order_of f.plain x) d) told

first_fresh : (f : Facts) (e : Entry) (rest : List Entry) → f.coming ≡ e ∷ rest → AreFresh f f.coming → IsFresh f e rest
first_fresh f e rest is d = let there : AreFresh f (e ∷ rest) = subst (λ (es : List Entry). AreFresh f es) is d in there.0

pub stop_free : (plan : Plan) (f : Facts) (e : Entry) → Keeps f → May plan f e → IsStop e → (debuggee_at f (process_in e)).is_out ≡ false
stop_free plan f (entry.Stop p m l n by) keeps may is = (first_fresh f (entry.Stop p m l n by) may.rule.0 may.rule.1 keeps.fresh).1
stop_free plan f _ keeps may is = absurd is

told_step : (plan : Plan) (f : Facts) (e : Entry) → Keeps f → May plan f e → (q : ℕ) → IsTold (debuggee_at (note plan f e) q)
told_step plan f e keeps may q =
    each (λ (d x : Debuggee). IsTold d → IsTold x) (λ d told. told) (λ d told. told) plan f e q
    (λ same. told_with plan f e (debuggee_at f q) may (λ stop. subst (λ (n : ℕ). (debuggee_at f n).is_out ≡ false) same (stop_free plan f e keeps may stop))) (keeps.told q)

-- an entry that ends a slice without a stop changes neither
abbrev IsCome : Entry → Type 0
IsCome (entry.Enter p m n a) = Unit {0}
IsCome (entry.Leave p) = Unit {0}
IsCome _ = ⊥

come_out : (f : Facts) (e : Entry) (d : Debuggee) → IsCome e → (debuggee_with f e d).is_out ≡ d.is_out
come_out f (entry.Enter p m n a) d come = refl
come_out f (entry.Leave p) d come = refl
come_out f _ d come = absurd come

come_resumed : (f : Facts) (e : Entry) (d : Debuggee) → IsCome e → (debuggee_with f e d).is_resumed ≡ d.is_resumed
come_resumed f (entry.Enter p m n a) d come = refl
come_resumed f (entry.Leave p) d come = refl
come_resumed f _ d come = absurd come

-- what is to come stays fresh while its processes neither are leased, run nor stop
one_kept : (f g : Facts) (e : Entry) (es : List Entry) → ((q : ℕ) → (debuggee_at g q).is_out ≡ (debuggee_at f q).is_out) → ((q : ℕ) → (debuggee_at g q).is_resumed ≡ (debuggee_at f q).is_resumed)
    → IsFresh f e es → IsFresh g e es
one_kept f g (entry.Stop p m l n by) es out resumed d = (d.0, out p ∙ d.1, resumed p ∙ d.2)
one_kept f g _ es out resumed d = tt

all_kept : (f g : Facts) (es : List Entry) → ((q : ℕ) → (debuggee_at g q).is_out ≡ (debuggee_at f q).is_out) → ((q : ℕ) → (debuggee_at g q).is_resumed ≡ (debuggee_at f q).is_resumed)
    → AreFresh f es → AreFresh g es
all_kept f g [] out resumed d = tt
all_kept f g (e ∷ es) out resumed d = (one_kept f g e es out resumed d.0, all_kept f g es out resumed d.1)

rest_fresh : (f g : Facts) (es : List Entry) → ((q : ℕ) → (debuggee_at g q).is_out ≡ (debuggee_at f q).is_out) → ((q : ℕ) → (debuggee_at g q).is_resumed ≡ (debuggee_at f q).is_resumed)
    → AreFresh f es → AreFresh g (behind_first es)
rest_fresh f g [] out resumed d = tt
rest_fresh f g (e ∷ es) out resumed d = all_kept f g es out resumed d.1

none_fresh : (g : Facts) (es : List Entry) → es ≡ [] → AreFresh g es
none_fresh g es none = subst (λ (xs : List Entry). AreFresh g xs) (sym none) tt

ends_fresh : (code : List ModuleTree) (h : Handout) (g : Facts) (p i : ℕ) (t : Run) (end : SliceEnd) → EndMeans code h p i t (Some end) → (debuggee_at g p).is_out ≡ false
    → ((h.is_resumed && nat_eq i 0) ≡ false → (debuggee_at g p).is_resumed ≡ false) → AreFresh g (end_entries p t end)
ends_fresh code h g p i t leaves d out moved = (tt, tt)
ends_fresh code h g p i t act_next d out moved = tt
ends_fresh code h g p i t (enters None) d out moved = (tt, tt)
ends_fresh code h g p i t (enters (Some why)) d out moved =
    (tt, ((refl, out, moved (point_means h i _ (due_means code h p i t _ _ why d.due).point).1), tt))
ends_fresh code h g p i t (stops why) d out moved = ((refl, out, moved (point_means h i _ (due_means code h p i t _ _ why d.due).point).1), tt)
ends_fresh code h g p i t spent d out moved = tt

-- behind a slice its process is as the slice leaves it
pub ran_exact : (plan : Plan) (f : Facts) (p n c : ℕ) → Holds f → May plan f (entry.Ran p n c)
    → debuggee_at (note plan f (entry.Ran p n c)) p ≡ record (debuggee_at f p) { is_out = false; is_resumed = (debuggee_at f p).is_resumed && nat_eq n 0 }
ran_exact plan f p n c holds may =
    let here = lives_known f p may.rule.running holds.agree may.rule.lives in
    let same : nat_eq p p ≡ true = eq-eqb p p refl in
    exact plan f (entry.Ran p n c) p may here
    ∙ ap (λ (b : Bool). if b then debuggee_with f (entry.Ran p n c) (debuggee_at f p) else debuggee_at f p) same

ran_fresh : (plan : Plan) (f : Facts) (p n c : ℕ) → Keeps f → May plan f (entry.Ran p n c) → AreFresh (note plan f (entry.Ran p n c)) (coming_after plan f p n)
ran_fresh plan f p n c keeps may =
    let rule = may.rule in
    let g = note plan f (entry.Ran p n c) in
    let h = (debuggee_at f p).handout in
    let is = ran_exact plan f p n c keeps.holds may in
    subst (AreFresh g) (sym (coming_is plan f p n rule.running rule.end rule.lives rule.slice.ends))
    (ends_fresh plan.code h g p n (after_moves plan.code h.versions n rule.running) rule.end (end_means plan.code h p rule.running n rule.end rule.slice.ends)
    (ap (λ (d : Debuggee). d.is_out) is)
    (λ moved. ap (λ (d : Debuggee). d.is_resumed) is ∙ (ap (λ (b : Bool). b && nat_eq n 0) (sym (keeps.told p rule.out)) ∙ moved)))

still_out : (plan : Plan) (f : Facts) (e : Entry) → IsCome e → (q : ℕ) → (debuggee_at (note plan f e) q).is_out ≡ (debuggee_at f q).is_out
still_out plan f e come q = sym (each (λ (d x : Debuggee). d.is_out ≡ x.is_out) (λ d. refl) (λ d. refl) plan f e q (λ same. sym (come_out f e (debuggee_at f q) come)))

still_resumed : (plan : Plan) (f : Facts) (e : Entry) → IsCome e → (q : ℕ) → (debuggee_at (note plan f e) q).is_resumed ≡ (debuggee_at f q).is_resumed
still_resumed plan f e come q = sym (each (λ (d x : Debuggee). d.is_resumed ≡ x.is_resumed) (λ d. refl) (λ d. refl) plan f e q (λ same. sym (come_resumed f e (debuggee_at f q) come)))

fresh_step : (plan : Plan) (f : Facts) (e : Entry) → Keeps f → May plan f e → AreFresh (note plan f e) (note plan f e).coming
fresh_step plan f (entry.Ran p n c) keeps may = ran_fresh plan f p n c keeps may
fresh_step plan f (entry.Leave p) keeps may =
    rest_fresh f (note plan f (entry.Leave p)) f.coming (still_out plan f (entry.Leave p) tt) (still_resumed plan f (entry.Leave p) tt) keeps.fresh
fresh_step plan f (entry.Enter p m n a) keeps may =
    rest_fresh f (note plan f (entry.Enter p m n a)) f.coming (still_out plan f (entry.Enter p m n a) tt) (still_resumed plan f (entry.Enter p m n a) tt) keeps.fresh
fresh_step plan f (entry.Stop p m l n by) keeps may =
    none_fresh (note plan f (entry.Stop p m l n by)) _ (ap behind_first may.rule.1 ∙ (first_fresh f (entry.Stop p m l n by) may.rule.0 may.rule.1 keeps.fresh).0)
fresh_step plan f (entry.Start c p m n args) keeps may = none_fresh (note plan f (entry.Start c p m n args)) _ may.rule.at.begin.whole
fresh_step plan f (entry.Load c m v) keeps may = none_fresh (note plan f (entry.Load c m v)) _ may.rule.at.begin.whole
fresh_step plan f (entry.Skip c p) keeps may = absurd may.rule
fresh_step plan f (entry.Kill c p) keeps may = absurd may.rule
fresh_step plan f (entry.Expire c p) keeps may = absurd may.rule
fresh_step plan f (entry.Lease p b) keeps may = none_fresh (note plan f (entry.Lease p b)) _ may.rule.at.at.at.begin.whole
fresh_step plan f (entry.Ask p k) keeps may = absurd may.rule
fresh_step plan f (entry.Did p k v bytes) keeps may = none_fresh (note plan f (entry.Did p k v bytes)) _ may.rule.at.at.at.begin.whole
fresh_step plan f (entry.Took p) keeps may = absurd may.rule
fresh_step plan f (entry.Forward p) keeps may = absurd may.rule
fresh_step plan f (entry.Signal p r) keeps may = absurd may.rule
fresh_step plan f (entry.Advance t) keeps may = none_fresh (note plan f (entry.Advance t)) _ may.rule.at.at.at.at.begin.whole
fresh_step plan f (entry.Trigger p m l s a applied) keeps may = none_fresh (note plan f (entry.Trigger p m l s a applied)) _ may.rule.begin.whole
fresh_step plan f (entry.Served c x r) keeps may = none_fresh (note plan f (entry.Served c x r)) _ (elim may.rule.answer [
  | inl a ↦ a.at.begin.whole
  | inr q ↦ q.at.at.at.at.at.begin.whole
])

pub keeps_step : (plan : Plan) (f : Facts) (e : Entry) → Keeps f → May plan f e → Keeps (note plan f e)
keeps_step plan f e keeps may = record {
  holds = holds_step plan f e keeps.holds may;
  told = told_step plan f e keeps may;
  fresh = fresh_step plan f e keeps may;
}

first_told : (plan : Plan) (q : ℕ) → IsTold (debuggee_at (at_first plan) q)
first_told plan zero = λ out. refl
first_told plan (suc n) = λ out. refl

pub first_keeps : (plan : Plan) → Keeps (at_first plan)
first_keeps plan = record { holds = first_holds plan; told = first_told plan; fresh = tt }

keeps_at : (plan : Plan) (journal : List Entry) (k : ℕ) → Legal plan journal → Keeps (facts plan (take k journal))
keeps_at plan journal k legal = kept_at plan Keeps (keeps_step plan) (first_keeps plan) journal k legal

stop_fresh : (plan : Plan) (journal : List Entry) (k p : ℕ) (m : List ℕ) (l n : ℕ) (by : Cause) (legal : Legal plan journal)
    (at : slice_get journal k ≡ Some (entry.Stop p m l n by)) → IsFresh (facts plan (take k journal)) (entry.Stop p m l n by) (may_at plan journal k (entry.Stop p m l n by) legal at).rule.0
stop_fresh plan journal k p m l n by legal at =
    let rule = (may_at plan journal k (entry.Stop p m l n by) legal at).rule in
    first_fresh (facts plan (take k journal)) (entry.Stop p m l n by) rule.0 rule.1 (keeps_at plan journal k legal).fresh

-- a Stop is the last that is to come
abbrev pub IsLastStop : Facts → Entry → Type 0
IsLastStop f (entry.Stop p m l n by) = f.coming ≡ entry.Stop p m l n by ∷ []
IsLastStop f _ = Unit {0}

pub stop_last : (plan : Plan) (f : Facts) (e : Entry) → Keeps f → May plan f e → IsLastStop f e
stop_last plan f (entry.Stop p m l n by) keeps may =
    may.rule.1 ∙ ap (λ (es : List Entry). entry.Stop p m l n by ∷ es) (first_fresh f (entry.Stop p m l n by) may.rule.0 may.rule.1 keeps.fresh).0
stop_last plan f _ keeps may = tt

pub last_stop : (plan : Plan) (journal : List Entry) (k p : ℕ) (m : List ℕ) (l n : ℕ) (by : Cause) → Legal plan journal
    → slice_get journal k ≡ Some (entry.Stop p m l n by) → (facts plan (take k journal)).coming ≡ entry.Stop p m l n by ∷ []
last_stop plan journal k p m l n by legal at =
    (may_at plan journal k (entry.Stop p m l n by) legal at).rule.1 ∙ ap (λ (es : List Entry). entry.Stop p m l n by ∷ es) (stop_fresh plan journal k p m l n by legal at).0

pub moved_since : (plan : Plan) (journal : List Entry) (k p : ℕ) (m : List ℕ) (l n : ℕ) (by : Cause) → Legal plan journal
    → slice_get journal k ≡ Some (entry.Stop p m l n by) → (debuggee_at (facts plan (take k journal)) p).is_resumed ≡ false
moved_since plan journal k p m l n by legal at = (stop_fresh plan journal k p m l n by legal at).2

pub no_lease_out : (plan : Plan) (journal : List Entry) (k p : ℕ) (m : List ℕ) (l n : ℕ) (by : Cause) → Legal plan journal
    → slice_get journal k ≡ Some (entry.Stop p m l n by) → (debuggee_at (facts plan (take k journal)) p).is_out ≡ false
no_lease_out plan journal k p m l n by legal at = (stop_fresh plan journal k p m l n by legal at).1
