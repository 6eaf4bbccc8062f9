-- What has to stand next, behind a slice, tells what is: a Stop and an Enter of a legal journal speak of the expression that
-- their process is about to go on with, and a Stop was due there.

use Rattle.std.proofs.Common.{◌≡◌, ◌⊎◌, inl, inr, ℕ, zero, suc, Bool, true, false, if◌then◌else◌, List, [], ◌∷◌, Option, None, Some, unwrap_or, take, replicate, slice_index_or, slice_set, refl, sym, ◌∙◌, ap, subst}
use Rattle.std.specs.List.{slice_get}
use Rattle.std.proofs.lemmas.Option.{none-some, same_Some, cond_some, option_and_then_some}
use Rattle.edb_lang.specs.Syntax.{ModuleTree}
use Rattle.edb_model.specs.Running.{Run}
use Rattle.edb_model.specs.Move.{Next, begins, acts, pure, next, is_move, moved}
use Rattle.edb_model.specs.Plain.{Plain, running_at, with_running}
use Rattle.edb_model.specs.Labels.{move, moved_in, step, steps}
use Rattle.edb_event.specs.declared.entry.Cause.{Cause}
use Rattle.edb_event.specs.declared.entry.Entry.{Entry}
use Rattle.edb_event.specs.declared.entry.Entry.TheVariants as entry
use Rattle.edb_rules.specs.Plans.{Plan}
use Rattle.edb_rules.specs.Facts.{Handout, Debuggee, Facts, debuggee_at}
use Rattle.edb_rules.specs.Server.{is_among}
use Rattle.edb_rules.specs.Slices.{after_moves, level_in, asked_to, Why, due, SliceEnd, leaves, act_next, enters, stops, spent, if_spent, if_due, at_next, end_at}
use Rattle.edb_rules.specs.SliceEnds.{place_of, body_in, cause_of, end_entries, coming_after}
use Rattle.edb_rules.specs.Orders.{order_of}
use Rattle.edb_rules.specs.Notes.{debuggee_with, behind_first, note, facts}
use Rattle.edb_rules.specs.Legal.{MayEnd, May, Legal}
use Rattle.edb_rules.proofs.Entries.{may_at, kept_at}
use Rattle.edb_rules.proofs.Changes.{each, order_keeps, act_keeps}
use Rattle.edb_rules.proofs.Present.{coming_is}

-- n moves of a process lead to the expression after them
process_here : (qs : List (Option Run)) (n : ℕ) (q : Option Run) (t : Run) → (slice_index_or qs n None) ≡ Some t → slice_index_or (slice_set qs n q) n None ≡ q
process_here [] n q t e = absurd (none-some t e)
process_here (x ∷ xs) zero q t e = refl
process_here (x ∷ xs) (suc n) q t e = process_here xs n q t e

pub with_here : (s : Plain) (p : ℕ) (q : Option Run) (t : Run) → running_at s p ≡ Some t → running_at (with_running s p q) p ≡ q
with_here s zero q t e = absurd (none-some t e)
with_here s (suc n) q t e = process_here s.running n q t e

with_versions : (s : Plain) (p : ℕ) (q : Option Run) → (with_running s p q).versions ≡ s.versions
with_versions s zero q = refl
with_versions s (suc n) q = refl

move_reaches : (code : List ModuleTree) (s v : Plain) (p : ℕ) (t : Run) → running_at s p ≡ Some t → step code s (move p) ≡ Some v
    → (v.versions ≡ s.versions) × (running_at v p ≡ Some (moved code s.versions t))
move_reaches code s v p t lives e =
    option_and_then_some _ _ _ e (λ r living h.
    let same : r ≡ t = same_Some r t (sym living ∙ lives) in
    let was : moved_in code s p r ≡ v = (cond_some (is_move (next r)) _ _ h).1 in
    let is : moved_in code s p t ≡ v = subst (λ (x : Run). moved_in code s p x ≡ v) same was in (
      ap (λ (x : Plain). x.versions) (sym is) ∙ with_versions s p (Some (moved code s.versions t)),
      ap (λ (x : Plain). (running_at x p)) (sym is) ∙ with_here s p (Some (moved code s.versions t)) t lives,
    ))

first_move : (code : List ModuleTree) (versions : List (List ℕ × ℕ)) (n : ℕ) (t : Run) → after_moves code versions n (moved code versions t) ≡ moved code versions (after_moves code versions n t)
first_move code versions zero t = refl
first_move code versions (suc n) t = ap (moved code versions) (first_move code versions n t)

pub moves_reach : (code : List ModuleTree) (s u : Plain) (p n : ℕ) (t : Run) → running_at s p ≡ Some t → steps code s (replicate n (move p)) ≡ Some u
    → running_at u p ≡ Some (after_moves code s.versions n t)
moves_reach code s u p zero t lives e = subst (λ (x : Plain). running_at x p ≡ Some t) (same_Some s u e) lives
moves_reach code s u p (suc n) t lives e =
    option_and_then_some _ _ _ e (λ v first rest.
    let one = move_reaches code s v p t lives first in
    moves_reach code v u p n (moved code s.versions t) one.1 rest
    ∙ (ap (λ (vs : List (List ℕ × ℕ)). Some (after_moves code vs n (moved code s.versions t))) one.0 ∙ ap (λ (x : Run). Some x) (first_move code s.versions n t)))

-- what a process has to do behind its slice
pub ran_lives : (plan : Plan) (f : Facts) (p n c : ℕ) (may : May plan f (entry.Ran p n c))
    → running_at (note plan f (entry.Ran p n c)).plain p ≡ Some (after_moves plan.code (debuggee_at f p).handout.versions n may.rule.running)
ran_lives plan f p n c may =
    let is : (note plan f (entry.Ran p n c)).plain ≡ may.plain = ap (λ (o : Option Plain). unwrap_or o f.plain) may.enabled in
    ap (λ (s : Plain). running_at s p) is
    ∙ (moves_reach plan.code f.plain may.plain p n may.rule.running may.rule.lives may.enabled
    ∙ ap (λ (vs : List (List ℕ × ℕ)). Some (after_moves plan.code vs n may.rule.running)) (sym may.rule.versions))

-- THE END OF A SLICE, read: where it stops, a beginning is next, and it is due.
pub record StopsAt (code : List ModuleTree) (h : Handout) (p i : ℕ) (t : Run) (why : Why) : Type 0 where
  pub begins : next t ≡ begins (place_of (next t)).0 (place_of (next t)).1
  pub due : due code h p i t (place_of (next t)).0 (place_of (next t)).1 ≡ Some why

abbrev pub EndMeans : List ModuleTree → Handout → ℕ → ℕ → Run → Option SliceEnd → Type 0
EndMeans code h p i t (Some (enters (Some why))) = StopsAt code h p i t why
EndMeans code h p i t (Some (stops why)) = StopsAt code h p i t why
EndMeans code h p i t _ = Unit {0}

spent_means : (code : List ModuleTree) (h : Handout) (p i : ℕ) (t : Run) (b : Bool) → EndMeans code h p i t (if b then Some spent else None)
spent_means code h p i t true = tt
spent_means code h p i t false = tt

due_means : (code : List ModuleTree) (h : Handout) (p i all : ℕ) (t : Run) (o : Option Why) → ((why : Why) → o ≡ Some why → StopsAt code h p i t why)
    → EndMeans code h p i t (if_due h i all o)
due_means code h p i all t (Some why) is = is why refl
due_means code h p i all t None is = spent_means code h p i t _

enters_means : (code : List ModuleTree) (h : Handout) (p i all : ℕ) (t : Run) (b : Bool) (o : Option Why) → ((why : Why) → o ≡ Some why → StopsAt code h p i t why)
    → EndMeans code h p i t (if b then Some (enters o) else if_spent h i all)
enters_means code h p i all t true (Some why) is = is why refl
enters_means code h p i all t true None is = tt
enters_means code h p i all t false o is = spent_means code h p i t _

begin_means : (code : List ModuleTree) (h : Handout) (p i all : ℕ) (t : Run) (b : Bool) (m : List ℕ) (o : Option Why) → ((why : Why) → o ≡ Some why → StopsAt code h p i t why)
    → EndMeans code h p i t (if b then if_due h i all o else if is_among m h.modules then Some (enters o) else if_spent h i all)
begin_means code h p i all t true m o is = due_means code h p i all t o is
begin_means code h p i all t false m o is = enters_means code h p i all t (is_among m h.modules) o is

next_means : (code : List ModuleTree) (h : Handout) (p i all : ℕ) (t : Run) (x : Next) → next t ≡ x → EndMeans code h p i t (at_next code h p i all t x)
next_means code h p i all t (acts k) is = tt
next_means code h p i all t pure is = spent_means code h p i t _
next_means code h p i all t (begins m l) is =
    let at : next t ≡ begins (place_of (next t)).0 (place_of (next t)).1 = is ∙ ap (λ (x : Next). begins (place_of x).0 (place_of x).1) (sym is) in
    begin_means code h p i all t h.is_interpreted m (due code h p i t m l)
    (λ why e. record { begins = at; due = ap (λ (x : Next). due code h p i t (place_of x).0 (place_of x).1) is ∙ e })

leaves_means : (code : List ModuleTree) (h : Handout) (p i : ℕ) (t : Run) (b : Bool) (o : Option SliceEnd) → EndMeans code h p i t o → EndMeans code h p i t (if b then Some leaves else o)
leaves_means code h p i t true o d = tt
leaves_means code h p i t false o d = d

pub end_means : (code : List ModuleTree) (h : Handout) (p : ℕ) (t : Run) (i : ℕ) (end : SliceEnd) → end_at code h p t i ≡ Some end
    → EndMeans code h p i (after_moves code h.versions i t) (Some end)
end_means code h p t i end ends =
    let u = after_moves code h.versions i t in
    subst (λ (o : Option SliceEnd). EndMeans code h p i u o) ends
    (leaves_means code h p i u _ _ (next_means code h p i (asked_to code h p t i) u (next u) refl))

-- What an entry to come says of the state in which it comes.
pub record StopTells (plan : Plan) (f : Facts) (p : ℕ) (m : List ℕ) (l level : ℕ) (by : Cause) : Type 0 where
  pub running : Run
  pub lives : running_at f.plain p ≡ Some running
  pub at : next running ≡ begins m l
  pub level_is : level ≡ level_in running
  pub moves : ℕ
  pub why : Why
  pub due : due plan.code (debuggee_at f p).handout p moves running m l ≡ Some why
  pub cause : by ≡ cause_of why

pub record EnterTells (f : Facts) (p : ℕ) (m n : List ℕ) (a : ℕ) : Type 0 where
  pub running : Run
  pub lives : running_at f.plain p ≡ Some running
  pub home : m ≡ (body_in running).home
  pub name : n ≡ (body_in running).name
  pub arity : a ≡ (body_in running).arity

abbrev pub IsThere : Plan → Facts → Entry → Type 0
IsThere plan f (entry.Stop p m l n by) = StopTells plan f p m l n by
IsThere plan f (entry.Enter p m n a) = EnterTells f p m n a
IsThere plan f _ = Unit {0}

abbrev pub AreThere : Plan → Facts → List Entry → Type 0
AreThere plan f [] = Unit {0}
AreThere plan f (e ∷ es) = IsThere plan f e × AreThere plan f es

stop_tells : (plan : Plan) (g : Facts) (p i : ℕ) (t : Run) (why : Why) → running_at g.plain p ≡ Some t → StopsAt plan.code (debuggee_at g p).handout p i t why
    → StopTells plan g p (place_of (next t)).0 (place_of (next t)).1 (level_in t) (cause_of why)
stop_tells plan g p i t why lives at =
    record { running = t; lives = lives; at = at.begins; level_is = refl; moves = i; why = why; due = at.due; cause = refl }

ends_there : (plan : Plan) (g : Facts) (p i : ℕ) (t : Run) (end : SliceEnd) → running_at g.plain p ≡ Some t → EndMeans plan.code (debuggee_at g p).handout p i t (Some end)
    → AreThere plan g (end_entries p t end)
ends_there plan g p i t leaves lives d = (tt, tt)
ends_there plan g p i t act_next lives d = tt
ends_there plan g p i t (enters None) lives d = (record { running = t; lives = lives; home = refl; name = refl; arity = refl }, tt)
ends_there plan g p i t (enters (Some why)) lives d = (record { running = t; lives = lives; home = refl; name = refl; arity = refl }, (stop_tells plan g p i t why lives d, tt))
ends_there plan g p i t (stops why) lives d = (stop_tells plan g p i t why lives d, tt)
ends_there plan g p i t spent lives d = tt

-- what is handed out stays but at a lease
abbrev pub IsNoLease : Entry → Type 0
IsNoLease (entry.Lease p b) = ⊥
IsNoLease _ = Unit {0}

handed_with : (f : Facts) (e : Entry) (d : Debuggee) → IsNoLease e → (debuggee_with f e d).handout ≡ d.handout
handed_with f (entry.Lease p b) d none = absurd none
handed_with f (entry.Did p k v bytes) d none = act_keeps (λ (x : Debuggee). x.handout) (λ x b. refl) (λ x. refl) k d
handed_with f (entry.Served c x r) d none = order_keeps (λ (y : Debuggee). y.handout) (λ y m. refl) (λ y m. refl) (order_of f.plain x) d
handed_with f (entry.Signal p (Some r)) d none = refl
handed_with f (entry.Signal p None) d none = refl
handed_with f _ d none = refl

pub handed : (plan : Plan) (f : Facts) (e : Entry) (q : ℕ) → IsNoLease e → (debuggee_at (note plan f e) q).handout ≡ (debuggee_at f q).handout
handed plan f e q none = sym (each (λ (d x : Debuggee). d.handout ≡ x.handout) (λ d. refl) (λ d. refl) plan f e q (λ same. sym (handed_with f e (debuggee_at f q) none)))

-- a call of the world may begin, or the entry ends a slice
pub whole : (plan : Plan) (f : Facts) (e : Entry) → May plan f e → (f.coming ≡ []) ⊎ MayEnd f e
whole plan f (entry.Start c p m n args) may = inl may.rule.at.begin.whole
whole plan f (entry.Load c m v) may = inl may.rule.at.begin.whole
whole plan f (entry.Skip c p) may = absurd may.rule
whole plan f (entry.Kill c p) may = absurd may.rule
whole plan f (entry.Expire c p) may = absurd may.rule
whole plan f (entry.Lease p b) may = inl may.rule.at.at.at.begin.whole
whole plan f (entry.Ran p n c) may = inl may.rule.begin.whole
whole plan f (entry.Ask p k) may = absurd may.rule
whole plan f (entry.Did p k v bytes) may = inl may.rule.at.at.at.begin.whole
whole plan f (entry.Took p) may = absurd may.rule
whole plan f (entry.Forward p) may = absurd may.rule
whole plan f (entry.Leave p) may = inr may.rule
whole plan f (entry.Enter p m n a) may = inr may.rule
whole plan f (entry.Signal p r) may = absurd may.rule
whole plan f (entry.Advance t) may = inl may.rule.at.at.at.at.begin.whole
whole plan f (entry.Stop p m l n by) may = inr may.rule
whole plan f (entry.Trigger p m l s a applied) may = inl may.rule.begin.whole
whole plan f (entry.Served c x r) may = elim may.rule.answer [
  | inl a ↦ inl a.at.begin.whole
  | inr q ↦ inl q.at.at.at.at.at.begin.whole
]

kept_there : (plan : Plan) (f g : Facts) → g.plain ≡ f.plain → ((q : ℕ) → (debuggee_at g q).handout ≡ (debuggee_at f q).handout) → (e : Entry) → IsThere plan f e → IsThere plan g e
kept_there plan f g plain same (entry.Stop p m l n by) d = record {
  running = d.running;
  lives = ap (λ (s : Plain). running_at s p) plain ∙ d.lives;
  at = d.at;
  level_is = d.level_is;
  moves = d.moves;
  why = d.why;
  due = ap (λ (h : Handout). due plan.code h p d.moves d.running m l) (same p) ∙ d.due;
  cause = d.cause;
}
kept_there plan f g plain same (entry.Enter p m n a) d =
    record { running = d.running; lives = ap (λ (s : Plain). running_at s p) plain ∙ d.lives; home = d.home; name = d.name; arity = d.arity }
kept_there plan f g plain same _ d = tt

all_kept : (plan : Plan) (f g : Facts) → g.plain ≡ f.plain → ((q : ℕ) → (debuggee_at g q).handout ≡ (debuggee_at f q).handout) → (es : List Entry) → AreThere plan f es → AreThere plan g es
all_kept plan f g plain same [] d = tt
all_kept plan f g plain same (e ∷ es) d = (kept_there plan f g plain same e d.0, all_kept plan f g plain same es d.1)

rest_there : (plan : Plan) (f g : Facts) → g.plain ≡ f.plain → ((q : ℕ) → (debuggee_at g q).handout ≡ (debuggee_at f q).handout) → (es : List Entry) → AreThere plan f es → AreThere plan g (behind_first es)
rest_there plan f g plain same [] d = tt
rest_there plan f g plain same (e ∷ es) d = all_kept plan f g plain same es d.1

none_there : (plan : Plan) (g : Facts) (es : List Entry) → es ≡ [] → AreThere plan g es
none_there plan g es none = subst (λ (xs : List Entry). AreThere plan g xs) (sym none) tt

ran_there : (plan : Plan) (f : Facts) (p n c : ℕ) → May plan f (entry.Ran p n c) → AreThere plan (note plan f (entry.Ran p n c)) (coming_after plan f p n)
ran_there plan f p n c may =
    let rule = may.rule in
    let g = note plan f (entry.Ran p n c) in
    let h = (debuggee_at f p).handout in
    let u = after_moves plan.code h.versions n rule.running in
    let means = end_means plan.code h p rule.running n rule.end rule.slice.ends in
    subst (λ (es : List Entry). AreThere plan g es) (sym (coming_is plan f p n rule.running rule.end rule.lives rule.slice.ends))
    (ends_there plan g p n u rule.end (ran_lives plan f p n c may)
    (subst (λ (x : Handout). EndMeans plan.code x p n u (Some rule.end)) (sym (handed plan f (entry.Ran p n c) p tt)) means))

pub there_step : (plan : Plan) (f : Facts) (e : Entry) → AreThere plan f f.coming → May plan f e → AreThere plan (note plan f e) (note plan f e).coming
there_step plan f (entry.Ran p n c) d may = ran_there plan f p n c may
there_step plan f (entry.Leave p) d may = rest_there plan f (note plan f (entry.Leave p)) refl (λ q. handed plan f (entry.Leave p) q tt) f.coming d
there_step plan f (entry.Enter p m n a) d may = rest_there plan f (note plan f (entry.Enter p m n a)) refl (λ q. handed plan f (entry.Enter p m n a) q tt) f.coming d
there_step plan f (entry.Stop p m l n by) d may = rest_there plan f (note plan f (entry.Stop p m l n by)) refl (λ q. handed plan f (entry.Stop p m l n by) q tt) f.coming d
there_step plan f (entry.Start c p m n args) d may = none_there plan _ _ may.rule.at.begin.whole
there_step plan f (entry.Load c m v) d may = none_there plan _ _ may.rule.at.begin.whole
there_step plan f (entry.Skip c p) d may = absurd may.rule
there_step plan f (entry.Kill c p) d may = absurd may.rule
there_step plan f (entry.Expire c p) d may = absurd may.rule
there_step plan f (entry.Lease p b) d may = none_there plan _ _ may.rule.at.at.at.begin.whole
there_step plan f (entry.Ask p k) d may = absurd may.rule
there_step plan f (entry.Did p k v bytes) d may = none_there plan _ _ may.rule.at.at.at.begin.whole
there_step plan f (entry.Took p) d may = absurd may.rule
there_step plan f (entry.Forward p) d may = absurd may.rule
there_step plan f (entry.Signal p r) d may = absurd may.rule
there_step plan f (entry.Advance t) d may = none_there plan _ _ may.rule.at.at.at.at.begin.whole
there_step plan f (entry.Trigger p m l s a applied) d may = none_there plan _ _ may.rule.begin.whole
there_step plan f (entry.Served c x r) d may = none_there plan _ _ (elim may.rule.answer [
  | inl a ↦ a.at.begin.whole
  | inr q ↦ q.at.at.at.at.at.begin.whole
])

pub first_there : (plan : Plan) (f : Facts) (e : Entry) (rest : List Entry) → f.coming ≡ e ∷ rest → AreThere plan f f.coming → IsThere plan f e
first_there plan f e rest is d = let there : AreThere plan f (e ∷ rest) = subst (λ (es : List Entry). AreThere plan f es) is d in there.0

all_there : (plan : Plan) (journal : List Entry) (k : ℕ) → Legal plan journal → AreThere plan (facts plan (take k journal)) (facts plan (take k journal)).coming
all_there plan journal k legal = kept_at plan (λ f. AreThere plan f f.coming) (there_step plan) tt journal k legal

-- a Stop and an Enter of a legal journal
pub stop_there : (plan : Plan) (journal : List Entry) (k p : ℕ) (m : List ℕ) (l n : ℕ) (by : Cause) → Legal plan journal
    → slice_get journal k ≡ Some (entry.Stop p m l n by) → StopTells plan (facts plan (take k journal)) p m l n by
stop_there plan journal k p m l n by legal at =
    let rule = (may_at plan journal k (entry.Stop p m l n by) legal at).rule in
    first_there plan (facts plan (take k journal)) (entry.Stop p m l n by) rule.0 rule.1 (all_there plan journal k legal)

pub enter_there : (plan : Plan) (journal : List Entry) (k p : ℕ) (m n : List ℕ) (a : ℕ) → Legal plan journal
    → slice_get journal k ≡ Some (entry.Enter p m n a) → EnterTells (facts plan (take k journal)) p m n a
enter_there plan journal k p m n a legal at =
    let rule = (may_at plan journal k (entry.Enter p m n a) legal at).rule in
    first_there plan (facts plan (take k journal)) (entry.Enter p m n a) rule.0 rule.1 (all_there plan journal k legal)
