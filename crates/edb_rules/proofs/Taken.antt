-- What a process goes by in a legal journal is what its last lease handed out, and it keeps to the budget.

use Rattle.std.proofs.Common.{◌≡◌, ◌⊎◌, inl, inr, ℕ, zero, suc, ◌+◌, ◌-◌, ◌<◌, ◌≤◌, min, max, Bool, true, false, if◌then◌else◌, ◌&&◌, nat_eq, nat_le, List, length, Option, None, Some, take, refl, sym, ◌∙◌, ap, subst, arith}
use Rattle.std.specs.List.{slice_get}
use Rattle.std.proofs.lemmas.Bool.{both_ways, le-leb, leb-false, eq-eqb}
use Rattle.std.proofs.lemmas.Option.{none-some, same_Some, slice_get_within}
use Rattle.edb_model.specs.Running.{Run}
use Rattle.edb_model.specs.Move.{Next, begins, acts, pure, next}
use Rattle.edb_event.specs.declared.entry.Cause.{Cause}
use Rattle.edb_event.specs.declared.entry.Cause.TheVariants as cause
use Rattle.edb_event.specs.declared.entry.Entry.{Entry}
use Rattle.edb_event.specs.declared.entry.Entry.TheVariants as entry
use Rattle.edb_event.specs.Weights.{weight}
use Rattle.edb_lang.specs.Syntax.{ModuleTree}
use Rattle.edb_rules.specs.Plans.{Plan}
use Rattle.edb_rules.specs.Facts.{Handout, Debuggee, Facts, at_first, no_handout, debuggee_at}
use Rattle.edb_rules.specs.Server.{is_among}
use Rattle.edb_rules.specs.Slices.{leaves, act_next, enters, stops, spent, Why, due, asked_to, if_spent, if_due, at_next, end_at, after_moves}
use Rattle.edb_rules.specs.Notes.{process_in, leased, note, facts}
use Rattle.edb_rules.specs.Legal.{May, Legal}
use Rattle.edb_rules.specs.Stops.{WasDue}
use Rattle.edb_rules.specs.Between.{StandsBetween}
use Rattle.edb_rules.specs.Taken.{IsLeaseOf, GoesBy, TookIn, KeepsBudget}
use Rattle.edb_rules.proofs.Entries.{may_at, legal_take}
use Rattle.edb_rules.proofs.Changes.{Changed, IsKept, changed_or}
use Rattle.edb_rules.proofs.Present.{lease_known, holds_at, here_or, exact}
use Rattle.edb_rules.proofs.Endings.{IsNoLease, handed}
use Rattle.edb_rules.proofs.OneJournal.{none_new}
use Rattle.edb_rules.proofs.Weighed.{weight_is}
use Rattle.edb_rules.proofs.Stops.{else_none, stop_due}
use Rattle.edb_rules.proofs.Between.{facts_next, entry_at}

-- an entry is a lease of a process, or it is none
leases_or : (p : ℕ) (e : Entry) → IsLeaseOf p e ⊎ (IsLeaseOf p e → ⊥)
leases_or p (entry.Lease q b) = here_or q p
leases_or p _ = inr (λ x. x)

-- What a process took in stays, and no lease of it is out that wasn't.
abbrev pub Holds : Debuggee → Debuggee → Type 0
Holds x y = (x.handout ≡ y.handout) × (y.is_out ≡ false → x.is_out ≡ false)

off : (b : Bool) → (b ≡ true → ⊥) → b ≡ false
off true not = absurd (not refl)
off false not = refl

no_lease_holds : (plan : Plan) (p : ℕ) (f : Facts) (e : Entry) → IsNoLease e → May plan f e → Holds (debuggee_at (note plan f e) p) (debuggee_at f p)
no_lease_holds plan p f e none may = (handed plan f e p none, λ free. off _ (λ out. both_ways _ free (none_new plan f e may none p out)))

kept_holds : (d e : Debuggee) → IsKept d e → Holds e d
kept_holds d e (inl is) = (ap (λ (x : Debuggee). x.handout) is, λ free. ap (λ (x : Debuggee). x.is_out) is ∙ free)
kept_holds d e (inr is) = (ap (λ (x : Debuggee). x.handout) is, λ free. ap (λ (x : Debuggee). x.is_out) is ∙ free)

other_lease : (f : Facts) (e : Entry) (p : ℕ) (d : Debuggee) → (process_in e ≡ p → ⊥) → Changed f e p d → Holds d (debuggee_at f p)
other_lease f e p d not (inl both) = absurd (not both.0)
other_lease f e p d not (inr kept) = kept_holds (debuggee_at f p) d kept

no_lease_is : (e : Entry) (p : ℕ) → (IsLeaseOf p e → ⊥) → (process_in e ≡ p → ⊥) ⊎ IsNoLease e
no_lease_is (entry.Lease q b) p not = inl not
no_lease_is _ p not = inr tt

holds_step : (plan : Plan) (p : ℕ) (f : Facts) (e : Entry) → (IsLeaseOf p e → ⊥) → May plan f e → Holds (debuggee_at (note plan f e) p) (debuggee_at f p)
holds_step plan p f e not may = elim (no_lease_is e p not) [
  | inl other ↦ other_lease f e p (debuggee_at (note plan f e) p) other (changed_or plan f e p)
  | inr none ↦ no_lease_holds plan p f e none may
]

-- Before a first lease nothing was taken in, and none is out.
abbrev IsFree : Debuggee → Type 0
IsFree d = (d.handout ≡ no_handout) × (d.is_out ≡ false)

abbrev IsHanded : Plan → List Entry → ℕ → ℕ → Type 0
IsHanded plan journal p k =
    TookIn plan journal p k (debuggee_at (facts plan (take k journal)) p).handout ⊎ IsFree (debuggee_at (facts plan (take k journal)) p)

-- a lease that is the last one before a place still is behind an entry that is no lease
none_here : (journal : List Entry) (p i k : ℕ) (e : Entry) → slice_get journal k ≡ Some e → (IsLeaseOf p e → ⊥) → (StandsBetween (IsLeaseOf p) journal i k → ⊥)
    → (b : StandsBetween (IsLeaseOf p) journal i (suc k)) → (b.place < k) ⊎ (k ≡ b.place) → ⊥
none_here journal p i k e at not last b (inl less) = last (record { place = b.place; behind = b.behind; before = less; what = b.what; stands = b.stands; is = b.is })
none_here journal p i k e at not last b (inr here) =
    let same : e ≡ b.what = same_Some e b.what (sym at ∙ (ap (slice_get journal) here ∙ b.stands)) in
    not (subst (IsLeaseOf p) (sym same) b.is)

split_last : (i k : ℕ) → i < suc k → (i < k) ⊎ (k ≡ i)
split_last zero zero less = inr refl
split_last zero (suc k) less = inl (omega arith)
split_last (suc i) zero less = absurd (omega arith)
split_last (suc i) (suc k) less = one_on (split_last i k (omega arith))
  where
    one_on : (i < k) ⊎ (k ≡ i) → (suc i < suc k) ⊎ (suc k ≡ suc i)
    one_on (inl under) = inl (omega arith)
    one_on (inr same) = inr (ap suc same)

took_on : (plan : Plan) (journal : List Entry) (p k : ℕ) (e : Entry) (h : Handout) → slice_get journal k ≡ Some e → (IsLeaseOf p e → ⊥)
    → TookIn plan journal p k h → TookIn plan journal p (suc k) h
took_on plan journal p k e h at not t =
    let before : t.place < suc k = (let was = t.lease.before in omega arith) in
    record {
      place = t.place;
      lease = record { before = before; stands = t.lease.stands; last = λ b. none_here journal p t.place k e at not t.lease.last b (split_last b.place k b.before) };
      versions = t.versions;
      rows = t.rows;
      modules = t.modules;
      mode = t.mode;
      flags = t.flags;
      interpreted = t.interpreted;
      entered = t.entered;
      resumed = t.resumed;
    }

-- what is known of the process behind an entry that is no lease of it
handed_on : (plan : Plan) (journal : List Entry) (p k : ℕ) (e : Entry) → slice_get journal k ≡ Some e → (IsLeaseOf p e → ⊥)
    → Holds (debuggee_at (facts plan (take (suc k) journal)) p) (debuggee_at (facts plan (take k journal)) p)
    → IsHanded plan journal p k → IsHanded plan journal p (suc k)
handed_on plan journal p k e at not holds (inl took) =
    inl (subst (TookIn plan journal p (suc k)) (sym holds.0) (took_on plan journal p k e _ at not took))
handed_on plan journal p k e at not holds (inr free) = inr (holds.0 ∙ free.0, holds.1 free.1)

-- the lease itself
lease_exact : (plan : Plan) (f : Facts) (p b : ℕ) → length f.debuggees ≡ length f.plain.running → May plan f (entry.Lease p b) → debuggee_at (note plan f (entry.Lease p b)) p ≡ leased f b (debuggee_at f p)
lease_exact plan f p b agree may =
    let same : nat_eq p p ≡ true = eq-eqb p p refl in
    exact plan f (entry.Lease p b) p may (lease_known plan f p b agree may.rule)
    ∙ ap (λ (x : Bool). if x then leased f b (debuggee_at f p) else debuggee_at f p) same

handed_out : (plan : Plan) (journal : List Entry) (p k b : ℕ) → Legal plan journal → slice_get journal k ≡ Some (entry.Lease p b)
    → TookIn plan journal p (suc k) (debuggee_at (facts plan (take (suc k) journal)) p).handout
handed_out plan journal p k b legal at =
    let f = facts plan (take k journal) in
    let agree = (holds_at plan (take k journal) (legal_take plan journal k legal)).agree in
    let here = lease_exact plan f p b agree (may_at plan journal k (entry.Lease p b) legal at) in
    let is : (debuggee_at (facts plan (take (suc k) journal)) p).handout ≡ (leased f b (debuggee_at f p)).handout =
    ap (λ (g : Facts). (debuggee_at g p).handout) (facts_next plan journal k (entry.Lease p b) at) ∙ ap (λ (d : Debuggee). d.handout) here in
    let before : k < suc k = omega arith in
    subst (TookIn plan journal p (suc k)) (sym is) (record {
      place = k;
      lease = record { before = before; stands = at; last = λ x. (let low = x.behind in let high = x.before in omega arith) };
      versions = refl;
      rows = refl;
      modules = refl;
      mode = refl;
      flags = refl;
      interpreted = refl;
      entered = refl;
      resumed = refl;
    })

lease_here : (plan : Plan) (journal : List Entry) (p k : ℕ) (e : Entry) → Legal plan journal → slice_get journal k ≡ Some e → IsLeaseOf p e
    → TookIn plan journal p (suc k) (debuggee_at (facts plan (take (suc k) journal)) p).handout
lease_here plan journal p k (entry.Lease q b) legal at is =
    subst (λ (n : ℕ). TookIn plan journal n (suc k) (debuggee_at (facts plan (take (suc k) journal)) n).handout) is (handed_out plan journal q k b legal at)
lease_here plan journal p k _ legal at is = absurd is

handed_step : (plan : Plan) (journal : List Entry) (p k : ℕ) (e : Entry) → Legal plan journal → slice_get journal k ≡ Some e → IsLeaseOf p e ⊎ (IsLeaseOf p e → ⊥)
    → IsHanded plan journal p k → IsHanded plan journal p (suc k)
handed_step plan journal p k e legal at (inl is) was = inl (lease_here plan journal p k e legal at is)
handed_step plan journal p k e legal at (inr not) was =
    let f = facts plan (take k journal) in
    let holds = holds_step plan p f e not (may_at plan journal k e legal at) in
    handed_on plan journal p k e at not
    (subst (λ (g : Facts). Holds (debuggee_at g p) (debuggee_at f p)) (sym (facts_next plan journal k e at)) holds) was

first_free : (plan : Plan) (p : ℕ) → IsFree (debuggee_at (at_first plan) p)
first_free plan zero = (refl, refl)
first_free plan (suc n) = (refl, refl)

handed_at : (plan : Plan) (journal : List Entry) (p : ℕ) → Legal plan journal → (k : ℕ) → k ≤ length journal → IsHanded plan journal p k
handed_at plan journal p legal zero less = inr (first_free plan p)
handed_at plan journal p legal (suc k) less =
    let e = entry_at journal k (omega arith) in
    handed_step plan journal p k e.0 legal e.1 (leases_or p e.0) (handed_at plan journal p legal k (omega arith))

-- what runs or stops was handed something: no module is in what stands for nothing
never_due : (h : Handout) (m : List ℕ) (l level : ℕ) (by : Cause) → h ≡ no_handout → WasDue h m l level by → ⊥
never_due h m l level cause.Order is d = both_ways false refl (ap (λ (x : Handout). is_among m x.modules) (sym is) ∙ d.interpreted)
never_due h m l level (cause.Break serial) is d = both_ways false refl (ap (λ (x : Handout). is_among m x.modules) (sym is) ∙ d.interpreted)

goes_by : (plan : Plan) (journal : List Entry) (k p : ℕ) (e : Entry) → Legal plan journal → slice_get journal k ≡ Some e → GoesBy p e
    → IsFree (debuggee_at (facts plan (take k journal)) p) → ⊥
goes_by plan journal k p (entry.Ran q n c) legal at is free =
    let out : (debuggee_at (facts plan (take k journal)) p).is_out ≡ true =
    subst (λ (x : ℕ). (debuggee_at (facts plan (take k journal)) x).is_out ≡ true) is (may_at plan journal k (entry.Ran q n c) legal at).rule.out in
    both_ways _ free.1 out
goes_by plan journal k p (entry.Stop q m l n by) legal at is free =
    let due_here : WasDue (debuggee_at (facts plan (take k journal)) p).handout m l n by =
    subst (λ (x : ℕ). WasDue (debuggee_at (facts plan (take k journal)) x).handout m l n by) is (stop_due plan journal k q m l n by legal at) in
    never_due _ m l n by free.0 due_here
goes_by plan journal k p _ legal at is free = is

took_in : (plan : Plan) (journal : List Entry) (p k : ℕ) → (IsFree (debuggee_at (facts plan (take k journal)) p) → ⊥) → IsHanded plan journal p k
    → TookIn plan journal p k (debuggee_at (facts plan (take k journal)) p).handout
took_in plan journal p k not (inl took) = took
took_in plan journal p k not (inr free) = absurd (not free)

pub taken_at : (plan : Plan) (journal : List Entry) (k p : ℕ) (e : Entry) → Legal plan journal → slice_get journal k ≡ Some e → GoesBy p e
    → TookIn plan journal p k (debuggee_at (facts plan (take k journal)) p).handout
taken_at plan journal k p e legal at is =
    let inside = slice_get_within journal k e at in
    took_in plan journal p k (goes_by plan journal k p e legal at is) (handed_at plan journal p legal k (omega arith))

-- Where a slice goes on behind a first move, its budget isn't spent.
due_unspent : (h : Handout) (i all : ℕ) (o : Option Why) → if_due h i all o ≡ None → if_spent h i all ≡ None
due_unspent h i all (Some why) e = absurd (none-some (stops why) (sym e))
due_unspent h i all None e = e

begin_unspent : (h : Handout) (i all : ℕ) (m : List ℕ) (o : Option Why) (b : Bool)
    → (if b then if_due h i all o else if is_among m h.modules then Some (enters o) else if_spent h i all) ≡ None → if_spent h i all ≡ None
begin_unspent h i all m o true e = due_unspent h i all o e
begin_unspent h i all m o false e = (else_none (is_among m h.modules) _ _ e).1

next_unspent : (code : List ModuleTree) (h : Handout) (p i all : ℕ) (t : Run) (x : Next) → at_next code h p i all t x ≡ None → if_spent h i all ≡ None
next_unspent code h p i all t (acts k) e = absurd (none-some act_next (sym e))
next_unspent code h p i all t (begins m l) e = begin_unspent h i all m (due code h p i t m l) h.is_interpreted e
next_unspent code h p i all t pure e = e

goes_unspent : (code : List ModuleTree) (h : Handout) (p : ℕ) (t : Run) (i : ℕ) → end_at code h p t i ≡ None → if_spent h i (asked_to code h p t i) ≡ None
goes_unspent code h p t i e =
    let u = after_moves code h.versions i t in
    next_unspent code h p i (asked_to code h p t i) u (next u) (else_none _ leaves (at_next code h p i (asked_to code h p t i) u (next u)) e).1

under_budget : (h : Handout) (i all : ℕ) → if_spent h i all ≡ None → 1 ≤ i → i + all < h.budget
under_budget h i all e least =
    let test = (else_none (nat_le 1 i && nat_le h.budget (i + all)) spent None e).0 in
    leb-false h.budget (i + all) (ap (λ (b : Bool). b && nat_le h.budget (i + all)) (sym (le-leb 1 i least)) ∙ test)

ran_within : (h : Handout) (n : ℕ) (all : ℕ → ℕ) → ((i : ℕ) → i < n → if_spent h i (all i) ≡ None) → n ≤ max 1 h.budget
ran_within h zero all goes = omega arith
ran_within h (suc zero) all goes = omega arith
ran_within h (suc (suc i)) all goes =
    let less : suc i < suc (suc i) = omega arith in
    let least : 1 ≤ suc i = omega arith in
    let under = under_budget h (suc i) (all (suc i)) (goes (suc i) less) least in
    omega arith

pub budget_kept : (plan : Plan) (journal : List Entry) (k p n c : ℕ) → Legal plan journal → slice_get journal k ≡ Some (entry.Ran p n c) → KeepsBudget journal p k n
budget_kept plan journal k p n c legal at =
    let f = facts plan (take k journal) in
    let h = (debuggee_at f p).handout in
    let rule = (may_at plan journal k (entry.Ran p n c) legal at).rule in
    let took = taken_at plan journal k p (entry.Ran p n c) legal at refl in
    record {
      place = took.place;
      budget = h.budget;
      lease = took.lease;
      within = ran_within h n (asked_to plan.code h p rule.running) (λ i less. goes_unspent plan.code h p rule.running i (rule.slice.goes i less));
    }

-- the budget of a lease is the lesser of a slice and of what is left of the weight after it
pub lease_budget : (plan : Plan) (journal : List Entry) (k p b : ℕ) → Legal plan journal → slice_get journal k ≡ Some (entry.Lease p b)
    → b ≡ min plan.slice_moves (plan.weight_limit - (weight (take k journal) + 1))
lease_budget plan journal k p b legal at =
    (may_at plan journal k (entry.Lease p b) legal at).rule.allowed
    ∙ ap (λ (w : ℕ). min plan.slice_moves (plan.weight_limit - (w + 1))) (weight_is plan (take k journal))
