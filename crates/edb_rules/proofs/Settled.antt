-- In a legal journal a process that leaves is interpreted and isn't stopped, one that enters isn't stopped, and one that stops is
-- interpreted; so one that is stopped is interpreted.

use Rattle.std.proofs.Common.{◌≡◌, inl, inr, ℕ, zero, suc, Bool, true, false, if◌then◌else◌, not, ◌&&◌, nat_eq, List, [], ◌∷◌, Option, None, Some, refl, sym, ◌∙◌, ap, subst}
use Rattle.std.proofs.lemmas.Bool.{both_ways, eq-eqb}
use Rattle.edb_lang.specs.declared.act.ActKind.{ActKind}
use Rattle.edb_lang.specs.declared.act.ActKind.TheVariants as kind
use Rattle.edb_lang.specs.Syntax.{ModuleTree}
use Rattle.edb_frames.specs.declared.mode.Mode.TheVariants.{Step}
use Rattle.edb_model.specs.Running.{Run}
use Rattle.edb_model.specs.Move.{Next, begins, acts, pure, next}
use Rattle.edb_event.specs.declared.entry.Entry.{Entry}
use Rattle.edb_event.specs.declared.entry.Entry.TheVariants as entry
use Rattle.edb_rules.specs.Plans.{Plan}
use Rattle.edb_rules.specs.Facts.{Handout, Debuggee, Facts, at_first, debuggee_at}
use Rattle.edb_rules.specs.Server.{is_among}
use Rattle.edb_rules.specs.Slices.{after_moves, asked_to, has_body, Why, due, SliceEnd, leaves, act_next, enters, stops, spent, if_spent, if_due, at_next, end_at}
use Rattle.edb_rules.specs.SliceEnds.{end_entries, coming_after}
use Rattle.edb_rules.specs.Orders.{Order, resumes, halts, no_order, order_of, with_order}
use Rattle.edb_rules.specs.Notes.{process_in, debuggee_with, acted_debuggee, behind_first, note}
use Rattle.edb_rules.specs.Legal.{May}
use Rattle.edb_rules.proofs.Changes.{each}
use Rattle.edb_rules.proofs.Present.{exact, coming_is}
use Rattle.edb_rules.proofs.Fresh.{ran_exact}
use Rattle.edb_rules.proofs.ServerAgrees.{InStep, here_of, is_free, in_step, first_step}

-- While a lease is out, whether its process is interpreted is what was handed out; and one that is stopped is interpreted.
abbrev Steady : Bool → Bool → Bool → Bool → Type 0
Steady out stopped inside handed = (out ≡ true → handed ≡ inside) × (stopped ≡ true → inside ≡ true)

abbrev pub IsSteady : Debuggee → Type 0
IsSteady d = Steady d.is_out d.is_stopped d.is_interpreted d.handout.is_interpreted

-- what is known of the process of an entry that ends a slice
abbrev pub Fits : Entry → Debuggee → Type 0
Fits (entry.Leave p) d = (d.is_out ≡ false) × (d.is_stopped ≡ false) × (d.is_interpreted ≡ true)
Fits (entry.Enter p m n a) d = (d.is_out ≡ false) × (d.is_stopped ≡ false)
Fits (entry.Stop p m l n by) d = d.is_interpreted ≡ true
Fits _ d = Unit {0}

-- nothing comes behind it, but a Stop of its process behind an Enter
abbrev MayStop : ℕ → List Entry → Type 0
MayStop p [] = Unit {0}
MayStop p (entry.Stop q m l n by ∷ es) = (p ≡ q) × (es ≡ [])
MayStop p (_ ∷ es) = ⊥

abbrev Follows : Entry → List Entry → Type 0
Follows (entry.Enter p m n a) es = MayStop p es
Follows _ es = es ≡ []

abbrev Comes : Facts → List Entry → Type 0
Comes f [] = Unit {0}
Comes f (e ∷ es) = Fits e (debuggee_at f (process_in e)) × Follows e es

pub record Settled (plan : Plan) (f : Facts) : Type 0 where
  pub step : InStep plan f
  pub steady : (q : ℕ) → IsSteady (debuggee_at f q)
  pub comes : Comes f f.coming

first_comes : (f : Facts) (e : Entry) (rest : List Entry) → f.coming ≡ e ∷ rest → Comes f f.coming → Comes f (e ∷ rest)
first_comes f e rest is d = subst (Comes f) is d

-- so it is of an entry that may stand
pub fits : (plan : Plan) (f : Facts) (e : Entry) → Settled plan f → May plan f e → Fits e (debuggee_at f (process_in e))
fits plan f (entry.Leave p) k may = (first_comes f (entry.Leave p) may.rule.0 may.rule.1 k.comes).0
fits plan f (entry.Enter p m n a) k may = (first_comes f (entry.Enter p m n a) may.rule.0 may.rule.1 k.comes).0
fits plan f (entry.Stop p m l n by) k may = (first_comes f (entry.Stop p m l n by) may.rule.0 may.rule.1 k.comes).0
fits plan f _ k may = tt

-- STEADY
act_steady : (k : ActKind) (d : Debuggee) → IsSteady d → IsSteady (acted_debuggee k d)
act_steady kind.End d s = (λ out. absurd (both_ways false refl out), λ stopped. absurd (both_ways false refl stopped))
act_steady kind.Wait d s = s
act_steady _ d s = s

order_steady : (o : Order) (d : Debuggee) → IsSteady d → IsSteady (with_order o d)
order_steady (resumes m) d s = by d.is_stopped
  where
    by : (b : Bool) → IsSteady (if b then record d { is_stopped = false; order = Some m } else d)
    by true = (s.0, λ stopped. absurd (both_ways false refl stopped))
    by false = s
order_steady halts d s = by d.is_stopped
  where
    by : (b : Bool) → IsSteady (if b then d else record d { order = Some Step })
    by true = s
    by false = s
order_steady no_order d s = s

steady_with : (plan : Plan) (f : Facts) (e : Entry) (d : Debuggee) → May plan f e → Fits e d → IsSteady d → IsSteady (debuggee_with f e d)
steady_with plan f (entry.Lease p b) d may fit s = (λ out. refl, s.1)
steady_with plan f (entry.Ran p n c) d may fit s = (λ out. absurd (both_ways false refl out), s.1)
steady_with plan f (entry.Did p k v bytes) d may fit s = act_steady k d s
steady_with plan f (entry.Leave p) d may fit s = (λ out. absurd (both_ways d.is_out fit.0 out), λ stopped. absurd (both_ways d.is_stopped fit.1 stopped))
steady_with plan f (entry.Enter p m n a) d may fit s = (λ out. absurd (both_ways d.is_out fit.0 out), λ stopped. refl)
steady_with plan f (entry.Stop p m l n by) d may fit s = (s.0, λ stopped. fit)
steady_with plan f (entry.Served c x r) d may fit s = order_steady (order_of f.plain x) d s
steady_with plan f (entry.Skip c p) d may fit s = absurd may.rule
steady_with plan f (entry.Kill c p) d may fit s = absurd may.rule
steady_with plan f (entry.Signal p r) d may fit s = absurd may.rule
steady_with plan f _ d may fit s = s

steady_step : (plan : Plan) (f : Facts) (e : Entry) → Settled plan f → May plan f e → (q : ℕ) → IsSteady (debuggee_at (note plan f e) q)
steady_step plan f e k may q =
    each (λ (d x : Debuggee). IsSteady d → IsSteady x) (λ d s. s) (λ d s. s) plan f e q
    (λ same. steady_with plan f e (debuggee_at f q) may (subst (λ (n : ℕ). Fits e (debuggee_at f n)) same (fits plan f e k may))) (k.steady q)

-- WHERE A SLICE LEAVES OR STOPS its process is interpreted.
abbrev InsideAt : Bool → Option SliceEnd → Type 0
InsideAt b (Some leaves) = b ≡ true
InsideAt b (Some (stops why)) = b ≡ true
InsideAt b _ = Unit {0}

spent_inside : (b c : Bool) → InsideAt b (if c then Some spent else None)
spent_inside b true = tt
spent_inside b false = tt

due_inside : (h : Handout) (i all : ℕ) (o : Option Why) → InsideAt true (if_due h i all o)
due_inside h i all (Some why) = refl
due_inside h i all None = spent_inside true _

enters_inside : (h : Handout) (i all : ℕ) (c : Bool) (o : Option Why) → InsideAt false (if c then Some (enters o) else if_spent h i all)
enters_inside h i all true o = tt
enters_inside h i all false o = spent_inside false _

begin_inside : (h : Handout) (i all : ℕ) (m : List ℕ) (o : Option Why) (b : Bool)
    → InsideAt b (if b then if_due h i all o else if is_among m h.modules then Some (enters o) else if_spent h i all)
begin_inside h i all m o true = due_inside h i all o
begin_inside h i all m o false = enters_inside h i all (is_among m h.modules) o

next_inside : (code : List ModuleTree) (h : Handout) (p i all : ℕ) (t : Run) (x : Next) → InsideAt h.is_interpreted (at_next code h p i all t x)
next_inside code h p i all t (acts k) = tt
next_inside code h p i all t pure = spent_inside h.is_interpreted _
next_inside code h p i all t (begins m l) = begin_inside h i all m (due code h p i t m l) h.is_interpreted

leave_inside : (b c : Bool) (o : Option SliceEnd) → InsideAt b o → InsideAt b (if b && c then Some leaves else o)
leave_inside true true o is = refl
leave_inside true false o is = is
leave_inside false c o is = is

end_inside : (code : List ModuleTree) (h : Handout) (p : ℕ) (t : Run) (i : ℕ) → InsideAt h.is_interpreted (end_at code h p t i)
end_inside code h p t i =
    let u = after_moves code h.versions i t in
    leave_inside h.is_interpreted (not (has_body h.modules u)) _ (next_inside code h p i (asked_to code h p t i) u (next u))

-- WHAT COMES
ends_come : (g : Facts) (p : ℕ) (t : Run) (end : SliceEnd) → (debuggee_at g p).is_out ≡ false → (debuggee_at g p).is_stopped ≡ false
    → InsideAt (debuggee_at g p).is_interpreted (Some end) → Comes g (end_entries p t end)
ends_come g p t leaves out goes inside = ((out, goes, inside), refl)
ends_come g p t act_next out goes inside = tt
ends_come g p t (enters None) out goes inside = ((out, goes), tt)
ends_come g p t (enters (Some why)) out goes inside = ((out, goes), (refl, refl))
ends_come g p t (stops why) out goes inside = (inside, refl)
ends_come g p t spent out goes inside = tt

ran_comes : (plan : Plan) (f : Facts) (p n c : ℕ) → Settled plan f → May plan f (entry.Ran p n c) → Comes (note plan f (entry.Ran p n c)) (coming_after plan f p n)
ran_comes plan f p n c k may =
    let rule = may.rule in
    let g = note plan f (entry.Ran p n c) in
    let d = debuggee_at f p in
    let is = ran_exact plan f p n c k.step.keeps.holds may in
    let inside = subst (InsideAt d.handout.is_interpreted) rule.slice.ends (end_inside plan.code d.handout p rule.running n) in
    subst (Comes g) (sym (coming_is plan f p n rule.running rule.end rule.lives rule.slice.ends))
    (ends_come g p (after_moves plan.code d.handout.versions n rule.running) rule.end (ap (λ (x : Debuggee). x.is_out) is)
    (ap (λ (x : Debuggee). x.is_stopped) is ∙ is_free d (k.step.each p).still rule.out d.is_stopped refl)
    (subst (λ (b : Bool). InsideAt b (Some rule.end)) ((k.steady p).0 rule.out ∙ sym (ap (λ (x : Debuggee). x.is_interpreted) is)) inside))

none_comes : (g : Facts) (es : List Entry) → es ≡ [] → Comes g es
none_comes g es none = subst (Comes g) (sym none) tt

entered_comes : (g : Facts) (p : ℕ) (es : List Entry) → (debuggee_at g p).is_interpreted ≡ true → MayStop p es → Comes g es
entered_comes g p [] inside may = tt
entered_comes g p (entry.Stop q m l n by ∷ es) inside may = (subst (λ (x : ℕ). (debuggee_at g x).is_interpreted ≡ true) may.0 inside, may.1)
entered_comes g p (_ ∷ es) inside may = absurd may

enter_comes : (plan : Plan) (f : Facts) (p : ℕ) (m n : List ℕ) (a : ℕ) → Settled plan f → May plan f (entry.Enter p m n a) → Comes (note plan f (entry.Enter p m n a)) (behind_first f.coming)
enter_comes plan f p m n a k may =
    let e = entry.Enter p m n a in
    let g = note plan f e in
    let is = exact plan f e p may (here_of plan f e k.step may (λ no. no)) in
    let same : nat_eq p p ≡ true = eq-eqb p p refl in
    let inside = ap (λ (x : Debuggee). x.is_interpreted) is ∙ ap (λ (b : Bool). (if b then debuggee_with f e (debuggee_at f p) else debuggee_at f p).is_interpreted) same in
    subst (Comes g) (sym (ap behind_first may.rule.1)) (entered_comes g p may.rule.0 inside (first_comes f e may.rule.0 may.rule.1 k.comes).1)

comes_step : (plan : Plan) (f : Facts) (e : Entry) → Settled plan f → May plan f e → Comes (note plan f e) (note plan f e).coming
comes_step plan f (entry.Ran p n c) k may = ran_comes plan f p n c k may
comes_step plan f (entry.Enter p m n a) k may = enter_comes plan f p m n a k may
comes_step plan f (entry.Leave p) k may = none_comes (note plan f (entry.Leave p)) _ (ap behind_first may.rule.1 ∙ (first_comes f (entry.Leave p) may.rule.0 may.rule.1 k.comes).1)
comes_step plan f (entry.Stop p m l n by) k may = none_comes (note plan f (entry.Stop p m l n by)) _ (ap behind_first may.rule.1 ∙ (first_comes f (entry.Stop p m l n by) may.rule.0 may.rule.1 k.comes).1)
comes_step plan f (entry.Start c p m n args) k may = none_comes (note plan f (entry.Start c p m n args)) _ may.rule.at.begin.whole
comes_step plan f (entry.Load c m v) k may = none_comes (note plan f (entry.Load c m v)) _ may.rule.at.begin.whole
comes_step plan f (entry.Skip c p) k may = absurd may.rule
comes_step plan f (entry.Kill c p) k may = absurd may.rule
comes_step plan f (entry.Expire c p) k may = absurd may.rule
comes_step plan f (entry.Lease p b) k may = none_comes (note plan f (entry.Lease p b)) _ may.rule.at.at.at.begin.whole
comes_step plan f (entry.Ask p x) k may = absurd may.rule
comes_step plan f (entry.Did p x v bytes) k may = none_comes (note plan f (entry.Did p x v bytes)) _ may.rule.at.at.at.begin.whole
comes_step plan f (entry.Took p) k may = absurd may.rule
comes_step plan f (entry.Forward p) k may = absurd may.rule
comes_step plan f (entry.Signal p r) k may = absurd may.rule
comes_step plan f (entry.Advance t) k may = none_comes (note plan f (entry.Advance t)) _ may.rule.at.at.at.at.begin.whole
comes_step plan f (entry.Trigger p m l s a applied) k may = none_comes (note plan f (entry.Trigger p m l s a applied)) _ may.rule.begin.whole
comes_step plan f (entry.Served c x r) k may = none_comes (note plan f (entry.Served c x r)) _ (elim may.rule.answer [
  | inl a ↦ a.at.begin.whole
  | inr q ↦ q.at.at.at.at.at.begin.whole
])

pub settled_step : (plan : Plan) (f : Facts) (e : Entry) → Settled plan f → May plan f e → Settled plan (note plan f e)
settled_step plan f e k may = record { step = in_step plan f e k.step may; steady = steady_step plan f e k may; comes = comes_step plan f e k may }

pub first_settled : (plan : Plan) → Settled plan (at_first plan)
first_settled plan = record { step = first_step plan; steady = none_steady; comes = tt }
  where
    none_steady : (q : ℕ) → IsSteady (debuggee_at (at_first plan) q)
    none_steady zero = (λ out. refl, λ stopped. absurd (both_ways false refl stopped))
    none_steady (suc n) = (λ out. refl, λ stopped. absurd (both_ways false refl stopped))
