-- In a legal journal no Body's level is above the weight.

use Rattle.std.proofs.Common.{◌≡◌, ℕ, zero, suc, ◌+◌, ◌≤◌, nat_lt, List, [], ◌∷◌, length, Option, None, Some, refl, sym, ◌∙◌, subst, arith}
use Rattle.std.specs.List.{All}
use Rattle.std.proofs.lemmas.List.{length-replicate}
use Rattle.std.proofs.lemmas.List.Elements.{All-nil, All-push, All-set, All-weaker}
use Rattle.std.proofs.lemmas.Option.{none-some, same_Some, cond_some, option_and_then_some}
use Rattle.edb_lang.specs.Terms.{Datum, elements}
use Rattle.edb_lang.specs.Syntax.{ModuleTree}
use Rattle.edb_lang.specs.declared.act.ActKind.TheVariants as kind
use Rattle.edb_model.specs.Running.{Run, opening_call}
use Rattle.edb_model.specs.Move.{Next, acts, begins, pure, next, is_move, moved, answered}
use Rattle.edb_model.specs.Acts.{true_term, exit_reason, acted}
use Rattle.edb_model.specs.Plain.{Plain}
use Rattle.edb_model.specs.Plain as model
use Rattle.edb_model.specs.Labels.{Label, move, act, signal, advance, start, load, skip, kill, expire, moved_in, step, steps}
use Rattle.edb_model.specs.Procs.{most_processes}
use Rattle.edb_eval.specs.Levels.{highest}
use Rattle.edb_eval.proofs.LevelLaws.{highest-opening, highest-moved, highest-answered}
use Rattle.edb_event.specs.declared.entry.Entry.{Entry}
use Rattle.edb_event.specs.declared.entry.Entry.TheVariants as entry
use Rattle.edb_event.specs.Weights.{weight_of}
use Rattle.edb_rules.specs.Erasure.{labels_of}
use Rattle.edb_rules.specs.Plans.{Plan}
use Rattle.edb_rules.specs.Facts.{Facts, at_first}
use Rattle.edb_rules.specs.Notes.{note, facts}
use Rattle.edb_rules.specs.Legal.{May, Legal}
use Rattle.edb_rules.proofs.Entries.{kept_from}
use Rattle.edb_rules.proofs.Kept.{note_is}
use Rattle.edb_rules.proofs.Listed.{each_or}

-- what a process has to do has no level above this
abbrev IsShallow : ℕ → Option Run → Type 0
IsShallow n q = (t : Run) → q ≡ Some t → highest t ≤ n

abbrev AreShallow : ℕ → Plain → Type 0
AreShallow n s = All (IsShallow n) s.running

runs : (n : ℕ) (q : Option Run) (t : Run) → q ≡ Some t → highest t ≤ n → IsShallow n q
runs n q t is le u e = subst (λ (x : Run). highest x ≤ n) (same_Some t u (sym is ∙ e)) le

rests : (n : ℕ) (q : Option Run) → q ≡ None → IsShallow n q
rests n q is u e = absurd (none-some u (sym is ∙ e))

shallow_at : (n : ℕ) (s : Plain) → AreShallow n s → (p : ℕ) → IsShallow n (model.running_at s p)
shallow_at n s all zero = rests n None refl
shallow_at n s all (suc k) = each_or (IsShallow n) s.running None (rests n None refl) all k

-- a level that is kept to is kept to by a greater one
shallower : (m n : ℕ) → m ≤ n → (s : Plain) → AreShallow m s → AreShallow n s
shallower m n le s all =
    All-weaker (IsShallow m) (IsShallow n) (λ q here t e. let at = here t e in omega (arith, at, le)) s.running all

with_shallow : (n : ℕ) (s : Plain) (p : ℕ) (q : Option Run) → IsShallow n q → AreShallow n s → AreShallow n (model.with_running s p q)
with_shallow n s zero q here all = all
with_shallow n s (suc k) q here all = All-set (IsShallow n) s.running k q here all

same_shallow : (n : ℕ) (s t : Plain) → s ≡ t → AreShallow n s → AreShallow n t
same_shallow n s t e all = subst (AreShallow n) e all

-- an act raises no level
acted_shallow : (n : ℕ) (s t : Plain) (p : ℕ) (u : Run) (x : Next) → highest u ≤ n → AreShallow n s
    → acted s p u x ≡ Some t → AreShallow n t
acted_shallow n s t p u (acts kind.Print) here all e =
    let q : Option Run = Some (answered true_term u) in
    let least = highest-answered true_term u in
    same_shallow n _ t (same_Some _ t e) (with_shallow n s p q (runs n q (answered true_term u) refl (omega (arith, least, here))) all)
acted_shallow n s t p u (acts kind.End) here all e =
    same_shallow n (model.ended s p (exit_reason u)) t (same_Some _ t e) (with_shallow n s p None (rests n None refl) all)
acted_shallow n s t p u (acts _) here all e = absurd (none-some t e)
acted_shallow n s t p u (begins m l) here all e = absurd (none-some t e)
acted_shallow n s t p u pure here all e = absurd (none-some t e)

moved_shallow : (code : List ModuleTree) (n : ℕ) (s : Plain) (p : ℕ) (t : Run) → highest t ≤ n → AreShallow (n + 1) s
    → AreShallow (n + 1) (moved_in code s p t)
moved_shallow code n s p t here all =
    let q : Option Run = Some (moved code s.versions t) in
    let least = highest-moved code s.versions t in
    with_shallow (n + 1) s p q (runs (n + 1) q (moved code s.versions t) refl (omega (arith, least, here))) all

started_shallow : (n : ℕ) (s : Plain) (m f : List ℕ) (args : List Datum) → AreShallow n s
    → AreShallow n (model.with_newborn s (opening_call m f args))
started_shallow n s m f args all =
    let q : Option Run = Some (opening_call m f args) in
    let none = highest-opening m f args in
    All-push (IsShallow n) s.running q all (runs n q (opening_call m f args) refl (omega (arith, none)))

-- a step raises the levels by one at most
step_shallow : (code : List ModuleTree) (n : ℕ) (s t : Plain) (l : Label) → AreShallow n s
    → step code s l ≡ Some t → AreShallow (n + 1) t
step_shallow code n s t (move p) all e =
    option_and_then_some _ _ _ e (λ r living h.
    same_shallow (n + 1) (moved_in code s p r) t (cond_some (is_move (next r)) (moved_in code s p r) t h).1
    (moved_shallow code n s p r (shallow_at n s all p r living) (shallower n (n + 1) (omega arith) s all)))
step_shallow code n s t (act p) all e =
    option_and_then_some _ _ _ e (λ r living h.
    shallower n (n + 1) (omega arith) t (acted_shallow n s t p r (next r) (shallow_at n s all p r living) all h))
step_shallow code n s t signal all e = absurd (none-some t e)
step_shallow code n s t (advance c) all e = absurd (none-some t e)
step_shallow code n s t (skip who) all e = absurd (none-some t e)
step_shallow code n s t (kill who) all e = absurd (none-some t e)
step_shallow code n s t (expire who) all e = absurd (none-some t e)
step_shallow code n s t (load m k) all e =
    same_shallow (n + 1) _ t (cond_some _ _ t e).1 (shallower n (n + 1) (omega arith) s all)
step_shallow code n s t (start m f args) all e =
    same_shallow (n + 1) _ t (cond_some (nat_lt (length s.running) most_processes) _ t e).1
    (started_shallow (n + 1) s m f (elements args) (shallower n (n + 1) (omega arith) s all))

steps_shallow : (code : List ModuleTree) (n : ℕ) (s t : Plain) (ls : List Label) → AreShallow n s
    → steps code s ls ≡ Some t → AreShallow (n + length ls) t
steps_shallow code n s t [] all e = same_shallow (n + 0) s t (same_Some s t e) (shallower n (n + 0) (omega arith) s all)
steps_shallow code n s t (l ∷ ls) all e =
    option_and_then_some _ _ _ e (λ u first rest.
    shallower ((n + 1) + length ls) (n + length (l ∷ ls)) (omega arith) t
    (steps_shallow code (n + 1) u t ls (step_shallow code n s u l all first) rest))

-- an entry weighs as much as the steps that it stands for
as_heavy : (e : Entry) → length (labels_of e) ≤ weight_of e
as_heavy (entry.Start c p m n args) = omega arith
as_heavy (entry.Load c m v) = omega arith
as_heavy (entry.Skip con who) = omega arith
as_heavy (entry.Kill con who) = omega arith
as_heavy (entry.Expire con who) = omega arith
as_heavy (entry.Ran p n c) = let same = length-replicate n (move p) in omega (arith, same)
as_heavy (entry.Did p k v bytes) = omega arith
as_heavy (entry.Signal p r) = omega arith
as_heavy (entry.Advance t) = omega arith
as_heavy _ = omega arith

note_shallow : (plan : Plan) (f : Facts) (e : Entry) → AreShallow f.weight f.plain → May plan f e
    → AreShallow (note plan f e).weight (note plan f e).plain
note_shallow plan f e all may =
    let heavy = as_heavy e in
    same_shallow (f.weight + weight_of e) may.plain (note plan f e).plain (sym (note_is plan f e may))
    (shallower (f.weight + length (labels_of e)) (f.weight + weight_of e) (omega (arith, heavy)) may.plain
    (steps_shallow plan.code f.weight f.plain may.plain (labels_of e) all may.enabled))

pub shallow : (plan : Plan) (journal : List Entry) (p : ℕ) (t : Run) → Legal plan journal
    → (model.running_at (facts plan journal).plain p) ≡ Some t → highest t ≤ (facts plan journal).weight
shallow plan journal p t legal lives =
    shallow_at (facts plan journal).weight (facts plan journal).plain
    (kept_from plan (λ f. AreShallow f.weight f.plain) (note_shallow plan) (at_first plan) journal (All-nil (IsShallow 0)) legal) p t lives
