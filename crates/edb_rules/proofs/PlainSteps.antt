-- What the steps of one process leave of the others.

use Rattle.std.proofs.Common.{◌≡◌, ◌⊎◌, inl, inr, ℕ, zero, suc, ◌+◌, List, [], ◌∷◌, ◌++◌, length, Option, None, Some, replicate, refl, sym, ◌∙◌, ap, subst, arith}
use Rattle.std.proofs.lemmas.Option.{same_Some, cond_some, option_and_then_some}
use Rattle.edb_lang.specs.Terms.{Datum, elements}
use Rattle.edb_lang.specs.Syntax.{ModuleTree}
use Rattle.edb_lang.specs.declared.act.ActKind.{ActKind}
use Rattle.edb_model.specs.Running.{Run, opening_call}
use Rattle.edb_model.specs.Move.{Next, acts, next, is_move}
use Rattle.edb_model.specs.Acts.{acted}
use Rattle.edb_model.specs.Procs.{numbered}
use Rattle.edb_model.specs.Plain.{Plain, running_at, with_running, with_newborn}
use Rattle.edb_model.specs.Labels.{move, moved_in, steps}
use Rattle.edb_event.specs.declared.entry.Entry.TheVariants as entry
use Rattle.edb_rules.specs.Plans.{Plan}
use Rattle.edb_rules.specs.Facts.{Facts}
use Rattle.edb_rules.specs.Notes.{note}
use Rattle.edb_rules.specs.Legal.{May}
use Rattle.edb_rules.proofs.Kept.{note_is}
use Rattle.edb_rules.proofs.Changes.{with_or}
use Rattle.edb_rules.proofs.Turning.{acts_in}

-- what another process has to do stays, where one does something else
pub other_running : (s : Plain) (p q : ℕ) (o : Option Run) → (p ≡ q → ⊥) → running_at (with_running s p o) q ≡ running_at s q
other_running s p q o not = elim (with_or None s.running p o q) [
  | inl both ↦ absurd (not both.0)
  | inr same ↦ same
]

-- the moves of process p change nothing but what it has to do
pub record MovesOne (s t : Plain) (p : ℕ) : Type 0 where
  pub procs : t.procs ≡ s.procs
  pub others : (q : ℕ) → (p ≡ q → ⊥) → running_at t q ≡ running_at s q

moves_one : (s : Plain) (p : ℕ) (o : Option Run) → MovesOne s (with_running s p o) p
moves_one s p o = record { procs = refl; others = λ q not. other_running s p q o not }

both_moves : (s t u : Plain) (p : ℕ) → MovesOne s t p → MovesOne t u p → MovesOne s u p
both_moves s t u p a b = record { procs = b.procs ∙ a.procs; others = λ q not. b.others q not ∙ a.others q not }

pub moves_ones : (code : List ModuleTree) (s u : Plain) (p n : ℕ) → steps code s (replicate n (move p)) ≡ Some u → MovesOne s u p
moves_ones code s u p zero e = subst (λ (x : Plain). MovesOne s x p) (same_Some s u e) (record { procs = refl; others = λ q not. refl })
moves_ones code s u p (suc n) e =
    option_and_then_some _ _ _ e (λ v first rest.
    option_and_then_some _ _ _ first (λ r living h.
    let was : moved_in code s p r ≡ v = (cond_some (is_move (next r)) _ _ h).1 in
    both_moves s v u p (subst (λ (x : Plain). MovesOne s x p) was (moves_one s p _)) (moves_ones code v u p n rest)))

-- an act is the one that is next for its process
pub did_act : (plan : Plan) (f : Facts) (p : ℕ) (k : ActKind) (v bytes : List ℕ) (may : May plan f (entry.Did p k v bytes))
    → acted f.plain p (acts_in f p may.rule.act may.rule.turn).ready.running (acts k) ≡ Some may.plain
did_act plan f p k v bytes may =
    let told = acts_in f p may.rule.act may.rule.turn in
    let is_next : next told.ready.running ≡ acts k = told.is_next ∙ ap acts (sym may.rule.kind) in
    option_and_then_some _ _ _ may.enabled (λ u first rest.
    option_and_then_some _ _ _ first (λ r living h.
    let same : r ≡ told.ready.running = same_Some r told.ready.running (sym living ∙ told.ready.lives) in
    let here : acted f.plain p told.ready.running (next told.ready.running) ≡ Some u = subst (λ (x : Run). acted f.plain p x (next x) ≡ Some u) same h in
    sym (ap (λ (x : Next). acted f.plain p told.ready.running x) is_next) ∙ (here ∙ rest)))

-- a start makes a process that does the call
pub start_makes : (plan : Plan) (f : Facts) (c p : ℕ) (m n : List ℕ) (args : Datum) (may : May plan f (entry.Start c p m n args))
    → (note plan f (entry.Start c p m n args)).plain ≡ with_newborn f.plain (opening_call m n (elements args))
start_makes plan f c p m n args may =
    note_is plan f (entry.Start c p m n args) may
    ∙ option_and_then_some _ _ _ may.enabled (λ u first rest.
    sym ((cond_some _ (with_newborn f.plain (opening_call m n (elements args))) u first).1 ∙ same_Some u may.plain rest))

-- what is at a number of a list with one more behind
pub pushed : {A : Type 0} (d : A) (xs : List A) (x : A) (q n : ℕ) → length xs ≡ n
    → ((q ≡ n + 1) × (numbered d (xs ++ x ∷ []) q ≡ x)) ⊎ ((q ≡ n + 1 → ⊥) × (numbered d (xs ++ x ∷ []) q ≡ numbered d xs q))
pushed d xs x zero n same = inr (λ e. omega arith, refl)
pushed d [] x (suc zero) n same = inl (omega arith, refl)
pushed d [] x (suc (suc q)) n same = inr (λ e. omega arith, refl)
pushed d (y ∷ ys) x (suc zero) n same = inr (λ e. omega arith, refl)
pushed d (y ∷ ys) x (suc (suc q)) zero same = absurd (omega arith)
pushed d (y ∷ ys) x (suc (suc q)) (suc n) same = elim (pushed d ys x (suc q) n (omega arith)) [
  | inl both ↦ (let at = both.0 in inl (omega arith, both.1))
  | inr both ↦ inr (λ e. both.0 (omega arith), both.1)
]
