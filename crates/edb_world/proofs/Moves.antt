-- The moves of a slice are steps of a plain run, which change one process alone.

use Rattle.std.proofs.Common.{◌≡◌, ℕ, zero, suc, ◌+◌, ◌-◌, ◌<◌, ◌≤◌, max, nat_eq, Bool, true, false, if◌then◌else◌, ◌&&◌, List, [], ◌∷◌, ◌++◌, Option, None, Some, replicate, slice_index_or, slice_set, refl, sym, ◌∙◌, ap, subst, arith}
use Rattle.std.specs.Option.{option_and_then}
use Rattle.std.proofs.lemmas.Option.{none-some}
use Rattle.edb_lang.specs.Syntax.{ModuleTree}
use Rattle.edb_model.specs.Running.{Run}
use Rattle.edb_model.specs.Move.{next, is_move, moved}
use Rattle.edb_model.specs.Plain.{Plain}
use Rattle.edb_model.specs.Plain as model
use Rattle.edb_model.specs.Labels.{Label, move, moved_in, step, steps}
use Rattle.edb_event.specs.declared.entry.Entry.TheVariants as entry
use Rattle.edb_model.specs.Procs.{with_numbered}
use Rattle.edb_rules.specs.Facts.{Handout, Debuggee, debuggee_at}
use Rattle.edb_rules.specs.Slices.{SliceEnd, asked_to, after_moves, IsSlice}
use Rattle.edb_rules.proofs.Journals.{steps_append}
use Rattle.edb_world.proofs.Ends.{goes_move}
use Rattle.edb_world.specs.declared.slices.Slice.{Slice}
use Rattle.edb_world.specs.Known.{Known, noted, coming, running_at}
use Rattle.edb_world.specs.Turns.{MakesSlice, IsSliceOf}

-- a process that is put in its place, and one put there after another
here : (qs : List (Option Run)) (n : ℕ) (q : Option Run) (t : Run) → (slice_index_or qs n None) ≡ Some t → slice_index_or (slice_set qs n q) n None ≡ q
here [] n q t e = absurd (none-some t e)
here (x ∷ xs) zero q t e = refl
here (x ∷ xs) (suc n) q t e = here xs n q t e

twice : (qs : List (Option Run)) (n : ℕ) (q r : Option Run) → slice_set (slice_set qs n q) n r ≡ slice_set qs n r
twice [] n q r = refl
twice (x ∷ xs) zero q r = refl
twice (x ∷ xs) (suc n) q r = ap (λ (ys : List (Option Run)). x ∷ ys) (twice xs n q r)

same : (qs : List (Option Run)) (n : ℕ) → slice_set qs n (slice_index_or qs n None) ≡ qs
same [] n = refl
same (x ∷ xs) zero = refl
same (x ∷ xs) (suc n) = ap (λ (ys : List (Option Run)). x ∷ ys) (same xs n)

pub with_here : (s : Plain) (p : ℕ) (q : Option Run) (t : Run) → (model.running_at s p) ≡ Some t → model.running_at (model.with_running s p q) p ≡ q
with_here s zero q t e = absurd (none-some t e)
with_here s (suc n) q t e = here s.running n q t e

with_twice : (s : Plain) (p : ℕ) (q r : Option Run) → model.with_running (model.with_running s p q) p r ≡ model.with_running s p r
with_twice s zero q r = refl
with_twice s (suc n) q r = ap (λ (qs : List (Option Run)). record s { running = qs }) (twice s.running n q r)

with_same : (s : Plain) (p : ℕ) → model.with_running s p (model.running_at s p) ≡ s
with_same s zero = refl
with_same s (suc n) = ap (λ (qs : List (Option Run)). record s { running = qs }) (same s.running n)

with_versions : (s : Plain) (p : ℕ) (q : Option Run) → (model.with_running s p q).versions ≡ s.versions
with_versions s zero q = refl
with_versions s (suc n) q = refl

-- the state in which process p does this
abbrev pub doing : Plain → ℕ → Run → Plain
doing s p t = model.with_running s p (Some t)

doing_same : (s : Plain) (p : ℕ) (t : Run) → (model.running_at s p) ≡ Some t → doing s p t ≡ s
doing_same s p t e =
    ap (λ (o : Option Run). model.with_running s p (o)) (sym e) ∙ with_same s p

pub doing_at : (s : Plain) (p : ℕ) (t u : Run) → (model.running_at s p) ≡ Some t → model.running_at (doing s p u) p ≡ Some u
doing_at s p t u e = with_here s p (Some u) t e

doing_moved : (code : List ModuleTree) (s : Plain) (p : ℕ) (t u : Run) → (model.running_at s p) ≡ Some t
    → moved_in code (doing s p u) p u ≡ doing s p (moved code s.versions u)
doing_moved code s p t u e =
    ap (λ (vs : List (List ℕ × ℕ)). model.with_running (doing s p u) p (Some (moved code vs u))) (with_versions s p (Some u))
    ∙ with_twice s p (Some u) (Some (moved code s.versions u))

if_move : (b : Bool) (x : Plain) → b ≡ true → (if b then Some x else None) ≡ Some x
if_move true x h = refl
if_move false x h = cc

one_step : (code : List ModuleTree) (s : Plain) (p : ℕ) (t u : Run) → (model.running_at s p) ≡ Some t → is_move (next u) ≡ true
    → step code (doing s p u) (move p) ≡ Some (doing s p (moved code s.versions u))
one_step code s p t u e h =
    ap (λ (o : Option Run). option_and_then (λ (x : Run). if is_move (next x) then Some (moved_in code (doing s p u) p x) else None) o)
    (doing_at s p t u e)
    ∙ (if_move (is_move (next u)) (moved_in code (doing s p u) p u) h
    ∙ ap (λ (x : Plain). Some x) (doing_moved code s p t u e))

replicate_more : (n : ℕ) (l : Label) → replicate (suc n) l ≡ replicate n l ++ l ∷ []
replicate_more zero l = refl
replicate_more (suc n) l = ap (λ (ls : List Label). l ∷ ls) (replicate_more n l)

-- so many pure moves of a process
pub moves_are_steps : (code : List ModuleTree) (s : Plain) (p : ℕ) (t : Run) (n : ℕ) → (model.running_at s p) ≡ Some t
    → ((i : ℕ) → i < n → is_move (next (after_moves code s.versions i t)) ≡ true)
    → steps code s (replicate n (move p)) ≡ Some (doing s p (after_moves code s.versions n t))
moves_are_steps code s p t zero e h = ap (λ (x : Plain). Some x) (sym (doing_same s p t e))
moves_are_steps code s p t (suc n) e h =
    let before = moves_are_steps code s p t n e (λ i lt. h i (omega arith)) in
    let last : step code (doing s p (after_moves code s.versions n t)) (move p) ≡ Some (doing s p (after_moves code s.versions (suc n) t))
    = one_step code s p t (after_moves code s.versions n t) e (h n (omega arith)) in
    ap (steps code s) (replicate_more n (move p))
    ∙ (steps_append code s (doing s p (after_moves code s.versions n t)) (replicate n (move p)) (move p ∷ []) before
    ∙ ap (λ (o : Option Plain). option_and_then (λ (u : Plain). steps code u []) o) last)

-- so a slice is steps of a plain run
pub slice_steps : (code : List ModuleTree) (s : Plain) (h : Handout) (p n c : ℕ) (t : Run) (end : SliceEnd) → model.running_at s p ≡ Some t → h.versions ≡ s.versions
    → IsSlice code h p t n c end → steps code s (replicate n (move p)) ≡ Some (doing s p (after_moves code s.versions n t))
slice_steps code s h p n c t end lives current slice =
    moves_are_steps code s p t n lives
    (λ i less. subst (λ (vs : List (List ℕ × ℕ)). is_move (next (after_moves code vs i t)) ≡ true) current
    (goes_move code h p i (asked_to code h p t i) (after_moves code h.versions i t) (slice.goes i less)))

-- what is known of a process that made n moves
abbrev pub ran_with : Debuggee → ℕ → Debuggee
ran_with d n = record d { is_out = false; is_resumed = d.is_resumed && nat_eq n 0 }

-- what is known once process p, which did t, made n moves
abbrev pub ran : Known → ℕ → Run → ℕ → ℕ → Known
ran k p t n w = record k {
  facts = record k.facts {
    debuggees = with_numbered k.facts.debuggees p (ran_with (debuggee_at k.facts p) n);
    plain = doing k.facts.plain p (after_moves k.plan.code k.facts.plain.versions n t);
    coming = [];
    weight = w;
  };
}

pub ran_noted : (k : Known) (p : ℕ) (t : Run) (n w : ℕ) (end : SliceEnd) → running_at k p ≡ Some t
    → (debuggee_at k.facts p).handout.versions ≡ k.facts.plain.versions → k.facts.has_quit ≡ false
    → IsSlice k.plan.code (debuggee_at k.facts p).handout p t n 0 end
    → w ≡ k.facts.weight + max 1 (n + 0)
    → ran k p t n w ≡ coming [] (noted k (entry.Ran p n 0))
ran_noted k p t n w end lives current open_ slice heavier =
    rw (heavier, slice_steps k.plan.code k.facts.plain (debuggee_at k.facts p).handout p n 0 t end lives current slice, open_) refl

-- the same by what stands at the process's place: what it is before and after, and what is known of it
placed : (k : Known) (p : ℕ) (q : Option Run) (d : Debuggee) (w : ℕ) → 1 ≤ p
    → record k {
      facts = record k.facts {
        debuggees = slice_set k.facts.debuggees (p - 1) d;
        plain = record k.facts.plain { running = slice_set k.facts.plain.running (p - 1) q };
        coming = [];
        weight = w;
      };
    }
    ≡ record k { facts = record k.facts { debuggees = with_numbered k.facts.debuggees p d; plain = model.with_running k.facts.plain p q; coming = []; weight = w } }
placed k zero q d w some = absurd (omega (arith, some))
placed k (suc n) q d w some = let e : suc n - 1 ≡ n = omega arith in rw e refl

pub slice_at : (k new : Known) (p : ℕ) (t : Run) (s : Slice) (w : ℕ) (code : List ModuleTree) (d e : Debuggee) (r : Option Run)
    → 1 ≤ p → running_at k p ≡ Some t → debuggee_at k.facts p ≡ d → code ≡ k.plan.code → (debuggee_at k.facts p).handout.versions ≡ k.facts.plain.versions
    → k.facts.has_quit ≡ false → MakesSlice code d.handout p t s
    → r ≡ Some (after_moves code d.handout.versions s.moves t)
    → e ≡ ran_with d s.moves
    → w ≡ k.facts.weight + max 1 (s.moves + 0)
    → new ≡ record k {
      facts = record k.facts {
        debuggees = slice_set k.facts.debuggees (p - 1) e;
        plain = record k.facts.plain { running = slice_set k.facts.plain.running (p - 1) r };
        coming = [];
        weight = w;
      };
    }
    → IsSliceOf k new p s
slice_at k new p t s w code d e r some lives known code_is current open_ made process debuggee heavier is =
    let made_here : MakesSlice k.plan.code (debuggee_at k.facts p).handout p t s = rw (← code_is, known) made in
    let process_here : r ≡ Some (after_moves k.plan.code k.facts.plain.versions s.moves t)
    = process
    ∙ (ap (λ (x : Debuggee). Some (after_moves code x.handout.versions s.moves t)) (sym known)
    ∙ (ap (λ (vs : List (List ℕ × ℕ)). Some (after_moves code vs s.moves t)) current
    ∙ ap (λ (c : List ModuleTree). Some (after_moves c k.facts.plain.versions s.moves t)) code_is)) in
    let debuggee_here : e ≡ ran_with (debuggee_at k.facts p) s.moves = debuggee ∙ ap (λ (x : Debuggee). ran_with x s.moves) (sym known) in
    record {
      running = t;
      lives = lives;
      end = made_here.0;
      slice = made_here.1;
      told = made_here.2;
      state = is
          ∙ (placed k p r e w some
          ∙ (ap (λ (q : Option Run). record k { facts = record k.facts { debuggees = with_numbered k.facts.debuggees p e; plain = model.with_running k.facts.plain p q; coming = []; weight = w } }) process_here
          ∙ (ap (λ (x : Debuggee). record k { facts = record k.facts { debuggees = with_numbered k.facts.debuggees p x; plain = doing k.facts.plain p (after_moves k.plan.code k.facts.plain.versions s.moves t); coming = []; weight = w } }) debuggee_here
          ∙ ran_noted k p t s.moves w made_here.0 lives current open_ made_here.1 heavier)));
    }
