-- What is known of each process behind an entry.

use Rattle.std.proofs.Common.{◌≡◌, ◌⊎◌, inl, inr, ℕ, zero, suc, ◌<◌, ◌≤◌, Bool, true, false, if◌then◌else◌, nat_lt, is_some, List, [], ◌∷◌, ◌++◌, map, length, Some, slice_index_or, slice_set, refl, sym, ◌∙◌, ap, subst, arith}
use Rattle.edb_lang.specs.declared.act.ActKind.{ActKind}
use Rattle.edb_lang.specs.declared.act.ActKind.TheVariants as kind
use Rattle.edb_model.specs.Procs.{numbered, with_numbered}
use Rattle.edb_event.specs.declared.entry.Entry.{Entry}
use Rattle.edb_event.specs.declared.entry.Entry.TheVariants as entry
use Rattle.edb_rules.specs.Plans.{Plan}
use Rattle.edb_rules.specs.Facts.{Debuggee, Facts, unseen, debuggee_at}
use Rattle.edb_frames.specs.declared.mode.Mode.{Mode}
use Rattle.edb_frames.specs.declared.mode.Mode.TheVariants.{Step}
use Rattle.edb_rules.specs.Orders.{Order, resumes, halts, no_order, with_order}
use Rattle.edb_rules.specs.Notes.{process_in, debuggee_with, ended_debuggee, acted_debuggee, crossed, with_spawned, with_changed, plain_with, note}

-- What is at a number is what was put there, or it is as before.
shifted : (n m : ℕ) (A B : Type 0) → ((n ≡ m) × A) ⊎ B → ((suc n ≡ suc m) × A) ⊎ B
shifted n m A B (inl both) = inl (ap suc both.0, both.1)
shifted n m A B (inr same) = inr same

set_or : {A : Type 0} (d : A) (xs : List A) (n m : ℕ) (x : A)
    → ((n ≡ m) × (slice_index_or (slice_set xs n x) m d ≡ x)) ⊎ (slice_index_or (slice_set xs n x) m d ≡ slice_index_or xs m d)
set_or d [] n m x = inr refl
set_or d (y ∷ ys) zero zero x = inl (refl, refl)
set_or d (y ∷ ys) zero (suc m) x = inr refl
set_or d (y ∷ ys) (suc n) zero x = inr refl
set_or d (y ∷ ys) (suc n) (suc m) x = shifted n m _ _ (set_or d ys n m x)

pub with_or : {A : Type 0} (d : A) (xs : List A) (p : ℕ) (x : A) (q : ℕ)
    → ((p ≡ q) × (numbered d (with_numbered xs p x) q ≡ x)) ⊎ (numbered d (with_numbered xs p x) q ≡ numbered d xs q)
with_or d xs zero x q = inr refl
with_or d xs (suc n) x zero = inr refl
with_or d xs (suc n) x (suc m) = shifted n m _ _ (set_or d xs n m x)

-- what is put at a number that is there
set_within : {A : Type 0} (d : A) (xs : List A) (n : ℕ) (x : A) → n < length xs → slice_index_or (slice_set xs n x) n d ≡ x
set_within d [] n x less = absurd (omega arith)
set_within d (y ∷ ys) zero x less = refl
set_within d (y ∷ ys) (suc n) x less = set_within d ys n x (omega arith)

pub with_within : {A : Type 0} (d : A) (xs : List A) (p : ℕ) (x : A) → 1 ≤ p → p ≤ length xs → numbered d (with_numbered xs p x) p ≡ x
with_within d xs zero x least less = absurd (omega arith)
with_within d xs (suc n) x least less = set_within d xs n x (omega arith)

-- A new process is as one that nothing is known of.
push_index : (ds : List Debuggee) (m : ℕ) → slice_index_or (ds ++ unseen ∷ []) m unseen ≡ slice_index_or ds m unseen
push_index [] zero = refl
push_index [] (suc m) = refl
push_index (d ∷ ds) zero = refl
push_index (d ∷ ds) (suc m) = push_index ds m

pub push_same : (ds : List Debuggee) (q : ℕ) → numbered unseen (ds ++ unseen ∷ []) q ≡ numbered unseen ds q
push_same ds zero = refl
push_same ds (suc m) = push_index ds m

grown_same : (b : Bool) (ds : List Debuggee) (q : ℕ) → numbered unseen (if b then ds ++ unseen ∷ [] else ds) q ≡ numbered unseen ds q
grown_same true ds q = push_same ds q
grown_same false ds q = refl

pub spawned_same : (k : ActKind) (n : ℕ) (ds : List Debuggee) (q : ℕ) → numbered unseen (with_spawned k n ds) q ≡ numbered unseen ds q
spawned_same kind.Spawn n ds q = grown_same (nat_lt (length ds) n) ds q
spawned_same _ n ds q = refl

-- A load crosses what is known of each process.
abbrev pub IsKept : Debuggee → Debuggee → Type 0
IsKept d e = (e ≡ d) ⊎ (e ≡ crossed d)

map_kept : (ds : List Debuggee) (m : ℕ) → IsKept (slice_index_or ds m unseen) (slice_index_or (map crossed ds) m unseen)
map_kept [] m = inl refl
map_kept (d ∷ ds) zero = inr refl
map_kept (d ∷ ds) (suc m) = map_kept ds m

crossed_kept : (ds : List Debuggee) (q : ℕ) → IsKept (numbered unseen ds q) (numbered unseen (map crossed ds) q)
crossed_kept ds zero = inl refl
crossed_kept ds (suc m) = map_kept ds m

-- What is known of process q behind an entry is what the entry makes of it, or it stays but for a load.
abbrev pub Changed : Facts → Entry → ℕ → Debuggee → Type 0
Changed f e q d = ((process_in e ≡ q) × (d ≡ debuggee_with f e (debuggee_at f q))) ⊎ IsKept (debuggee_at f q) d

by_or : (f : Facts) (e : Entry) (q : ℕ) (d : Debuggee) → d ≡ numbered unseen (with_changed f e) q → Changed f e q d
by_or f e q d is = elim (with_or unseen f.debuggees (process_in e) (debuggee_with f e (debuggee_at f (process_in e))) q) [
  | inl both ↦ inl (both.0, is ∙ (both.1 ∙ ap (λ (n : ℕ). debuggee_with f e (debuggee_at f n)) both.0))
  | inr same ↦ inr (inl (is ∙ same))
]

pub changed_or : (plan : Plan) (f : Facts) (e : Entry) (q : ℕ) → Changed f e q (debuggee_at (note plan f e) q)
changed_or plan f (entry.Start c p m n args) q = inr (inl (push_same f.debuggees q))
changed_or plan f (entry.Load c m v) q = inr (crossed_kept f.debuggees q)
changed_or plan f (entry.Did p k v bytes) q =
    by_or f (entry.Did p k v bytes) q (debuggee_at (note plan f (entry.Did p k v bytes)) q)
    (spawned_same k (length (plain_with plan f.plain (entry.Did p k v bytes)).running) (with_changed f (entry.Did p k v bytes)) q)
changed_or plan f (entry.Lease p b) q = by_or f (entry.Lease p b) q _ refl
changed_or plan f (entry.Ran p n c) q = by_or f (entry.Ran p n c) q _ refl
changed_or plan f (entry.Ask p k) q = by_or f (entry.Ask p k) q _ refl
changed_or plan f (entry.Took p) q = by_or f (entry.Took p) q _ refl
changed_or plan f (entry.Forward p) q = by_or f (entry.Forward p) q _ refl
changed_or plan f (entry.Leave p) q = by_or f (entry.Leave p) q _ refl
changed_or plan f (entry.Enter p m n a) q = by_or f (entry.Enter p m n a) q _ refl
changed_or plan f (entry.Signal p r) q = by_or f (entry.Signal p r) q _ refl
changed_or plan f (entry.Advance t) q = by_or f (entry.Advance t) q _ refl
changed_or plan f (entry.Stop p m l n by) q = by_or f (entry.Stop p m l n by) q _ refl
changed_or plan f (entry.Trigger p m l s a applied) q = by_or f (entry.Trigger p m l s a applied) q _ refl
changed_or plan f (entry.Served c x r) q = by_or f (entry.Served c x r) q _ refl
changed_or plan f (entry.Skip c p) q = by_or f (entry.Skip c p) q _ refl
changed_or plan f (entry.Kill c p) q = by_or f (entry.Kill c p) q _ refl
changed_or plan f (entry.Expire c p) q = by_or f (entry.Expire c p) q _ refl

-- So what holds between what is known before and behind an entry, where it holds of the process in it, holds of each.
module _ (R : Debuggee → Debuggee → Type 0) (same : (d : Debuggee) → R d d) (cross : (d : Debuggee) → R d (crossed d)) where
  kept_is : (d e : Debuggee) → IsKept d e → R d e
  kept_is d e (inl is) = subst (R d) (sym is) (same d)
  kept_is d e (inr is) = subst (R d) (sym is) (cross d)

  is_framed : (f : Facts) (e : Entry) (q : ℕ) (d : Debuggee) → (process_in e ≡ q → R (debuggee_at f q) (debuggee_with f e (debuggee_at f q))) → Changed f e q d → R (debuggee_at f q) d
  is_framed f e q d here (inl both) = subst (R (debuggee_at f q)) (sym both.1) (here both.0)
  is_framed f e q d here (inr kept) = kept_is (debuggee_at f q) d kept

  -- what is known of the process in the entry changes so
  pub each : (plan : Plan) (f : Facts) (e : Entry) (q : ℕ) → (process_in e ≡ q → R (debuggee_at f q) (debuggee_with f e (debuggee_at f q)))
      → R (debuggee_at f q) (debuggee_at (note plan f e) q)
  each plan f e q here = is_framed f e q (debuggee_at (note plan f e) q) here (changed_or plan f e q)

-- an entry of another process leaves what is known of this one, but for a load
pub other_kept : (plan : Plan) (f : Facts) (e : Entry) (q : ℕ) → (process_in e ≡ q → ⊥) → IsKept (debuggee_at f q) (debuggee_at (note plan f e) q)
other_kept plan f e q not = by (changed_or plan f e q)
  where
    by : Changed f e q (debuggee_at (note plan f e) q) → IsKept (debuggee_at f q) (debuggee_at (note plan f e) q)
    by (inl both) = absurd (not both.0)
    by (inr kept) = kept

-- An order changes nothing but whether a process is stopped and how it goes on.
pub order_keeps : {A : Type 0} (h : Debuggee → A) → ((d : Debuggee) (m : Mode) → h (record d { is_stopped = false; order = Some m }) ≡ h d)
    → ((d : Debuggee) (m : Mode) → h (record d { order = Some m }) ≡ h d) → (o : Order) (d : Debuggee) → h (with_order o d) ≡ h d
order_keeps h resumed ordered (resumes m) d = by d.is_stopped
  where
    by : (b : Bool) → h (if b then record d { is_stopped = false; order = Some m } else d) ≡ h d
    by true = resumed d m
    by false = refl
order_keeps h resumed ordered halts d = by d.is_stopped
  where
    by : (b : Bool) → h (if b then d else record d { order = Some Step }) ≡ h d
    by true = refl
    by false = ordered d Step
order_keeps h resumed ordered no_order d = refl

-- An act changes nothing but what is asked for and done, unless it ends its process.
pub act_keeps : {A : Type 0} (h : Debuggee → A) → ((d : Debuggee) (b : Bool) → h (record d { is_done = b }) ≡ h d) → ((d : Debuggee) → h (ended_debuggee d) ≡ h d)
    → (k : ActKind) (d : Debuggee) → h (acted_debuggee k d) ≡ h d
act_keeps h done ended kind.End d = ended d
act_keeps h done ended kind.Wait d = refl
act_keeps h done ended _ d = done d (is_some d.asked)
