-- In a legal journal the versions are the first ones, and what the debugger knows lists each process.

use Rattle.std.proofs.Common.{◌≡◌, ◌⊎◌, inl, inr, ℕ, zero, suc, ◌+◌, ◌<◌, Bool, true, false, if◌then◌else◌, nat_lt, List, [], ◌∷◌, length, Option, None, Some, unwrap_or, length-append, refl, sym, ◌∙◌, ap, subst, arith}
use Rattle.std.specs.Option.{option_and_then}
use Rattle.std.proofs.lemmas.Bool.{both_ways, ltb-true}
use Rattle.std.proofs.lemmas.List.{length-set}
use Rattle.std.proofs.lemmas.Option.{none-some}
use Rattle.edb_lang.specs.declared.act.ActKind.{ActKind}
use Rattle.edb_lang.specs.declared.act.ActKind.TheVariants as kind
use Rattle.edb_model.specs.Plain.{Plain}
use Rattle.edb_lang.specs.Terms.{Datum}
use Rattle.edb_model.specs.Procs.{with_numbered, most_processes}
use Rattle.edb_event.specs.declared.entry.Entry.{Entry}
use Rattle.edb_event.specs.declared.entry.Entry.TheVariants as entry
use Rattle.edb_rules.specs.Erasure.{labels_of}
use Rattle.edb_rules.specs.Plans.{Plan}
use Rattle.edb_rules.specs.Facts.{Debuggee, Facts, at_first, unseen}
use Rattle.edb_rules.specs.Notes.{process_in, with_spawned, with_changed, plain_with, note, facts}
use Rattle.edb_rules.specs.Legal.{MayAct, May, Legal}
use Rattle.edb_rules.proofs.Entries.{kept_from}
use Rattle.edb_rules.proofs.Steps.{AreNoLoads, all_started, Stays, steps_stay, no_loads_move, none_started}
use Rattle.edb_rules.proofs.Turning.{acts_in, act_is}

-- no load may stand yet, and no advance
pub no_load : (plan : Plan) (f : Facts) (c : ℕ) (m : List ℕ) (v : ℕ) → May plan f (entry.Load c m v) → ⊥
no_load plan f c m v may = both_ways _ refl may.rule.known

pub no_advance : (plan : Plan) (f : Facts) (t : ℕ) → May plan f (entry.Advance t) → ⊥
no_advance plan f t may = none-some may.plain may.enabled

-- an act that may stand prints or ends
pub act_comes : (plan : Plan) (f : Facts) (p : ℕ) (k : ActKind) (v bytes : List ℕ) → MayAct plan f p k v bytes → (k ≡ kind.Print) ⊎ (k ≡ kind.End)
act_comes plan f p k v bytes may =
    let told = acts_in f p may.act may.turn in
    subst (λ (x : ActKind). (x ≡ kind.Print) ⊎ (x ≡ kind.End)) (sym may.kind) (act_is may.act.kind told.ready.running may.act told.act)

-- a start may stand only where there may be one process more
few_of : (b : Bool) (f : Plain → Option Plain) (x t : Plain) → option_and_then f (if b then Some x else None) ≡ Some t → b ≡ true
few_of true f x t e = refl
few_of false f x t e = absurd (none-some t e)

pub start_few : (plan : Plan) (f : Facts) (c p : ℕ) (m n : List ℕ) (args : Datum) → May plan f (entry.Start c p m n args) → length f.plain.running < most_processes
start_few plan f c p m n args may = ltb-true (length f.plain.running) most_processes (few_of (nat_lt (length f.plain.running) most_processes) _ _ may.plain may.enabled)

-- an entry that may stand is no load
pub no_loads : (plan : Plan) (f : Facts) (e : Entry) → May plan f e → AreNoLoads (labels_of e)
no_loads plan f (entry.Load c m v) may = absurd (no_load plan f c m v may)
no_loads plan f (entry.Skip con who) may = absurd may.rule
no_loads plan f (entry.Kill con who) may = absurd may.rule
no_loads plan f (entry.Expire con who) may = absurd may.rule
no_loads plan f (entry.Ran p n c) may = no_loads_move p n
no_loads plan f (entry.Start c p m n args) may = (tt, tt)
no_loads plan f (entry.Did p k v bytes) may = (tt, tt)
no_loads plan f (entry.Signal p r) may = absurd may.rule
no_loads plan f (entry.Advance t) may = absurd (no_advance plan f t may)
no_loads plan f _ may = tt

-- the plain state after an entry is the one that its steps lead to
pub note_is : (plan : Plan) (f : Facts) (e : Entry) (may : May plan f e) → (note plan f e).plain ≡ may.plain
note_is plan f e may = ap (λ (o : Option Plain). unwrap_or o f.plain) may.enabled

pub note_stays : (plan : Plan) (f : Facts) (e : Entry) → May plan f e → Stays f.plain (note plan f e).plain (all_started (labels_of e))
note_stays plan f e may =
    subst (λ (s : Plain). Stays f.plain s (all_started (labels_of e))) (sym (note_is plan f e may))
    (steps_stay plan.code f.plain may.plain (labels_of e) (no_loads plan f e may) may.enabled)

-- no name is registered yet
pub no_names : (plan : Plan) (journal : List Entry) → Legal plan journal → (facts plan journal).plain.procs.names ≡ []
no_names plan journal legal =
    kept_from plan (λ f. f.plain.procs.names ≡ []) (λ f e same may. (note_stays plan f e may).names same) (at_first plan) journal refl legal

-- a change of what is known of a process makes none
pub with_length : {A : Type 0} (xs : List A) (p : ℕ) (x : A) → length (with_numbered xs p x) ≡ length xs
with_length xs zero x = refl
with_length xs (suc n) x = length-set xs n x

changed_length : (f : Facts) (e : Entry) → length (with_changed f e) ≡ length f.debuggees
changed_length f e = with_length f.debuggees (process_in e) _

spawned_length : (k : ActKind) (n : ℕ) (ds : List Debuggee) → (k ≡ kind.Print) ⊎ (k ≡ kind.End) → length (with_spawned k n ds) ≡ length ds
spawned_length k n ds (inl is) = ap (λ (x : ActKind). length (with_spawned x n ds)) is
spawned_length k n ds (inr is) = ap (λ (x : ActKind). length (with_spawned x n ds)) is

none_more : (m n started : ℕ) → m ≡ n → started ≡ 0 → m ≡ n + started
none_more m n started e none = omega arith

pub note_length : (plan : Plan) (f : Facts) (e : Entry) → May plan f e → length (note plan f e).debuggees ≡ length f.debuggees + all_started (labels_of e)
note_length plan f (entry.Start c p m n args) may = length-append f.debuggees (unseen ∷ [])
note_length plan f (entry.Load c m v) may = absurd (no_load plan f c m v may)
note_length plan f (entry.Skip con who) may = absurd may.rule
note_length plan f (entry.Kill con who) may = absurd may.rule
note_length plan f (entry.Expire con who) may = absurd may.rule
note_length plan f (entry.Signal p r) may = absurd may.rule
note_length plan f (entry.Advance t) may = absurd (no_advance plan f t may)
note_length plan f (entry.Ran p n c) may = none_more _ _ _ (changed_length f (entry.Ran p n c)) (none_started p n)
note_length plan f (entry.Did p k v bytes) may =
    none_more _ _ 0
    (spawned_length k (length (plain_with plan f.plain (entry.Did p k v bytes)).running) (with_changed f (entry.Did p k v bytes)) (act_comes plan f p k v bytes may.rule)
    ∙ changed_length f (entry.Did p k v bytes)) refl
note_length plan f (entry.Ask p k) may = absurd may.rule
note_length plan f (entry.Took p) may = absurd may.rule
note_length plan f (entry.Forward p) may = absurd may.rule
note_length plan f (entry.Lease p b) may = none_more _ _ 0 (changed_length f (entry.Lease p b)) refl
note_length plan f (entry.Leave p) may = none_more _ _ 0 (changed_length f (entry.Leave p)) refl
note_length plan f (entry.Enter p m n a) may = none_more _ _ 0 (changed_length f (entry.Enter p m n a)) refl
note_length plan f (entry.Stop p m l n by) may = none_more _ _ 0 (changed_length f (entry.Stop p m l n by)) refl
note_length plan f (entry.Trigger p m l s a applied) may = none_more _ _ 0 (changed_length f (entry.Trigger p m l s a applied)) refl
note_length plan f (entry.Served c x r) may = none_more _ _ 0 (changed_length f (entry.Served c x r)) refl

pub agree_step : (plan : Plan) (f : Facts) (e : Entry) → length f.debuggees ≡ length f.plain.running → May plan f e
    → length (note plan f e).debuggees ≡ length (note plan f e).plain.running
agree_step plan f e same may = let known = note_length plan f e may in let made = (note_stays plan f e may).count in omega arith

pub lists_agree : (plan : Plan) (journal : List Entry) → Legal plan journal → length (facts plan journal).debuggees ≡ length (facts plan journal).plain.running
lists_agree plan journal legal =
    kept_from plan (λ f. length f.debuggees ≡ length f.plain.running) (agree_step plan) (at_first plan) journal refl legal
