-- Each Body in a legal journal is within the bounds, where the code is; each command of a plan is in range.

use Rattle.std.proofs.Common.{◌≡◌, ◌<◌, ◌^◌, ℕ, zero, suc, nat_lt, List, [], ◌∷◌, length, Option, None, Some, refl, sym, ◌∙◌, ap, subst}
use Rattle.std.specs.List.{All, slice_get}
use Rattle.std.proofs.lemmas.List.Elements.{All-nil, All-push, All-set}
use Rattle.std.proofs.lemmas.Option.{none-some, same_Some, cond_some, option_and_then_some}
use Rattle.edb_lang.specs.Terms.{elements}
use Rattle.edb_lang.specs.Syntax.{ModuleTree}
use Rattle.edb_lang.specs.declared.act.ActKind.TheVariants as kind
use Rattle.edb_model.specs.Running.{Info, Run, opening_call}
use Rattle.edb_model.specs.Move.{Next, acts, begins, pure, next, is_move, moved, answered}
use Rattle.edb_model.specs.Acts.{true_term, exit_reason, acted}
use Rattle.edb_model.specs.Plain.{Plain, running_at, with_running, ended}
use Rattle.edb_model.specs.Labels.{Label, move, act, signal, advance, start, load, skip, kill, expire, moved_in, step, steps}
use Rattle.edb_model.specs.Procs.{most_processes}
use Rattle.edb_event.specs.declared.call.Command.{Command}
use Rattle.edb_event.specs.declared.entry.Entry.{Entry}
use Rattle.edb_rules.specs.Erasure.{labels_of}
use Rattle.edb_event.specs.Ranges.{IsShort, IsCommand, AreCommands}
use Rattle.edb_rules.specs.Plans.{Plan}
use Rattle.edb_rules.specs.Facts.{Facts, at_first}
use Rattle.edb_rules.specs.Slices.{after_moves}
use Rattle.edb_model.specs.Innermost.{innermost}
use Rattle.edb_rules.specs.Notes.{note, facts}
use Rattle.edb_rules.specs.Legal.{May, Legal}
use Rattle.edb_rules.specs.Bounds.{AreBounded}
use Rattle.edb_rules.proofs.Entries.{kept_from}
use Rattle.edb_rules.proofs.Listed.{each_or}
use Rattle.edb_rules.proofs.Kept.{note_is}
use Rattle.edb_rules.proofs.Bodies.{AllBodies, innermost_is, in_opening, moved_is, answered_is, moves_are}

-- What a process has to do has Bodies within the bounds.
abbrev pub RunsBounded : Option Run → Type 0
RunsBounded q = (t : Run) → q ≡ Some t → AllBodies t

abbrev pub AllRun : Plain → Type 0
AllRun s = All RunsBounded s.running

runs : (q : Option Run) (t : Run) → q ≡ Some t → AllBodies t → RunsBounded q
runs q t is all u e = subst AllBodies (same_Some t u (sym is ∙ e)) all

rests : (q : Option Run) → q ≡ None → RunsBounded q
rests q is u e = absurd (none-some u (sym is ∙ e))

pub runs_at : (s : Plain) → AllRun s → (p : ℕ) → RunsBounded (running_at s p)
runs_at s all zero = rests None refl
runs_at s all (suc n) = each_or RunsBounded s.running None (rests None refl) all n

with_runs : (s : Plain) (p : ℕ) (q : Option Run) → RunsBounded q → AllRun s → AllRun (with_running s p q)
with_runs s zero q here all = all
with_runs s (suc n) q here all = All-set RunsBounded s.running n q here all

same_run : (s t : Plain) → Some s ≡ Some t → AllRun s → AllRun t
same_run s t e all = subst AllRun (same_Some s t e) all

acted_runs : (s t : Plain) (p : ℕ) (u : Run) (x : Next) → AllBodies u → AllRun s → acted s p u x ≡ Some t → AllRun t
acted_runs s t p u (acts kind.Print) here all e =
    let q : Option Run = Some (answered true_term u) in
    same_run _ t e (with_runs s p q (runs q (answered true_term u) refl (answered_is true_term u here)) all)
acted_runs s t p u (acts kind.End) here all e =
    same_run (ended s p (exit_reason u)) t e (with_runs s p None (rests None refl) all)
acted_runs s t p u (acts _) here all e = absurd (none-some t e)
acted_runs s t p u (begins m l) here all e = absurd (none-some t e)
acted_runs s t p u pure here all e = absurd (none-some t e)

step_runs : (code : List ModuleTree) (s t : Plain) (l : Label) → AreBounded code → AllRun s → step code s l ≡ Some t → AllRun t
step_runs code s t (move p) bounded all e =
    option_and_then_some _ _ _ e (λ r living h.
    let q : Option Run = Some (moved code s.versions r) in
    same_run (moved_in code s p r) t (ap (λ (x : Plain). Some x) (cond_some (is_move (next r)) (moved_in code s p r) t h).1)
    (with_runs s p q (runs q (moved code s.versions r) refl (moved_is code s.versions r bounded (runs_at s all p r living))) all))
step_runs code s t (act p) bounded all e = option_and_then_some _ _ _ e (λ r living h. acted_runs s t p r (next r) (runs_at s all p r living) all h)
step_runs code s t signal bounded all e = absurd (none-some t e)
step_runs code s t (advance c) bounded all e = absurd (none-some t e)
step_runs code s t (skip who) bounded all e = absurd (none-some t e)
step_runs code s t (kill who) bounded all e = absurd (none-some t e)
step_runs code s t (expire who) bounded all e = absurd (none-some t e)
step_runs code s t (load m k) bounded all e = same_run _ t (ap (λ (x : Plain). Some x) (cond_some _ _ t e).1) all
step_runs code s t (start m f args) bounded all e =
    let q : Option Run = Some (opening_call m f (elements args)) in
    same_run _ t (ap (λ (x : Plain). Some x) (cond_some (nat_lt (length s.running) most_processes) _ t e).1)
    (All-push RunsBounded s.running q all (runs q (opening_call m f (elements args)) refl (in_opening m f (elements args))))

steps_run : (code : List ModuleTree) (s t : Plain) (ls : List Label) → AreBounded code → AllRun s → steps code s ls ≡ Some t → AllRun t
steps_run code s t [] bounded all e = same_run s t e all
steps_run code s t (l ∷ ls) bounded all e =
    option_and_then_some _ _ _ e (λ u first rest. steps_run code u t ls bounded (step_runs code s u l bounded all first) rest)

pub note_runs : (plan : Plan) (f : Facts) (e : Entry) → AreBounded plan.code → AllRun f.plain → May plan f e → AllRun (note plan f e).plain
note_runs plan f e bounded all may =
    subst AllRun (sym (note_is plan f e may)) (steps_run plan.code f.plain may.plain (labels_of e) bounded all may.enabled)

pub all_run : (plan : Plan) (journal : List Entry) → AreBounded plan.code → Legal plan journal → AllRun (facts plan journal).plain
all_run plan journal bounded legal =
    kept_from plan (λ f. AllRun f.plain) (λ f e all may. note_runs plan f e bounded all may) (at_first plan) journal (All-nil RunsBounded) legal

-- what a process has to do, and what it has to do after some moves
pub bodies_bounded : (plan : Plan) (journal : List Entry) (p n : ℕ) (t : Run) → AreBounded plan.code → Legal plan journal
    → (running_at (facts plan journal).plain p) ≡ Some t → AllBodies (after_moves plan.code (facts plan journal).plain.versions n t)
bodies_bounded plan journal p n t bounded legal lives =
    moves_are plan.code (facts plan journal).plain.versions n t bounded (runs_at (facts plan journal).plain (all_run plan journal bounded legal) p t lives)

pub innermost_bounded : (plan : Plan) (journal : List Entry) (p : ℕ) (t : Run) (i : Info) → AreBounded plan.code → Legal plan journal
    → (running_at (facts plan journal).plain p) ≡ Some t → innermost t ≡ Some i → IsShort i.home × IsShort i.name × (i.arity < 2 ^ 32)
innermost_bounded plan journal p t i bounded legal lives is = innermost_is t i (bodies_bounded plan journal p 0 t bounded legal lives) is

-- a command of the plan is in range
pub command_is : (cs : List Command) (k : ℕ) (c : Command) → AreCommands cs → slice_get cs k ≡ Some c → IsCommand c
command_is [] k c are at = absurd (none-some c at)
command_is (d ∷ cs) zero c are at = subst IsCommand (same_Some d c at) are.0
command_is (d ∷ cs) (suc k) c are at = command_is cs k c are.1 at
