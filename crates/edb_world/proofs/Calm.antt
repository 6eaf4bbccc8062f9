-- In a legal journal no signal is in flight and no process has a deadline: no act makes either yet.

use Rattle.std.proofs.Common.{◌≡◌, ℕ, zero, suc, List, [], ◌∷◌, Option, None, Some, refl, sym, ap, subst, nat_lt, length}
use Rattle.std.specs.List.{All}
use Rattle.std.proofs.lemmas.List.Elements.{All-nil, All-push, All-set, All-head, All-tail}
use Rattle.std.proofs.lemmas.Option.{none-some, same_Some, cond_some, option_and_then_some}
use Rattle.edb_lang.specs.Syntax.{ModuleTree}
use Rattle.edb_lang.specs.Terms.{Datum}
use Rattle.edb_lang.specs.declared.act.ActKind.TheVariants as kind
use Rattle.edb_model.specs.Running.{Run}
use Rattle.edb_model.specs.Move.{Next, acts, begins, pure, next, is_move, moved, answered}
use Rattle.edb_model.specs.Acts.{exit_reason, true_term, acted}
use Rattle.edb_model.specs.Bonds.{no_bonds, after_exit}
use Rattle.edb_model.specs.Procs.{Member, new_member, most_processes}
use Rattle.edb_model.specs.Plain.{Plain, with_running, ended}
use Rattle.edb_model.specs.Labels.{Label, move, act, signal, advance, start, load, skip, kill, expire, moved_in, step, steps}
use Rattle.edb_event.specs.declared.entry.Entry.{Entry}
use Rattle.edb_rules.specs.Erasure.{labels_of}
use Rattle.edb_rules.specs.Plans.{Plan}
use Rattle.edb_rules.specs.Facts.{Facts, at_first}
use Rattle.edb_rules.specs.Ranks.{deadline_above, next_deadline}
use Rattle.edb_rules.specs.Notes.{note, facts}
use Rattle.edb_rules.specs.Legal.{May, Legal}
use Rattle.edb_rules.proofs.Entries.{kept_from}
use Rattle.edb_rules.proofs.Kept.{note_is}

abbrev HasNoDeadline : Member → Type 0
HasNoDeadline m = m.deadline ≡ None

pub record IsCalm (s : Plain) : Type 0 where
  pub bonds : s.procs.bonds ≡ no_bonds
  pub deadlines : All HasNoDeadline s.procs.members

same : (s t : Plain) → Some s ≡ Some t → IsCalm s → IsCalm t
same s t e calm = subst IsCalm (same_Some s t e) calm

with_calm : (s : Plain) (p : ℕ) (q : Option Run) → IsCalm s → IsCalm (with_running s p q)
with_calm s zero q calm = record { bonds = calm.bonds; deadlines = calm.deadlines }
with_calm s (suc n) q calm = record { bonds = calm.bonds; deadlines = calm.deadlines }

ended_calm : (s : Plain) (p : ℕ) (reason : Datum) → IsCalm s → IsCalm (ended s p reason)
ended_calm s zero reason calm = record { bonds = ap (after_exit zero reason) calm.bonds; deadlines = calm.deadlines }
ended_calm s (suc n) reason calm =
    record { bonds = ap (after_exit (suc n) reason) calm.bonds; deadlines = All-set HasNoDeadline s.procs.members n _ refl calm.deadlines }

acted_calm : (s t : Plain) (p : ℕ) (u : Run) (x : Next) → IsCalm s → acted s p u x ≡ Some t → IsCalm t
acted_calm s t p u (acts kind.Print) calm e =
    let with_ = with_calm s p (Some (answered true_term u)) calm in
    same _ t e (record { bonds = with_.bonds; deadlines = with_.deadlines })
acted_calm s t p u (acts kind.End) calm e = same _ t e (ended_calm s p (exit_reason u) calm)
acted_calm s t p u (acts _) calm e = absurd (none-some t e)
acted_calm s t p u (begins m l) calm e = absurd (none-some t e)
acted_calm s t p u pure calm e = absurd (none-some t e)

step_calm : (code : List ModuleTree) (s t : Plain) (l : Label) → IsCalm s → step code s l ≡ Some t → IsCalm t
step_calm code s t (move p) calm e =
    option_and_then_some _ _ _ e (λ r living h. subst IsCalm (cond_some (is_move (next r)) (moved_in code s p r) t h).1 (with_calm s p (Some (moved code s.versions r)) calm))
step_calm code s t (act p) calm e = option_and_then_some _ _ _ e (λ r living h. acted_calm s t p r (next r) calm h)
step_calm code s t signal calm e = absurd (none-some t e)
step_calm code s t (advance c) calm e = absurd (none-some t e)
step_calm code s t (skip p) calm e = absurd (none-some t e)
step_calm code s t (kill p) calm e = absurd (none-some t e)
step_calm code s t (expire p) calm e = absurd (none-some t e)
step_calm code s t (load m k) calm e = subst IsCalm (cond_some _ _ t e).1 (record { bonds = calm.bonds; deadlines = calm.deadlines })
step_calm code s t (start m f args) calm e =
    subst IsCalm (cond_some (nat_lt (length s.running) most_processes) _ t e).1
    (record { bonds = calm.bonds; deadlines = All-push HasNoDeadline s.procs.members new_member calm.deadlines refl })

steps_calm : (code : List ModuleTree) (s t : Plain) (ls : List Label) → IsCalm s → steps code s ls ≡ Some t → IsCalm t
steps_calm code s t [] calm e = same s t e calm
steps_calm code s t (l ∷ ls) calm e =
    option_and_then_some _ _ _ e (λ u first rest. steps_calm code u t ls (step_calm code s u l calm first) rest)

note_calm : (plan : Plan) (f : Facts) (e : Entry) → IsCalm f.plain → May plan f e → IsCalm (note plan f e).plain
note_calm plan f e calm may = subst IsCalm (sym (note_is plan f e may)) (steps_calm plan.code f.plain may.plain (labels_of e) calm may.enabled)

pub calm_at : (plan : Plan) (journal : List Entry) → Legal plan journal → IsCalm (facts plan journal).plain
calm_at plan journal legal =
    kept_from plan (λ f. IsCalm f.plain) (note_calm plan) (at_first plan) journal (record { bonds = refl; deadlines = All-nil HasNoDeadline }) legal

-- so the clock has nowhere to go
none_above : (clock : ℕ) (ms : List Member) → All HasNoDeadline ms → deadline_above clock ms ≡ None
none_above clock [] all = refl
none_above clock (m ∷ ms) all =
    rw (All-head HasNoDeadline m ms all, none_above clock ms (All-tail HasNoDeadline m ms all)) refl

pub no_deadline : (s : Plain) → IsCalm s → next_deadline s.procs ≡ None
no_deadline s calm = none_above s.procs.clock s.procs.members calm.deadlines
