-- What the machine leaves is what the definition of moves says.

use Rattle.std.proofs.Common.{◌≡◌, ◌∙◌, ℕ, refl, ap, sym, true, false, List, [], ◌∷◌, codes}
use Rattle.std.proofs.Common.{if◌then◌else◌}
use Rattle.edb_lang.specs.declared.act.ActKind.TheVariants as act
use Rattle.edb_lang.specs.Terms as term
use Rattle.edb_lang.specs.Terms.{Datum}
use Rattle.edb_lang.specs.Syntax.{ModuleTree}
use Rattle.edb_model.specs.Running.{Run, Info, remote_call, value, raised, body, opening_call}
use Rattle.edb_model.specs.Lookup.{first_versions}
use Rattle.edb_model.specs.Move.{Handler, turns, settled, rewrite, called, apply, is_display, next, acts, pure, redex, moved, answered, go, outside}
use Rattle.edb_model.specs.Acts.{exit_reason}
use Rattle.edb_eval.specs.declared.frames.Frame.{Frame}
use Rattle.edb_eval.specs.declared.frames.Frame.TheVariants as frame
use Rattle.edb_eval.specs.declared.focus.Focus.{Focus}
use Rattle.edb_eval.specs.declared.focus.Focus.TheVariants as focus
use Rattle.edb_eval.specs.declared.running.Running.{Running}
use Rattle.edb_eval.specs.declared.running.Outcome.{Outcome}
use Rattle.edb_eval.specs.declared.running.Outcome.TheVariants as outcome
use Rattle.edb_eval.specs.declared.machine.State.{State}
use Rattle.edb_eval.specs.declared.machine.State.TheVariants as state
use Rattle.edb_lang.specs.declared.small.Class.{Class}
use Rattle.edb_eval.specs.Glances.{Displays}
use Rattle.edb_eval.specs.Tree.{info_of, held, plug, left, focus_tree, at_redex}
use Rattle.edb_eval.specs.Places.{out}
use Rattle.edb_eval.specs.Stands.{state_tree, settled_state}
use Rattle.edb_eval.proofs.Heart.{place-bindings}
use Rattle.edb_eval.proofs.Moves.{redex_moves, values_of-all_values}

settled-left : (t : Run) (r : Running) (o : Outcome) → settled t (left r o) ≡ state_tree (settled_state (state.Running r) o)
settled-left t r outcome.Stays = refl
settled-left t r (outcome.Ends v) = refl
settled-left t r (outcome.Raises c v) = refl

-- a move within a call
pub moves : (code : List ModuleTree) (t : Run) (r : Running) (o : Outcome) → left r o ≡ go (rewrite code (first_versions code)) outside t → state_tree (settled_state (state.Running r) o) ≡ moved code (first_versions code) t
unfolding moved
moves code t r o e = sym (settled-left t r o) ∙ ap (settled t) e

-- an answer within a call
pub answers : (t : Run) (fs : List Frame) (i : Info) (f : Focus) (v : Datum) (r : Running) (o : Outcome) → plug fs i (focus_tree f) ≡ t → at_redex f ≡ true → left r o ≡ out fs i (turns i.bindings (value v)) → state_tree (settled_state (state.Running r) o) ≡ answered v t
unfolding answered
answers t fs i (focus.Code h e) v r o is at same = absurd (cc)
answers t fs i (focus.Given p done w pending) v r o is at same = absurd (cc)
answers t fs i (focus.Redex x) v r o is at same =
    let h : Handler = λ p q. turns p.bindings (value v) in
    let there : go h outside t ≡ out fs i (turns i.bindings (value v)) =
    ap (go h outside) (sym is) ∙ redex_moves h fs i x ∙ ap (λ bs. out fs i (turns bs (value v))) (place-bindings fs i) in
    sym (settled-left t r o) ∙ ap (settled t) (same ∙ sym there)

-- the call by which a process begins
pub opening_moved : (code : List ModuleTree) (current : List (List ℕ × ℕ)) (m f : List ℕ) (args : List Datum) → moved code current (opening_call m f args) ≡ settled (opening_call m f args) (called code current outside false m f args)
unfolding moved go
opening_moved code current m f args = rw (values_of-all_values args)

pub opening_next : (m f : List ℕ) (args : List Datum) → next (opening_call m f args) ≡ (if is_display remote_call (term.atom m ∷ (term.atom f ∷ args)) then acts act.Print else pure)
unfolding next redex go
opening_next m f args = rw (values_of-all_values args)

pub opening_redex : (m f : List ℕ) (args : List Datum) → (redex (opening_call m f args)).1 ≡ apply remote_call (term.atom m ∷ (term.atom f ∷ args))
unfolding redex go
opening_redex m f args = rw (values_of-all_values args)

pub opening_answered : (v : Datum) (m f : List ℕ) (args : List Datum) → answered v (opening_call m f args) ≡ value v
unfolding answered go
opening_answered v m f args = rw (values_of-all_values args)

pub opening_displays : (m f : List ℕ) (args : List Datum) (v : Datum) → args ≡ v ∷ [] → is_display remote_call (term.atom m ∷ (term.atom f ∷ args)) ≡ true → Displays (redex (opening_call m f args)).1 v
opening_displays m f args v e d =
    record {
      home = term.atom m;
      name = term.atom f;
      is = opening_redex m f args ∙ ap (λ vs. apply remote_call (term.atom m ∷ (term.atom f ∷ vs))) e;
      displays = sym (ap (λ vs. is_display remote_call (term.atom m ∷ (term.atom f ∷ vs))) e) ∙ d;
    }

pub opening_prints : (m f : List ℕ) (args : List Datum) → is_display remote_call (term.atom m ∷ (term.atom f ∷ args)) ≡ true → next (opening_call m f args) ≡ acts act.Print
opening_prints m f args d = rw (opening_next m f args, d)

pub opening_moves : (m f : List ℕ) (args : List Datum) → is_display remote_call (term.atom m ∷ (term.atom f ∷ args)) ≡ false → next (opening_call m f args) ≡ pure
opening_moves m f args d = rw (opening_next m f args, d)

-- a value and an exception: the process ends
pub next-value : (v : Datum) → next (value v) ≡ acts act.End
unfolding next redex go
next-value v = refl

pub next-raised : (c : Class) (v : Datum) → next (raised c v) ≡ acts act.End
unfolding next redex go
next-raised c v = refl

pub moved-value : (code : List ModuleTree) (current : List (List ℕ × ℕ)) (v : Datum) → value v ≡ moved code current (value v)
unfolding moved go
moved-value code current v = refl

pub moved-raised : (code : List ModuleTree) (current : List (List ℕ × ℕ)) (c : Class) (v : Datum) → raised c v ≡ moved code current (raised c v)
unfolding moved go
moved-raised code current c v = refl

-- what tells a state in which no display is next
pub no_print_move : (m f : List ℕ) (args : List Datum) → is_display remote_call (term.atom m ∷ (term.atom f ∷ args)) ≡ false → next (opening_call m f args) ≡ acts act.Print → ⊥
no_print_move m f args d n = let p = opening_moves m f args d in absurd (cc)

pub no_print_value : (v : Datum) → next (value v) ≡ acts act.Print → ⊥
no_print_value v n = let e = next-value v in absurd (cc)

pub no_print_raised : (c : Class) (v : Datum) → next (raised c v) ≡ acts act.Print → ⊥
no_print_raised c v n = let e = next-raised c v in absurd (cc)

-- an answer outside of a call
pub answered_outside : (s : State) (v : Datum) → ((r : Running) → s ≡ state.Running r → ⊥) → value v ≡ answered v (state_tree s)
unfolding answered go
answered_outside (state.Opening m f args) v n = sym (opening_answered v m f args)
answered_outside (state.Running r) v n = absurd (n r refl)
answered_outside (state.Value w) v n = refl
answered_outside (state.Raised c w) v n = refl

-- a call that is being evaluated is no value and no exception
pub exit_reason-plug : (fs : List Frame) (i : Info) (t : Run) → exit_reason (plug fs i t) ≡ term.atom (codes "normal")
exit_reason-plug [] i t = refl
exit_reason-plug (frame.Holder k ∷ fs) i t = exit_reason-plug fs i (held k t)
exit_reason-plug (frame.Body outer ∷ fs) i t = exit_reason-plug fs (info_of outer) (body i t)
