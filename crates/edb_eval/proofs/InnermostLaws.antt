-- The innermost Body, and the Bodies round the redex, by the frames and the Body in which the hole is.

use Rattle.std.proofs.Common.{◌≡◌, ◌∙◌, ℕ, ◌+◌, refl, ap, Bool, true, false, ◌||◌, List, [], ◌∷◌, drop, Option, None, Some}
use Rattle.std.specs.List.{list_any, slice_get}
use Rattle.edb_lang.specs.declared.small.Class.{Class}
use Rattle.edb_lang.specs.Terms.{Datum}
use Rattle.edb_lang.specs.Syntax.{Pat, Exp, Exps}
use Rattle.edb_lang.specs.Syntax as syntax
use Rattle.edb_lang.specs.TermText.{same_name}
use Rattle.edb_model.specs.Running.{Operation, Run, Runs, Info, value, variable, node, match, sequence, body, raised, none, more, running, all_running, all_values, opening_call, value_of, values_of}
use Rattle.edb_model.specs.Innermost.{or_else, innermost, innermost_of}
use Rattle.edb_model.specs.Move.{Place, Redex, look, apply, bind, begin, follow, finished, tells, before, operand, go, go_first, redex}
use Rattle.edb_eval.specs.declared.frames.Holder.{Holder}
use Rattle.edb_eval.specs.declared.frames.Holder.TheVariants as holder
use Rattle.edb_eval.specs.declared.frames.Frame.{Frame}
use Rattle.edb_eval.specs.declared.frames.Frame.TheVariants as frame
use Rattle.edb_eval.specs.declared.focus.Focus.{Focus}
use Rattle.edb_eval.specs.declared.focus.Focus.TheVariants as focus
use Rattle.edb_eval.specs.declared.focus.Redex as declared
use Rattle.edb_eval.specs.declared.focus.Redex.TheVariants as redexes
use Rattle.edb_eval.specs.Bodies.{outer_bodies}
use Rattle.edb_eval.specs.Tree.{info_of, held, plug, focus_tree, redex_tree, operands, pending_exps}
use Rattle.edb_eval.specs.Places.{place}
use Rattle.edb_eval.proofs.Heart.{heart, before-bodies, place-bodies}
use Rattle.edb_eval.proofs.Depths.{drop-slice_get}
use Rattle.edb_eval.proofs.Moves.{values_of-all_values}
use Rattle.edb_eval.proofs.Nexts.{value_of-focus, out-tells}

or_else-None : (o : Option Info) → or_else o None ≡ o
or_else-None None = refl
or_else-None (Some i) = refl

or_else-Some : (o : Option Info) (i j : Info) → or_else (or_else o (Some i)) (Some j) ≡ or_else o (Some i)
or_else-Some None i j = refl
or_else-Some (Some k) i j = refl

-- nothing runs in code
mutual
  innermost-running : (e : Exp) → innermost (running e) ≡ None
  innermost-running (syntax.int l i) = refl
  innermost-running (syntax.atom l a) = refl
  innermost-running (syntax.variable l x) = refl
  innermost-running (syntax.match l p e) = innermost-running e
  innermost-running (syntax.binary l o a b) = rw (innermost-running a, innermost-running b)
  innermost-running (syntax.call l f es) = innermost-all es
  innermost-running (syntax.remote l m f es) = rw (innermost-running m, innermost-running f) (innermost-all es)

  innermost-all : (es : Exps) → innermost_of (all_running es) ≡ None
  innermost-all syntax.none = refl
  innermost-all (syntax.more e es) = rw (innermost-running e) (innermost-all es)

-- nor in values
innermost-values : (vs : List Datum) → innermost_of (all_values vs) ≡ None
innermost-values [] = refl
innermost-values (v ∷ vs) = innermost-values vs

pub innermost-opening : (m f : List ℕ) (args : List Datum) → innermost (opening_call m f args) ≡ None
innermost-opening m f args = innermost-values args

-- a node has no Body but what is in its hole
innermost-operands : (vs : List Datum) (ts : Runs) → innermost_of (operands vs ts) ≡ innermost_of ts
innermost-operands [] ts = refl
innermost-operands (v ∷ vs) ts = innermost-operands vs ts

innermost-held : (k : Holder) (t : Run) → innermost (held k t) ≡ innermost t
innermost-held (holder.Operands o done pending) t =
    let ts : Runs = all_running (pending_exps pending) in
    innermost-operands done (more t ts) ∙ ap (or_else (innermost t)) (innermost-all (pending_exps pending)) ∙ or_else-None (innermost t)
innermost-held (holder.Match q) t = refl
innermost-held (holder.Sequence l es) t = refl

innermost-redex : (r : declared.Redex) → innermost (redex_tree r) ≡ None
innermost-redex (redexes.Look x) = refl
innermost-redex (redexes.Apply o vs) = innermost-values vs
innermost-redex (redexes.Bind q v) = refl
innermost-redex (redexes.Begin e es) = innermost-running e.now
innermost-redex (redexes.Follow v l es) = refl

innermost-focus : (f : Focus) → innermost (focus_tree f) ≡ None
innermost-focus (focus.Code h e) = innermost-held h (running e.now) ∙ innermost-running e.now
innermost-focus (focus.Given o done v pending) = innermost-held (holder.Operands o done pending) (value v)
innermost-focus (focus.Redex r) = innermost-redex r

-- that of the hole, and else the Body in which the hole is
innermost-plug : (fs : List Frame) (i : Info) (t : Run) → innermost (plug fs i t) ≡ or_else (innermost t) (Some i)
innermost-plug [] i t = refl
innermost-plug (frame.Holder k ∷ fs) i t =
    innermost-plug fs i (held k t) ∙ ap (λ o. or_else o (Some i)) (innermost-held k t)
innermost-plug (frame.Body outer ∷ fs) i t =
    innermost-plug fs (info_of outer) (body i t) ∙ or_else-Some (innermost t) i (info_of outer)

pub innermost-tree : (fs : List Frame) (i : Info) (f : Focus) → innermost (plug fs i (focus_tree f)) ≡ Some i
innermost-tree fs i f = innermost-plug fs i (focus_tree f) ∙ ap (λ o. or_else o (Some i)) (innermost-focus f)

-- Where there is no Body in an expression, the redex has the Bodies round it that the whole expression has.
abbrev Stays : Place → Run → Type 0
Stays p t = (q : Place) × (r : Redex) × (go tells p t ≡ tells q r) × (q.bodies ≡ p.bodies)

abbrev StaysFirst : Place → Runs → Type 0
StaysFirst p ts = (q : Place) × (r : Redex) × (go_first tells p ts ≡ tells q r) × (q.bodies ≡ p.bodies)

no_body : {X : Type 0} (o : Option Info) (i : Info) → or_else o (Some i) ≡ None → X
no_body None i e = absurd (cc)
no_body (Some j) i e = absurd (cc)

first_none : (o q : Option Info) → or_else o q ≡ None → o ≡ None
first_none None q e = refl
first_none (Some i) q e = absurd (cc)

second_none : (o q : Option Info) → or_else o q ≡ None → q ≡ None
second_none None q e = e
second_none (Some i) q e = absurd (cc)

stays_node : (o : Operation) (p : Place) (ts : Runs) (vs : Option (List Datum)) → values_of ts ≡ vs → StaysFirst (operand p) ts → Stays p (node o ts)
unfolding go
stays_node o p ts None e f = (f.0, f.1, rw (e, f.2), f.3)
stays_node o p ts (Some vs) e f = (p, apply o vs, rw e, refl)

stays_more : (p : Place) (t : Run) (ts : Runs) (v : Option Datum) → value_of t ≡ v → Stays p t → StaysFirst p ts → StaysFirst p (more t ts)
unfolding go
stays_more p t ts None e a f = (a.0, a.1, rw (e, a.2), a.3)
stays_more p t ts (Some v) e a f = (f.0, f.1, rw (e, f.2), f.3)

stays_match : (q : Pat) (p : Place) (t : Run) (v : Option Datum) → value_of t ≡ v → Stays (operand p) t → Stays p (match q t)
unfolding go
stays_match q p t None e a = (a.0, a.1, rw (e, a.2), a.3)
stays_match q p t (Some v) e a = (p, bind q v, rw e, refl)

stays_sequence : (l : ℕ) (es : Exps) (p : Place) (t : Run) (v : Option Datum) → value_of t ≡ v → Stays (before es p) t → Stays p (sequence true l t es)
unfolding go
stays_sequence l es p t None e a = (a.0, a.1, rw (e, a.2), a.3 ∙ before-bodies es p)
stays_sequence l es p t (Some v) e a = (p, follow v es, rw e, refl)

mutual
  unfolding go

  stays_at : (p : Place) (t : Run) → innermost t ≡ None → Stays p t
  stays_at p (value v) n = (p, finished, refl, refl)
  stays_at p (raised c v) n = (p, finished, refl, refl)
  stays_at p (variable x) n = (p, look x, refl, refl)
  stays_at p (node o ts) n = stays_node o p ts (values_of ts) refl (stays_first (operand p) ts n)
  stays_at p (match q t) n = stays_match q p t (value_of t) refl (stays_at (operand p) t n)
  stays_at p (sequence false l t es) n = (p, begin l t es, refl, refl)
  stays_at p (sequence true l t es) n = stays_sequence l es p t (value_of t) refl (stays_at (before es p) t n)
  stays_at p (body i t) n = no_body (innermost t) i n

  stays_first : (p : Place) (ts : Runs) → innermost_of ts ≡ None → StaysFirst p ts
  stays_first p none n = (p, finished, refl, refl)
  stays_first p (more t ts) n =
      stays_more p t ts (value_of t) refl (stays_at p t (first_none (innermost t) (innermost_of ts) n)) (stays_first p ts (second_none (innermost t) (innermost_of ts) n))

-- the Bodies round the redex: the one in which the hole is, and those of the frames
pub bodies-tree : (fs : List Frame) (i : Info) (f : Focus) → (redex (plug fs i (focus_tree f))).0.bodies ≡ (i.home, i.version) ∷ outer_bodies fs
unfolding redex
bodies-tree fs i f =
    let s = stays_at (place fs i) (focus_tree f) (innermost-focus f) in
    rw (heart tells fs i (focus_tree f) (value_of-focus f), s.2, out-tells fs i s.0 s.1) (s.3 ∙ place-bodies fs i)

-- there is none round the redex outside of every Body
pub bodies-opening : (m f : List ℕ) (args : List Datum) → (redex (opening_call m f args)).0.bodies ≡ []
unfolding redex go
bodies-opening m f args = rw (values_of-all_values args)

pub bodies-value : (v : Datum) → (redex (value v)).0.bodies ≡ []
unfolding redex go
bodies-value v = refl

pub bodies-raised : (c : Class) (v : Datum) → (redex (raised c v)).0.bodies ≡ []
unfolding redex go
bodies-raised c v = refl

-- whether some Body among frames is of one of these modules, by the first frame and those behind it
abbrev InModules : List (List ℕ) → List (List ℕ × ℕ) → Bool
InModules ms bs = list_any (λ b. list_any (same_name b.0) ms) bs

or_regrouped : (b c : Bool) → (b || c) ≡ ((b || false) || c)
or_regrouped true c = refl
or_regrouped false c = refl

first_frame : (ms : List (List ℕ)) (f : Frame) (fs : List Frame) → InModules ms (outer_bodies (f ∷ fs)) ≡ (InModules ms (outer_bodies (f ∷ [])) || InModules ms (outer_bodies fs))
first_frame ms (frame.Holder h) fs = refl
first_frame ms (frame.Body o) fs = or_regrouped (list_any (same_name o.home) ms) (InModules ms (outer_bodies fs))

pub passes_frame : (ms : List (List ℕ)) (fs : List Frame) (n : ℕ) (f : Frame) → slice_get fs n ≡ Some f → InModules ms (outer_bodies (f ∷ [])) ≡ false → InModules ms (outer_bodies (drop (n + 1) fs)) ≡ InModules ms (outer_bodies (drop n fs))
passes_frame ms fs n f at other = rw (drop-slice_get fs n f at, first_frame ms f (drop (n + 1) fs), other)
