-- What is next, by what is in the hole.

use Rattle.std.proofs.Common.{◌≡◌, ◌∙◌, ℕ, refl, ap, true, false, List, [], ◌∷◌, Option, None, Some}
use Rattle.edb_lang.specs.Terms.{Datum}
use Rattle.edb_lang.specs.Syntax.{Pat, Exp, Exps, exps_of, line_of}
use Rattle.edb_lang.specs.declared.act.ActKind.TheVariants as act
use Rattle.edb_model.specs.Running.{Operation, Run, Runs, Info, value, variable, node, match, sequence, body, raised, none, more, running, all_running, unbegun, value_of, values_of}
use Rattle.edb_model.specs.Move.{Place, Redex, begin, tells, before, operand, within_body, go, go_first, redex, next, next_at, begins, acts, pure}
use Rattle.edb_eval.specs.declared.frames.Holder.{Holder}
use Rattle.edb_eval.specs.declared.frames.Holder.TheVariants as holder
use Rattle.edb_eval.specs.declared.frames.Frame.{Frame}
use Rattle.edb_eval.specs.declared.frames.Frame.TheVariants as frame
use Rattle.edb_eval.specs.declared.focus.Focus.{Focus}
use Rattle.edb_eval.specs.declared.focus.Focus.TheVariants as focus
use Rattle.edb_eval.specs.declared.focus.Redex.TheVariants as redexes
use Rattle.edb_eval.specs.declared.glance.Known.{Known}
use Rattle.edb_eval.specs.Tree.{info_of, held, plug, focus_tree, operands, pending_exps}
use Rattle.edb_eval.specs.Places.{place, out}
use Rattle.edb_eval.specs.Glances.{leftmost, first_redex, begun, known_tree, Displays, DisplaysKnown}
use Rattle.edb_eval.proofs.Heart.{heart, value_of-held, values_of-operands}
use Rattle.edb_eval.proofs.Moves.{value_of-redex, home_here}

abbrev TellsAt : Place → Run → Type 0
TellsAt p t = (q : Place) × (go tells p t ≡ tells q (leftmost t))

abbrev TellsFirst : Place → Runs → Type 0
TellsFirst p ts = (q : Place) × (go_first tells p ts ≡ tells q (first_redex ts))

tells_node : (o : Operation) (p : Place) (ts : Runs) (vs : Option (List Datum)) → values_of ts ≡ vs → TellsFirst (operand p) ts → TellsAt p (node o ts)
unfolding go
tells_node o p ts None e f = (f.0, rw (e, f.1))
tells_node o p ts (Some vs) e f = (p, rw e)

tells_more : (p : Place) (t : Run) (ts : Runs) (v : Option Datum) → value_of t ≡ v → TellsAt p t → TellsFirst p ts → TellsFirst p (more t ts)
unfolding go
tells_more p t ts None e a f = (a.0, rw (e, a.1))
tells_more p t ts (Some v) e a f = (f.0, rw (e, f.1))

tells_match : (q : Pat) (p : Place) (t : Run) (v : Option Datum) → value_of t ≡ v → TellsAt (operand p) t → TellsAt p (match q t)
unfolding go
tells_match q p t None e a = (a.0, rw (e, a.1))
tells_match q p t (Some v) e a = (p, rw e)

tells_sequence : (l : ℕ) (es : Exps) (p : Place) (t : Run) (v : Option Datum) → value_of t ≡ v → TellsAt (before es p) t → TellsAt p (sequence true l t es)
unfolding go
tells_sequence l es p t None e a = (a.0, rw (e, a.1))
tells_sequence l es p t (Some v) e a = (p, rw e)

tells_body : (i : Info) (p : Place) (t : Run) → TellsAt (within_body i p) t → TellsAt p (body i t)
unfolding go
tells_body i p t a = (a.0, rw a.1)

-- what stands at the redex is the same, whatever the place
mutual
  unfolding go

  pub tells_at : (p : Place) (t : Run) → TellsAt p t
  tells_at p (value v) = (p, refl)
  tells_at p (raised c v) = (p, refl)
  tells_at p (variable x) = (p, refl)
  tells_at p (node o ts) = tells_node o p ts (values_of ts) refl (tells_first (operand p) ts)
  tells_at p (match q t) = tells_match q p t (value_of t) refl (tells_at (operand p) t)
  tells_at p (sequence false l t es) = (p, refl)
  tells_at p (sequence true l t es) = tells_sequence l es p t (value_of t) refl (tells_at (before es p) t)
  tells_at p (body i t) = tells_body i p t (tells_at (within_body i p) t)

  tells_first : (p : Place) (ts : Runs) → TellsFirst p ts
  tells_first p none = (p, refl)
  tells_first p (more t ts) = tells_more p t ts (value_of t) refl (tells_at p t) (tells_first p ts)

-- the frames leave it as it is
pub out-tells : (fs : List Frame) (i : Info) (p : Place) (r : Redex) → out fs i (tells p r) ≡ tells p r
out-tells [] i p r = refl
out-tells (frame.Holder k ∷ fs) i p r = out-tells fs i p r
out-tells (frame.Body outer ∷ fs) i p r = out-tells fs (info_of outer) p r

pub redex-plug : (fs : List Frame) (i : Info) (t : Run) → value_of t ≡ None → (q : Place) × (redex (plug fs i t) ≡ (q, leftmost t))
unfolding redex
redex-plug fs i t e =
    let a = tells_at (place fs i) t in
    (a.0, rw (heart tells fs i t e, a.1, out-tells fs i a.0 (leftmost t)))

pub value_of-focus : (f : Focus) → value_of (focus_tree f) ≡ None
value_of-focus (focus.Code h e) = value_of-held h _
value_of-focus (focus.Given o done v pending) = refl
value_of-focus (focus.Redex r) = value_of-redex r

-- a sequence that is not begun
pub next-begin : (fs : List Frame) (i : Info) (e : Exp) (es : Exps) → next (plug fs i (unbegun e es)) ≡ begins i.home (line_of e)
unfolding next redex go
next-begin fs i e es =
    rw (heart tells fs i (unbegun e es) refl, out-tells fs i (place fs i) (begin (line_of e) (running e) es)) (ap (λ m. begins m (line_of e)) (home_here fs i))

-- a pure move, and a display
pub next-pure : (fs : List Frame) (i : Info) (t : Run) → value_of t ≡ None → ((p : Place) → next_at p (leftmost t) ≡ pure) → next (plug fs i t) ≡ pure
unfolding next
next-pure fs i t e h = let r = redex-plug fs i t e in rw r.1 (h r.0)

pub next-display : (fs : List Frame) (i : Info) (t : Run) (k : Known) → value_of t ≡ None → DisplaysKnown k (leftmost t) → next (plug fs i t) ≡ acts act.Print
unfolding next
next-display fs i t k e d = let r = redex-plug fs i t e in rw (r.1, d.2.is, d.2.displays)

pub next-begun : (fs : List Frame) (i : Info) (f : Focus) (e : Exp) → begun f ≡ Some e → next (plug fs i (focus_tree f)) ≡ begins i.home (line_of e)
next-begun fs i (focus.Code h c) e b = absurd (cc)
next-begun fs i (focus.Given o done v pending) e b = absurd (cc)
next-begun fs i (focus.Redex (redexes.Look x)) e b = absurd (cc)
next-begun fs i (focus.Redex (redexes.Apply o vs)) e b = absurd (cc)
next-begun fs i (focus.Redex (redexes.Bind q v)) e b = absurd (cc)
next-begun fs i (focus.Redex (redexes.Begin x es)) e b =
    let same : x.now ≡ e = cc b in
    next-begin fs i x.now (exps_of es.now) ∙ ap (λ y. begins i.home (line_of y)) same
next-begun fs i (focus.Redex (redexes.Follow v l es)) e b = absurd (cc)

-- where a display is next no sequence is begun, and its operand is the one that is seen
no_begin : (fs : List Frame) (i : Info) (f : Focus) (b : Option Exp) → begun f ≡ b → next (plug fs i (focus_tree f)) ≡ acts act.Print → b ≡ None
no_begin fs i f None e n = refl
no_begin fs i f (Some x) e n = let b = next-begun fs i f x e in absurd (cc)

pub print_no_begin : (fs : List Frame) (i : Info) (f : Focus) → next (plug fs i (focus_tree f)) ≡ acts act.Print → begun f ≡ None
print_no_begin fs i f n = no_begin fs i f (begun f) refl n

pub displays_at : (fs : List Frame) (i : Info) (t : Run) (k : Known) (v : Datum) → value_of t ≡ None → DisplaysKnown k (leftmost t) → known_tree k ≡ value v → Displays (redex (plug fs i t)).1 v
displays_at fs i t k v e d is =
    let r = redex-plug fs i t e in
    let same : d.0 ≡ v = cc d.1 in
    rw (r.1, ← same) d.2

-- code in a hole that is no value has the redex of the node
first_redex-operands : (vs : List Datum) (t : Run) (ts : Runs) → value_of t ≡ None → first_redex (operands vs (more t ts)) ≡ leftmost t
first_redex-operands [] t ts e = rw e
first_redex-operands (v ∷ vs) t ts e = first_redex-operands vs t ts e

pub leftmost-held : (h : Holder) (t : Run) → value_of t ≡ None → leftmost (held h t) ≡ leftmost t
leftmost-held (holder.Operands o done pending) t e =
    let ts : Runs = all_running (pending_exps pending) in
    let open_ : values_of (operands done (more t ts)) ≡ None = values_of-operands done t ts e in
    rw open_ (first_redex-operands done t ts e)
leftmost-held (holder.Match q) t e = rw e
leftmost-held (holder.Sequence l es) t e = rw e
