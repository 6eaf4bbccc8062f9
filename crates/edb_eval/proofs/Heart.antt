-- A move of the whole tree is a move at the hole, carried out through the frames.

use Rattle.std.proofs.Common.{◌≡◌, ◌∙◌, Bool, true, refl, ap, List, [], ◌∷◌, None}
use Rattle.edb_lang.specs.Terms.{Datum}
use Rattle.edb_lang.specs.Pairs.{Pairs}
use Rattle.edb_lang.specs.Syntax.{Exp, Exps, exps_of}
use Rattle.edb_lang.specs.Syntax as syntax
use Rattle.edb_model.specs.Running.{Run, Runs, Info, value, node, body, more, all_running, value_of, values_of}
use Rattle.edb_model.specs.Move.{Place, Handler, Effect, turns, leaves, raises, tells, within, outside, operand, before, go, go_first}
use Rattle.edb_lang.specs.declared.small.Class.{Class}
use Rattle.edb_eval.specs.declared.frames.Holder.{Holder}
use Rattle.edb_eval.specs.declared.frames.Holder.TheVariants as holder
use Rattle.edb_eval.specs.declared.frames.Frame.{Frame}
use Rattle.edb_eval.specs.declared.frames.Info as code
use Rattle.edb_eval.specs.declared.frames.Frame.TheVariants as frame
use Rattle.edb_eval.specs.Tree.{operation_of, pending_exps, operands, held, plug, info_of}
use Rattle.edb_eval.specs.Places.{inside, place, out, at_body, is_tail, if_last}
use Rattle.edb_eval.specs.Bodies.{outer_bodies}

pub within-within : {X Y Z : Type 0} (f : Y → Z) (g : X → Y) (e : Effect X) → within f (within g e) ≡ within (λ x. f (g x)) e
within-within f g (turns bs x) = refl
within-within f g (leaves t) = refl
within-within f g (raises c v) = refl
within-within f g (tells p r) = refl

-- operands of which one is no value are not all values
pub values_of-operands : (vs : List Datum) (t : Run) (ts : Runs) → value_of t ≡ None → values_of (operands vs (more t ts)) ≡ None
values_of-operands [] t ts e = rw e
values_of-operands (v ∷ vs) t ts e = rw (values_of-operands vs t ts e)

-- behind values, the first operand that is no value is the one that moves
pub go_first-operands : (h : Handler) (p : Place) (vs : List Datum) (t : Run) (ts : Runs) → value_of t ≡ None → go_first h p (operands vs (more t ts)) ≡ within (λ u. operands vs (more u ts)) (go h p t)
unfolding go
go_first-operands h p [] t ts e = rw e
go_first-operands h p (v ∷ vs) t ts e =
    ap (within (more (value v))) (go_first-operands h p vs t ts e) ∙ within-within (more (value v)) (λ u. operands vs (more u ts)) (go h p t)

-- a node moves by what is in its hole
pub go-held : (h : Handler) (k : Holder) (p : Place) (t : Run) → value_of t ≡ None → go h p (held k t) ≡ within (held k) (go h (inside k p) t)
unfolding go
go-held h (holder.Operands o done pending) p t e =
    let ts : Runs = all_running (pending_exps pending) in
    let none : values_of (operands done (more t ts)) ≡ None = values_of-operands done t ts e in
    rw none (ap (within (node (operation_of o))) (go_first-operands h (operand p) done t ts e) ∙ within-within (node (operation_of o)) (λ u. operands done (more u ts)) (go h (operand p) t))
go-held h (holder.Match q) p t e = rw e
go-held h (holder.Sequence l es) p t e = rw e

pub value_of-held : (k : Holder) (t : Run) → value_of (held k t) ≡ None
value_of-held (holder.Operands o done pending) t = refl
value_of-held (holder.Match q) t = refl
value_of-held (holder.Sequence l es) t = refl

-- the whole tree moves as its hole does
pub heart : (h : Handler) (fs : List Frame) (i : Info) (t : Run) → value_of t ≡ None → go h outside (plug fs i t) ≡ out fs i (go h (place fs i) t)
unfolding go
heart h [] i t e = refl
heart h (frame.Holder k ∷ fs) i t e =
    heart h fs i (held k t) (value_of-held k t) ∙ ap (out fs i) (go-held h k (place fs i) t e)
heart h (frame.Body outer ∷ fs) i t e = heart h fs (info_of outer) (body i t) refl

-- what a hole sees of its place
pub before-bindings : (es : Exps) (p : Place) → (before es p).bindings ≡ p.bindings
before-bindings syntax.none p = refl
before-bindings (syntax.more e es) p = refl

pub inside-bindings : (k : Holder) (p : Place) → (inside k p).bindings ≡ p.bindings
inside-bindings (holder.Operands o done pending) p = refl
inside-bindings (holder.Match q) p = refl
inside-bindings (holder.Sequence l es) p = before-bindings (exps_of es.now) p

pub place-bindings : (fs : List Frame) (i : Info) → (place fs i).bindings ≡ i.bindings
place-bindings [] i = refl
place-bindings (frame.Holder k ∷ fs) i = inside-bindings k (place fs i) ∙ place-bindings fs i
place-bindings (frame.Body outer ∷ fs) i = refl

pub before-level : (es : Exps) (p : Place) → (before es p).level ≡ p.level
before-level syntax.none p = refl
before-level (syntax.more e es) p = refl

pub inside-level : (k : Holder) (p : Place) → (inside k p).level ≡ p.level
inside-level (holder.Operands o done pending) p = refl
inside-level (holder.Match q) p = refl
inside-level (holder.Sequence l es) p = before-level (exps_of es.now) p

pub place-level : (fs : List Frame) (i : Info) → (place fs i).level ≡ i.level
place-level [] i = refl
place-level (frame.Holder k ∷ fs) i = inside-level k (place fs i) ∙ place-level fs i
place-level (frame.Body outer ∷ fs) i = refl

pub before-bodies : (es : Exps) (p : Place) → (before es p).bodies ≡ p.bodies
before-bodies syntax.none p = refl
before-bodies (syntax.more e es) p = refl

pub inside-bodies : (k : Holder) (p : Place) → (inside k p).bodies ≡ p.bodies
inside-bodies (holder.Operands o done pending) p = refl
inside-bodies (holder.Match q) p = refl
inside-bodies (holder.Sequence l es) p = before-bodies (exps_of es.now) p

pub place-bodies : (fs : List Frame) (i : Info) → (place fs i).bodies ≡ (i.home, i.version) ∷ outer_bodies fs
place-bodies [] i = refl
place-bodies (frame.Holder k ∷ fs) i = inside-bodies k (place fs i) ∙ place-bodies fs i
place-bodies (frame.Body outer ∷ fs) i = ap (λ bs. (i.home, i.version) ∷ bs) (place-bodies fs (info_of outer))

pub tail_of : (es : List Exp) (p : Place) (b : Bool) → p.is_tail ≡ b → (before (exps_of es) p).is_tail ≡ if_last es b
tail_of [] p b e = e
tail_of (x ∷ es) p b e = refl

pub place-is_tail : (fs : List Frame) (i : Info) → (place fs i).is_tail ≡ is_tail fs
place-is_tail [] i = refl
place-is_tail (frame.Holder (holder.Operands o done pending) ∷ fs) i = refl
place-is_tail (frame.Holder (holder.Match q) ∷ fs) i = refl
place-is_tail (frame.Holder (holder.Sequence l es) ∷ fs) i = tail_of es.now (place fs i) (is_tail fs) (place-is_tail fs i)
place-is_tail (frame.Body outer ∷ fs) i = refl

-- an expression that is no value takes its place, under the bindings that it leaves
pub turned : (fs : List Frame) (i : Info) (bs : Pairs) (t : Run) → value_of t ≡ None → out fs i (turns bs t) ≡ turns [] (plug fs (record i { bindings = bs }) t)
turned [] i bs t e = rw e
turned (frame.Holder k ∷ fs) i bs t e = turned fs i bs (held k t) (value_of-held k t)
turned (frame.Body outer ∷ fs) i bs t e =
    rw (e, place-bindings fs (info_of outer)) (turned fs (info_of outer) outer.bindings (body (record i { bindings = bs }) t) refl)

-- a Body whose sequence is a value gives that value to what is round it
pub ended : (fs : List Frame) (outer : code.Info) (i : Info) (bs : Pairs) (v : Datum) → out (frame.Body outer ∷ fs) i (turns bs (value v)) ≡ out fs (info_of outer) (turns outer.bindings (value v))
ended fs outer i bs v = ap (λ cs. out fs (info_of outer) (turns cs (value v))) (place-bindings fs (info_of outer))

-- the bindings that an effect leaves count, and not those before it
pub rebound : (fs : List Frame) (i : Info) (cs bs : Pairs) (t : Run) → out fs (record i { bindings = cs }) (turns bs t) ≡ out fs i (turns bs t)
rebound [] i cs bs t = refl
rebound (frame.Holder k ∷ fs) i cs bs t = rebound fs i cs bs (held k t)
rebound (frame.Body outer ∷ fs) i cs bs t = refl

-- a tail call takes the place of the innermost Body
pub replaced : (fs : List Frame) (i j : Info) (t : Run) → at_body fs ≡ true → out fs i (leaves (body j t)) ≡ turns [] (plug fs j t)
replaced [] i j t e = refl
replaced (frame.Holder k ∷ fs) i j t e = absurd (cc)
replaced (frame.Body outer ∷ fs) i j t e =
    rw (place-bindings fs (info_of outer)) (turned fs (info_of outer) outer.bindings (body j t) refl)

-- without a catch an exception leaves all frames
pub raised_out : (fs : List Frame) (i : Info) (c : Class) (v : Datum) → out fs i (raises c v) ≡ raises c v
raised_out [] i c v = refl
raised_out (frame.Holder k ∷ fs) i c v = raised_out fs i c v
raised_out (frame.Body outer ∷ fs) i c v = raised_out fs (info_of outer) c v

pub ruleset places = (place-bindings, place-level, place-bodies, place-is_tail)
