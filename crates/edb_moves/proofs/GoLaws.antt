-- The walk, one level at a time: where it goes on, and where it stops. Each holds of any handler.

use Rattle.std.proofs.Common.{◌≡◌, List, [], ◌∷◌, None, Some, refl, ap, ◌∙◌}
use Rattle.edb_lang.specs.Terms.{Datum}
use Rattle.edb_syntax.specs.Syntax as syntax
use Rattle.edb_moves.specs.Running.{Doing, Frame, sequence, match, select, and_then, or_then, generate, filter, gather, scope, caught, tried, waiting, resume, Run, value, node, around, Runs, more, all_values, value_of, values_of}
use Rattle.edb_moves.specs.Going.{Place, operand, inside, apply, filled, Effect, turns, leaves, raises, tells, Handler, within, passes, go, go_first}

-- values that stand before other operands
abbrev pub operands : List Datum → Runs → Runs
operands [] ts = ts
operands (v ∷ vs) ts = more (value v) (operands vs ts)

-- what is put back twice is put back once
pub within_within : {X Y Z : Type 0} (f : X → Y) (g : Y → Z) (e : Effect X) → within g (within f e) ≡ within (λ x. g (f x)) e
within_within f g (turns bs t) = refl
within_within f g (leaves t) = refl
within_within f g (raises c v) = refl
within_within f g (tells p r) = refl

pub values_of_all_values : (vs : List Datum) → values_of (all_values vs) ≡ Some vs
values_of_all_values [] = refl
values_of_all_values (v ∷ vs) = rw (values_of_all_values vs)

-- where one operand is no value, not all are
pub no_values : (vs : List Datum) (t : Run) (ts : Runs) → value_of t ≡ None → values_of (operands vs (more t ts)) ≡ None
no_values [] t ts e = rw e
no_values (v ∷ vs) t ts e = rw (no_values vs t ts e)

-- ALL OPERANDS ARE VALUES: this is the redex
pub go_at_values : (h : Handler) (p : Place) (o : Doing) (vs : List Datum) → go h p (node o (all_values vs)) ≡ h p (apply o vs)
unfolding go
go_at_values h p o vs = rw (values_of_all_values vs)

-- THE FIRST OPERAND that is no value is where the walk goes on
pub go_first_at : (h : Handler) (p : Place) (vs : List Datum) (t : Run) (ts : Runs) → value_of t ≡ None
    → go_first h p (operands vs (more t ts)) ≡ within (λ u. operands vs (more u ts)) (go h p t)
unfolding go
go_first_at h p [] t ts e = rw e
go_first_at h p (v ∷ vs) t ts e =
    ap (within (more (value v))) (go_first_at h p vs t ts e) ∙ within_within (λ u. operands vs (more u ts)) (more (value v)) (go h p t)

pub go_in_node : (h : Handler) (p : Place) (o : Doing) (vs : List Datum) (t : Run) (ts : Runs) → value_of t ≡ None
    → go h p (node o (operands vs (more t ts))) ≡ within (λ u. node o (operands vs (more u ts))) (go h (operand p) t)
unfolding go
go_in_node h p o vs t ts e =
    rw (no_values vs t ts e) (ap (within (node o)) (go_first_at h (operand p) vs t ts e) ∙ within_within (λ u. operands vs (more u ts)) (node o) (go h (operand p) t))

-- A FRAME: the walk goes on within it, and stops at it where its part is a value
pub go_in_frame : (h : Handler) (p : Place) (f : Frame) (t : Run) → value_of t ≡ None → go h p (around f t) ≡ passes f p (go h (inside f p) t)
unfolding go
go_in_frame h p f t e = rw e

pub go_at_frame : (h : Handler) (p : Place) (f : Frame) (v : Datum) → go h p (around f (value v)) ≡ h p (filled f v)
unfolding go
go_at_frame h p f v = refl

-- What stands within a frame sees the same process, level and Bodies.
abbrev pub SeesTheSame : Place → Place → Type 0
SeesTheSame inner outer = (inner.me ≡ outer.me) × (inner.level ≡ outer.level) × (inner.bodies ≡ outer.bodies)

pub inside_sees : (f : Frame) (p : Place) → SeesTheSame (inside f p) p
inside_sees (sequence l syntax.none) p = (refl, refl, refl)
inside_sees (sequence l (syntax.more e es)) p = (refl, refl, refl)
inside_sees (match q) p = (refl, refl, refl)
inside_sees (select cs) p = (refl, refl, refl)
inside_sees (and_then e) p = (refl, refl, refl)
inside_sees (or_then e) p = (refl, refl, refl)
inside_sees (generate q e qs) p = (refl, refl, refl)
inside_sees (filter e qs) p = (refl, refl, refl)
inside_sees (gather d v) p = (refl, refl, refl)
inside_sees (scope bs) p = (refl, refl, refl)
inside_sees (caught bs) p = (refl, refl, refl)
inside_sees (tried bs cs hs) p = (refl, refl, refl)
inside_sees (waiting bs q) p = (refl, refl, refl)
inside_sees (resume o) p = (refl, refl, refl)
