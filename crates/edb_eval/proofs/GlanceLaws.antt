-- The display among operations on values.

use Rattle.std.proofs.Common.{◌≡◌, ◌∙◌, refl, ap, sym, Bool, true, false, ◌&&◌, List, [], ◌∷◌, Option, None, Some, codes}
use Rattle.edb_lang.specs.Terms as term
use Rattle.edb_lang.specs.Terms.{Datum}
use Rattle.edb_model.specs.Running.{remote_call, Run, Runs, value, variable, node, match, sequence, body, raised, none, more, all_values, values_of}
use Rattle.edb_model.specs.Move.{is_display}
use Rattle.edb_eval.specs.Glances.{is_named, IsNotThree}

-- values that operands are, put back
more_back : (v : Datum) (ts : Runs) (vs : List Datum) (o : Option (List Datum)) → values_of ts ≡ o → values_of (more (value v) ts) ≡ Some vs → (ws : List Datum) × (values_of ts ≡ Some ws) × (vs ≡ v ∷ ws)
more_back v ts vs None e h = let g : None ≡ Some vs = rw e at h in absurd (cc)
more_back v ts vs (Some ws) e h = let g : Some (v ∷ ws) ≡ Some vs = rw e at h in (ws, e, cc)

pub values_back : (ts : Runs) (vs : List Datum) → values_of ts ≡ Some vs → ts ≡ all_values vs
values_back none [] h = refl
values_back none (v ∷ vs) h = absurd (cc)
values_back (more (value v) ts) vs h =
    let b = more_back v ts vs (values_of ts) refl h in
    rw b.2 (ap (more (value v)) (values_back ts b.0 b.1))
values_back (more (variable x) ts) vs h = absurd (cc)
values_back (more (node o us) ts) vs h = absurd (cc)
values_back (more (match q t) ts) vs h = absurd (cc)
values_back (more (sequence b l t es) ts) vs h = absurd (cc)
values_back (more (body i t) ts) vs h = absurd (cc)
values_back (more (raised c v) ts) vs h = absurd (cc)

-- a display has three operands, and the first two are these atoms
not_one : (a : Datum) → is_display remote_call (a ∷ []) ≡ false
not_one (term.atom m) = refl
not_one _ = refl

not_two : (a b : Datum) → is_display remote_call (a ∷ (b ∷ [])) ≡ false
not_two (term.atom m) (term.atom f) = refl
not_two (term.atom m) _ = refl
not_two _ b = refl

not_four : (a b c d : Datum) (vs : List Datum) → is_display remote_call (a ∷ (b ∷ (c ∷ (d ∷ vs)))) ≡ false
not_four (term.atom m) (term.atom f) c d vs = refl
not_four (term.atom m) _ c d vs = refl
not_four _ b c d vs = refl

pub not_three : (ts : Runs) (vs : List Datum) → values_of ts ≡ Some vs → IsNotThree ts → is_display remote_call vs ≡ false
not_three ts [] e n = refl
not_three ts (a ∷ []) e n = not_one a
not_three ts (a ∷ (b ∷ [])) e n = not_two a b
not_three ts (a ∷ (b ∷ (c ∷ []))) e n = absurd (n (value a) (value b) (value c) (values_back ts (a ∷ (b ∷ (c ∷ []))) e))
not_three ts (a ∷ (b ∷ (c ∷ (d ∷ vs)))) e n = not_four a b c d vs

and_false : (b : Bool) → (b && false) ≡ false
and_false true = refl
and_false false = refl

other_module : (a b c : Datum) → is_named (value a) (codes "erlang") ≡ false → is_display remote_call (a ∷ (b ∷ (c ∷ []))) ≡ false
other_module (term.atom m) (term.atom f) c e = rw e
other_module (term.atom m) _ c e = refl
other_module _ b c e = refl

other_name : (a b c : Datum) → is_named (value b) (codes "display") ≡ false → is_display remote_call (a ∷ (b ∷ (c ∷ []))) ≡ false
other_name (term.atom m) (term.atom f) c e = rw e (and_false _)
other_name (term.atom m) _ c e = refl
other_name _ b c e = refl

pub three_values : (x y z : Run) (vs : List Datum) → more x (more y (more z none)) ≡ all_values vs → (a : Datum) × (b : Datum) × (c : Datum) × (vs ≡ a ∷ (b ∷ (c ∷ []))) × (x ≡ value a) × (y ≡ value b)
three_values x y z [] e = absurd (cc)
three_values x y z (a ∷ []) e = absurd (cc)
three_values x y z (a ∷ (b ∷ [])) e = absurd (cc)
three_values x y z (a ∷ (b ∷ (c ∷ []))) e = (a, b, c, refl, cc, cc)
three_values x y z (a ∷ (b ∷ (c ∷ (d ∷ vs)))) e = absurd (cc)

pub not_erlang : (ts : Runs) (x y z : Run) (vs : List Datum) → ts ≡ more x (more y (more z none)) → values_of ts ≡ Some vs → is_named x (codes "erlang") ≡ false → is_display remote_call vs ≡ false
not_erlang ts x y z vs is e n =
    let t = three_values x y z vs (sym is ∙ values_back ts vs e) in
    let m : is_named (value t.0) (codes "erlang") ≡ false = rw (← t.4) n in
    rw t.3 (other_module t.0 t.1 t.2 m)

pub not_display : (ts : Runs) (x y z : Run) (vs : List Datum) → ts ≡ more x (more y (more z none)) → values_of ts ≡ Some vs → is_named y (codes "display") ≡ false → is_display remote_call vs ≡ false
not_display ts x y z vs is e n =
    let t = three_values x y z vs (sym is ∙ values_back ts vs e) in
    let m : is_named (value t.1) (codes "display") ≡ false = rw (← t.5) n in
    rw t.3 (other_name t.0 t.1 t.2 m)
