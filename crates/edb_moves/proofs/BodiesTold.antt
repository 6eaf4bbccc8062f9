-- The Bodies that a redex sees round it are the Bodies on the way to it: two pictures of one thing, one made by the walk and
-- one by looking at the tree.

use Rattle.std.proofs.Common.{◌≡◌, ℕ, List, [], ◌∷◌, ◌++◌, map, Option, None, Some, refl, ap, sym, ◌∙◌, subst}
use Rattle.std.proofs.lemmas.List.{append-nil, append_assoc, map_push}
use Rattle.std.proofs.lemmas.Option.{none-some}
use Rattle.edb_lang.specs.Terms.{Datum}
use Rattle.edb_syntax.specs.Syntax.{ModuleTree}
use Rattle.edb_moves.specs.Running.{Info, Frame, Run, value, raised, leaf, node, around, body, Runs, none, more, value_of, values_of}
use Rattle.edb_moves.specs.Going.{Place, outside, operand, inside, within_body, Redex, at, apply, filled, finished, Effect, turns, leaves, raises, tells, if_some, within, passes, closed, go, go_first}
use Rattle.edb_moves.specs.Next.{told, redex}
use Rattle.edb_moves.specs.Innermost.{bodies_on_way, bodies_among}
use Rattle.edb_moves.proofs.GoLaws.{inside_sees}

-- the module and version of a Body
abbrev pub home_of : Info × Run → ModuleTree × ℕ
home_of b = (b.0.home, b.0.version)

abbrev pub homes : List (Info × Run) → List (ModuleTree × ℕ)
homes bs = map home_of bs

-- the walk tells, and these are the Bodies there
abbrev Tells : {X : Type 0} → List (ModuleTree × ℕ) → Effect X → Type 0
Tells bodies (tells p r) = p.bodies ≡ bodies
Tells bodies (turns bs t) = ⊥
Tells bodies (leaves t) = ⊥
Tells bodies (raises c v) = ⊥

within_tells : {X Y : Type 0} (bodies : List (ModuleTree × ℕ)) (f : X → Y) (e : Effect X) → Tells bodies e → Tells bodies (within f e)
within_tells bodies f (tells p r) there = there
within_tells bodies f (turns bs t) there = there
within_tells bodies f (leaves t) there = there
within_tells bodies f (raises c v) there = there

passes_tells : (bodies : List (ModuleTree × ℕ)) (f : Frame) (p : Place) (e : Effect Run) → Tells bodies e → Tells bodies (passes f p e)
passes_tells bodies f p (tells q r) there = there
passes_tells bodies f p (turns bs t) there = absurd there
passes_tells bodies f p (leaves t) there = absurd there
passes_tells bodies f p (raises c v) there = absurd there

closed_tells : (bodies : List (ModuleTree × ℕ)) (p : Place) (i : Info) (e : Effect Run) → Tells bodies e → Tells bodies (closed p i e)
closed_tells bodies p i (tells q r) there = there
closed_tells bodies p i (turns bs t) there = absurd there
closed_tells bodies p i (leaves t) there = there
closed_tells bodies p i (raises c v) there = there

-- values have no Body
no_bodies : (t : Run) (v : Datum) → value_of t ≡ Some v → bodies_on_way t ≡ []
no_bodies (value w) v e = refl
no_bodies (raised c w) v e = refl
no_bodies (leaf l) v e = refl
no_bodies (node o ts) v e = absurd (none-some v e)
no_bodies (around f t) v e = absurd (none-some v e)
no_bodies (body i t) v e = absurd (none-some v e)

-- by whether there is a value
either_tells : {X : Type 0} (rest : List (ModuleTree × ℕ)) (o : Option Datum) (xs ys : List (Info × Run)) (a b : Effect X)
    → Tells (homes xs ++ rest) a → Tells (homes ys ++ rest) b → Tells (homes (if_some o (λ v. xs) ys) ++ rest) (if_some o (λ v. a) b)
either_tells rest (Some v) xs ys a b left right = left
either_tells rest None xs ys a b left right = right

-- by whether all are values
all_tell : (bodies : List (ModuleTree × ℕ)) (o : Option (List Datum)) (f : List Datum → Effect Run) (e : Effect Run)
    → ((vs : List Datum) → o ≡ Some vs → Tells bodies (f vs)) → Tells bodies e → Tells bodies (if_some o f e)
all_tell bodies (Some vs) f e there not = there vs refl
all_tell bodies None f e there not = not

one_tells : (bodies : List (ModuleTree × ℕ)) (o : Option Datum) (f : Datum → Effect Run) (e : Effect Run)
    → ((v : Datum) → o ≡ Some v → Tells bodies (f v)) → Tells bodies e → Tells bodies (if_some o f e)
one_tells bodies (Some v) f e there not = there v refl
one_tells bodies None f e there not = not

-- where all operands are values none has a Body
first_among : (t : Run) (ts : Runs) (vs : List Datum) (o : Option Datum) (u : Option (List Datum)) → value_of t ≡ o → values_of ts ≡ u
    → ((us : List Datum) → u ≡ Some us → bodies_among ts ≡ []) → values_of (more t ts) ≡ Some vs → bodies_among (more t ts) ≡ []
first_among t ts vs (Some v) (Some us) one others rest e = rw one (rest us refl)
first_among t ts vs (Some v) None one others rest e = absurd (none-some vs (let h : values_of (more t ts) ≡ None = rw (one, others) in sym h ∙ e))
first_among t ts vs None u one others rest e = absurd (none-some vs (let h : values_of (more t ts) ≡ None = rw one in sym h ∙ e))

none_among : (ts : Runs) (vs : List Datum) → values_of ts ≡ Some vs → bodies_among ts ≡ []
none_among none vs e = refl
none_among (more t ts) vs e = first_among t ts vs (value_of t) (values_of ts) refl refl (none_among ts) e

mutual
  unfolding go

  go_tells : (p : Place) (t : Run) → Tells (homes (bodies_on_way t) ++ p.bodies) (go tells p t)
  go_tells p (value v) = refl
  go_tells p (raised c v) = refl
  go_tells p (leaf l) = refl
  go_tells p (node o ts) =
      let bodies : List (ModuleTree × ℕ) = homes (bodies_among ts) ++ p.bodies in
      all_tell bodies (values_of ts) (λ vs. tells p (apply o vs)) (within (node o) (go_first tells (operand p) ts))
      (λ vs is. let none : bodies_among ts ≡ [] = none_among ts vs is in sym (ap (λ bs. homes bs ++ p.bodies) none))
      (within_tells bodies (node o) (go_first tells (operand p) ts) (first_tells (operand p) ts))
  go_tells p (around f t) =
      let bodies : List (ModuleTree × ℕ) = homes (bodies_on_way t) ++ p.bodies in
      let inner : Tells bodies (go tells (inside f p) t) = subst (λ (bs : List (ModuleTree × ℕ)). Tells (homes (bodies_on_way t) ++ bs) (go tells (inside f p) t)) (inside_sees f p).2 (go_tells (inside f p) t) in
      one_tells bodies (value_of t) (λ v. tells p (filled f v)) (passes f p (go tells (inside f p) t))
      (λ v is. let none : bodies_on_way t ≡ [] = no_bodies t v is in sym (ap (λ bs. homes bs ++ p.bodies) none))
      (passes_tells bodies f p (go tells (inside f p) t) inner)
  go_tells p (body i t) =
      let same : homes (bodies_on_way t ++ (i, t) ∷ []) ++ p.bodies ≡ homes (bodies_on_way t) ++ ((i.home, i.version) ∷ p.bodies) =
      ap (λ bs. bs ++ p.bodies) (map_push home_of (bodies_on_way t) (i, t)) ∙ append_assoc (homes (bodies_on_way t)) ((i.home, i.version) ∷ []) p.bodies
      in
      subst (λ (bs : List (ModuleTree × ℕ)). Tells bs (closed p i (go tells (within_body i p) t))) (sym same)
      (closed_tells (homes (bodies_on_way t) ++ ((i.home, i.version) ∷ p.bodies)) p i (go tells (within_body i p) t) (go_tells (within_body i p) t))

  first_tells : (p : Place) (ts : Runs) → Tells (homes (bodies_among ts) ++ p.bodies) (go_first tells p ts)
  first_tells p none = refl
  first_tells p (more t ts) =
      either_tells p.bodies (value_of t) (bodies_among ts) (bodies_on_way t) (within (more t) (go_first tells p ts)) (within (λ u. more u ts) (go tells p t))
      (within_tells (homes (bodies_among ts) ++ p.bodies) (more t) (go_first tells p ts) (first_tells p ts))
      (within_tells (homes (bodies_on_way t) ++ p.bodies) (λ u. more u ts) (go tells p t) (go_tells p t))

told_bodies : (bodies : List (ModuleTree × ℕ)) (outer : Place) (e : Effect Run) → Tells bodies e → (told outer e).0.bodies ≡ bodies
told_bodies bodies outer (tells p r) there = there
told_bodies bodies outer (turns bs t) there = absurd there
told_bodies bodies outer (leaves t) there = absurd there
told_bodies bodies outer (raises c v) there = absurd there

pub redex_bodies : (me : ℕ) (t : Run) → (redex me t).0.bodies ≡ homes (bodies_on_way t)
unfolding redex
redex_bodies me t =
    told_bodies (homes (bodies_on_way t) ++ []) (outside me) (go tells (outside me) t) (go_tells (outside me) t) ∙ append-nil (homes (bodies_on_way t))
