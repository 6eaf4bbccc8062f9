-- What is known of frames by their innermost one, and by those behind a depth.

use Rattle.std.proofs.Common.{◌≡◌, ◌∙◌, ℕ, ◌+◌, Bool, true, false, refl, ap, sym, List, [], ◌∷◌, length, drop, Option, None, Some, arith}
use Rattle.std.specs.List.{slice_get}
use Rattle.std.proofs.Common.{cond, ◌==◌}
use Rattle.std.proofs.lemmas.Bool.Decides.{nat_tests}
use denote.Ref.{Bor}
use Rattle.edb_lang.specs.Syntax.{Exp}
use Rattle.edb_lang.specs.TermText.{same_name}
use Rattle.edb_model.specs.Lookup.{version_beside}
use Rattle.edb_eval.specs.declared.frames.Holder.{Holder}
use Rattle.edb_eval.specs.declared.frames.Holder.TheVariants as holder
use Rattle.edb_eval.specs.declared.frames.Frame.{Frame}
use Rattle.edb_eval.specs.declared.frames.Frame.TheVariants as frame
use Rattle.edb_eval.specs.Bodies.{outer_bodies}
use Rattle.edb_eval.specs.Places.{is_tail, if_last}
use Rattle.std.proofs.lemmas.List.{drop_more}
use Rattle.std.proofs.lemmas.Option.{slice_get_within, get_or_from_slice_get}

-- what is behind a depth, by the item that is there
pub drop-slice_get : {X : Type 0} (xs : List X) (k : ℕ) (x : X) → slice_get xs k ≡ Some x → drop k xs ≡ x ∷ drop (k + 1) xs
drop-slice_get xs k x e =
    drop_more xs k x (slice_get_within xs k x e) ∙ ap (λ y. y ∷ drop (k + 1) xs) (get_or_from_slice_get xs k x x e)

pub if_last-none : (es : List Exp) (b : Bool) → (length es == 0) ≡ true → if_last es b ≡ b
if_last-none [] b e = refl
if_last-none (x ∷ xs) b e = absurd (grind (arith, nat_tests))

-- a sequence of which no expression is left passes the tail on
pub tail_next : (fs : List Frame) (k : ℕ) (f : Frame) (h : Holder) (l : ℕ) (es : Bor (List Exp)) → slice_get fs k ≡ Some f → f ≡ frame.Holder h → h ≡ holder.Sequence l es → (length es.now == 0) ≡ true → is_tail (drop (k + 1) fs) ≡ is_tail (drop k fs)
tail_next fs k f h l es at is seq last =
    rw (drop-slice_get fs k f at, is, seq) (sym (if_last-none es.now (is_tail (drop (k + 1) fs)) last))

-- the first pair of a name decides, where there is one
pick_none : (b : Bool) (k : ℕ) (rest : Option ℕ) → cond b (Some k) None ≡ None → cond b (Some k) rest ≡ rest
pick_none true k rest e = absurd (cc)
pick_none false k rest e = refl

pick_some : (b : Bool) (j k : ℕ) (rest : Option ℕ) → cond b (Some j) None ≡ Some k → cond b (Some j) rest ≡ Some k
pick_some true j k rest e = e
pick_some false j k rest e = absurd (cc)

pub beside_none : (m : List ℕ) (f : Frame) (fs : List Frame) → version_beside m (outer_bodies (f ∷ [])) ≡ None → version_beside m (outer_bodies (f ∷ fs)) ≡ version_beside m (outer_bodies fs)
beside_none m (frame.Holder h) fs e = refl
beside_none m (frame.Body o) fs e = pick_none (same_name o.home m) o.version (version_beside m (outer_bodies fs)) e

pub beside_some : (m : List ℕ) (f : Frame) (fs : List Frame) (k : ℕ) → version_beside m (outer_bodies (f ∷ [])) ≡ Some k → version_beside m (outer_bodies (f ∷ fs)) ≡ Some k
beside_some m (frame.Holder h) fs k e = absurd (cc)
beside_some m (frame.Body o) fs k e = pick_some (same_name o.home m) o.version k (version_beside m (outer_bodies fs)) e

pub passes : (m : List ℕ) (fs : List Frame) (n : ℕ) (f : Frame) → slice_get fs n ≡ Some f → version_beside m (outer_bodies (f ∷ [])) ≡ None → version_beside m (outer_bodies (drop (n + 1) fs)) ≡ version_beside m (outer_bodies (drop n fs))
passes m fs n f at none = rw (drop-slice_get fs n f at) (sym (beside_none m f (drop (n + 1) fs) none))

pub finds : (m : List ℕ) (fs : List Frame) (n : ℕ) (f : Frame) (k : ℕ) → slice_get fs n ≡ Some f → version_beside m (outer_bodies (f ∷ [])) ≡ Some k → version_beside m (outer_bodies (drop n fs)) ≡ Some k
finds m fs n f k at some = rw (drop-slice_get fs n f at) (beside_some m f (drop (n + 1) fs) k some)

pub ruleset depths = (drop-slice_get)
