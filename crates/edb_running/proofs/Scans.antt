-- What is found outward of a hole, layer by layer.

use Rattle.std.proofs.Common.{Bool, false, nat_eq, ◌≡◌, ◌<◌, ◌≤◌, ◌+◌, ◌∷◌, [], ℕ, zero, suc, List, length, drop, slice_get, None, Some, refl, ap, ◌∙◌, arith}
use Rattle.std.proofs.lemmas.List.{drop_all}
use Rattle.edb_syntax.specs.Syntax.{Exp, exps_of}
use Rattle.edb_moves.specs.Running as run
use Rattle.edb_stack.specs.Parts as parts
use Rattle.edb_running.specs.Tails.{is_last}
use Rattle.edb_stack.specs.declared.body.Body.{Body}
use Rattle.edb_stack.specs.declared.doing.Doing.{Doing}
use Rattle.edb_stack.specs.declared.item.Item.{Item}
use Rattle.edb_stack.specs.declared.layer.Layer.{Layer}
use Rattle.edb_stack.specs.declared.layer.Layer.TheVariants as layer
use Rattle.edb_running.specs.Rising.{next_code}

some_same : (a b : Layer) → Some a ≡ Some b → a ≡ b
some_same a b e = cc

-- the layer at a place is the first of those from there on
first_there : (k : ℕ) (ls : List Layer) (l : Layer) → slice_get ls k ≡ Some l → (drop k ls ≡ l ∷ drop (suc k) ls) × (k < length ls)
first_there k [] l e = absurd (cc)
first_there zero (m ∷ ls) l e = (ap (λ x. x ∷ ls) (some_same m l e), omega arith)
first_there (suc k) (m ∷ ls) l e = let r : (drop k ls ≡ l ∷ drop (suc k) ls) × (k < length ls) = first_there k ls l e in (r.0, omega (arith, r.1))

pub at_place : (k : ℕ) (ls : List Layer) (l : Layer) → slice_get ls k ≡ Some l → (drop k ls ≡ l ∷ drop (k + 1) ls) × (k < length ls)
at_place k ls l e =
    let r : (drop k ls ≡ l ∷ drop (suc k) ls) × (k < length ls) = first_there k ls l e in
    let n : suc k ≡ k + 1 = omega arith in
    (r.0 ∙ ap (λ j. l ∷ drop j ls) n, r.1)

pub past_end : (k : ℕ) (ls : List Layer) → length ls ≤ k → drop k ls ≡ []
past_end k ls h = drop_all k ls h

-- a layer that is neither operands nor a Body ends the search
pub search_ends : (l : Layer) (ls : List Layer) → ((o : Doing × List Item × List Exp) → l ≡ layer.Operands o → ⊥) → ((b : Body) → l ≡ layer.Body b → ⊥) → next_code (l ∷ ls) ≡ None
search_ends (layer.Operands o) ls f g = absurd (f o refl)
search_ends (layer.Body b) ls f g = absurd (g b refl)
search_ends (layer.Sequence l es) ls f g = refl
search_ends (layer.Match q) ls f g = refl
search_ends (layer.Select cs) ls f g = refl
search_ends (layer.AndThen e) ls f g = refl
search_ends (layer.OrThen e) ls f g = refl
search_ends (layer.Generate q e qs) ls f g = refl
search_ends (layer.Filter e qs) ls f g = refl
search_ends (layer.Gather d v) ls f g = refl
search_ends (layer.Resume o) ls f g = refl
search_ends (layer.Scope m) ls f g = refl
search_ends (layer.Caught m) ls f g = refl
search_ends (layer.Tried m cs hs) ls f g = refl
search_ends (layer.Waiting m s) ls f g = refl

-- a sequence of which something follows isn't last
pub more_follow : (l : ℕ) (es : List Exp) (b : Bool) (ls : List parts.Layer) → b ≡ nat_eq (length es) 0 → b ≡ false → is_last (parts.frame (run.sequence l (exps_of es)) ∷ ls) ≡ false
more_follow l [] b ls e f = absurd (cc)
more_follow l (x ∷ es) b ls e f = refl
