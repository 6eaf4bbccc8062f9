-- A text that comes first, and fields that are compared with what would be written.

use Rattle.std.proofs.Common.{◌≡◌, ℕ, Bool, true, false, if◌then◌else◌, ◌&&◌, ◌==◌, nat_eq, List, [], ◌∷◌, ◌++◌, length, take, drop, Option, None, Some, refl, sym, ap, ◌∙◌}
use Rattle.std.specs.Cmp.Lexicographic.{pointwise}
use Rattle.std.proofs.lemmas.Bool.{eqb-true, eq-eqb}
use Rattle.edb_fields.specs.Chain.{◌>>=◌}
use Rattle.edb_fields.specs.Reading.{space_at, after_text, field_end, field_at}
use Rattle.edb_fields.specs.Separators.{ends}
use Rattle.edb_fields.proofs.Chains.{none_some, same_some, taken, passed, space_is}

-- as slices tell it
pub after_text_is : (text bytes : List ℕ) → after_text text bytes ≡ (if pointwise nat_eq (take (length text) bytes) text then Some (drop (length text) bytes) else None)
after_text_is [] bytes = refl
after_text_is (c ∷ cs) [] = refl
after_text_is (c ∷ cs) (d ∷ ds) = step (d == c) (after_text_is cs ds)
  where
    step : (t : Bool) → after_text cs ds ≡ (if pointwise nat_eq (take (length cs) ds) cs then Some (drop (length cs) ds) else None) → (if t then after_text cs ds else None) ≡ (if t && pointwise nat_eq (take (length cs) ds) cs then Some (drop (length cs) ds) else None)
    step true e = e
    step false e = refl

pub after_text_again : (text rest : List ℕ) → after_text text (text ++ rest) ≡ Some rest
after_text_again [] rest = refl
after_text_again (c ∷ cs) rest = rw (eq-eqb c c refl) (after_text_again cs rest)

pub after_text_parts : (text bytes rest : List ℕ) → after_text text bytes ≡ Some rest → bytes ≡ text ++ rest
after_text_parts [] bytes rest e = same_some e
after_text_parts (c ∷ cs) [] rest e = absurd (none_some e)
after_text_parts (c ∷ cs) (d ∷ ds) rest e = step (d == c) refl (λ f. after_text_parts cs ds rest f) e
  where
    step : (t : Bool) → (d == c) ≡ t → (after_text cs ds ≡ Some rest → ds ≡ cs ++ rest) → (if t then after_text cs ds else None) ≡ Some rest → d ∷ ds ≡ c ∷ (cs ++ rest)
    step true h tail e = ap (λ x. x ∷ ds) (eqb-true d c h) ∙ ap (λ xs. c ∷ xs) (tail e)
    step false h tail e = absurd (none_some e)

-- what was compared is spelled so, and the field ends
pub field_parts : {A : Type 0} (text : A → List ℕ) (read : List ℕ → Option (A × List ℕ)) (bytes : List ℕ) (a : A) (rest : List ℕ)
    → field_at text read bytes ≡ Some (a, rest) → (bytes ≡ 32 ∷ (text a ++ rest)) × (ends rest ≡ true)
field_parts {A} text read bytes a rest e =
    taken (space_at bytes) (λ from. read from >>= (λ x. field_end x.0 (after_text (text x.0) from))) e
    (λ from s e1. taken (read from) (λ x. field_end x.0 (after_text (text x.0) from)) e1
    (λ x r e2. step x from (after_text (text x.0) from) refl (space_is bytes from s) e2))
  where
    step : (x : A × List ℕ) (from : List ℕ) (o : Option (List ℕ)) → after_text (text x.0) from ≡ o → bytes ≡ 32 ∷ from → field_end x.0 o ≡ Some (a, rest) → (bytes ≡ 32 ∷ (text a ++ rest)) × (ends rest ≡ true)
    step x from None h s e = absurd (none_some e)
    step x from (Some after) h s e =
        let p = passed (ends after) e in
        let value : x.0 ≡ a = ap (λ y. y.0) p.1 in
        let tail : after ≡ rest = ap (λ y. y.1) p.1 in
        (s ∙ ap (λ from. 32 ∷ from) (after_text_parts (text x.0) from after h) ∙ ap (λ y. 32 ∷ (text y.0 ++ y.1)) p.1, sym (ap ends tail) ∙ p.0)

-- what was written is read again
pub field_again : {A : Type 0} (text : A → List ℕ) (read : List ℕ → Option (A × List ℕ)) (a : A) (rest : List ℕ)
    → read (text a ++ rest) ≡ Some (a, rest) → ends rest ≡ true → field_at text read (32 ∷ (text a ++ rest)) ≡ Some (a, rest)
field_again text read a rest e h = rw e (rw (after_text_again (text a) rest) (rw h refl))
