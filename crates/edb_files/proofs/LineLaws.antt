-- What the writes of a line and of pieces come to.

use Rattle.std.proofs.Common.{◌≡◌, ◌∙◌, inl, inr, ℕ, Bool, List, [], ◌∷◌, ◌++◌, Option, Some, append-nil, append_assoc, ap, refl, sym}
use Rattle.edb_io.specs.Writes.{Appended, AppendedPart}
use Rattle.edb_files.specs.Lines.{IsLineWritten}

no_front : (front rest : List ℕ) → front ++ rest ≡ [] → front ≡ []
no_front [] rest is = refl
no_front (c ∷ front) rest is = absurd (cc)

-- of an empty line nothing was written
pub nothing_written : (old new : Option (List ℕ)) (before now : ℕ) (was is : Bool) → IsLineWritten [] old new before now was is → Appended old new []
nothing_written old new before now was is (inl all) = all.0
nothing_written old new before now was is (inr part) = λ had h.
    let p = part.0 had h in
    p.2 ∙ ap (λ (t : List ℕ). Some (had ++ t)) (no_front p.0 p.1.0 p.1.1)

-- and nothing is written if the sink has what it had
pub unwritten : (old new : Option (List ℕ)) → new ≡ old → Appended old new []
unwritten old new is = λ had h. is ∙ (h ∙ ap Some (sym (append-nil had)))

-- all of a piece is a part of it
pub part_of_all : (old new : Option (List ℕ)) (piece : List ℕ) → Appended old new piece → AppendedPart old new piece
part_of_all old new piece all = λ had h. (piece, ([], append-nil piece), all had h)

-- one piece written, and then another
pub appended_more : (old middle new : Option (List ℕ)) (front piece : List ℕ) → Appended old middle front → Appended middle new piece → Appended old new (front ++ piece)
appended_more old middle new front piece first then = λ had h. then (had ++ front) (first had h) ∙ ap Some (append_assoc had front piece)

-- one piece written, and then a part of another: a part of the whole
pub part_more : (old middle new : Option (List ℕ)) (front piece rest whole : List ℕ) → Appended old middle front → AppendedPart middle new piece
    → (front ++ piece) ++ rest ≡ whole → AppendedPart old new whole
part_more old middle new front piece rest whole first then is = λ had h.
    let p = then (had ++ front) (first had h) in
    let parts : (front ++ p.0) ++ (p.1.0 ++ rest) ≡ (front ++ piece) ++ rest
    = sym (append_assoc (front ++ p.0) p.1.0 rest)
    ∙ ap (λ (t : List ℕ). t ++ rest) (append_assoc front p.0 p.1.0 ∙ ap (λ (t : List ℕ). front ++ t) p.1.1) in
    (front ++ p.0, (p.1.0 ++ rest, parts ∙ is), p.2 ∙ ap Some (append_assoc had front p.0))
