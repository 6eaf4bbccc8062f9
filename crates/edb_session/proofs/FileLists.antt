-- The files that are asked for, one name after the other.

use Rattle.std.proofs.Common.{◌≡◌, ℕ, ◌+◌, ◌<◌, List, [], ◌∷◌, ◌++◌, length, map, take, get_or, refl, sym, ◌∙◌, ap, ap₂}
use Rattle.std.proofs.lemmas.List.{map-append, take_more}
use denote.Ref.{Bor}
use Rattle.edb_files.specs.Asking.{asked_of}
use Rattle.edb_files.specs.InOrder.{Asked, text_file}
use Rattle.edb_files.specs.declared.reading.AskedFile.{AskedFile}
use Rattle.edb_session.specs.Views.{texts_of}

both : (xs : List (Bor (List ℕ))) → map text_file (texts_of xs) ≡ map (λ (n : Bor (List ℕ)). text_file n.now) xs
both [] = refl
both (x ∷ xs) = ap (λ ys. text_file x.now ∷ ys) (both xs)

pub files_more : (asked : List AskedFile) (names : List (Bor (List ℕ))) (i : ℕ) (name : Bor (List ℕ)) (file : AskedFile) → i < length names
    → name ≡ get_or names i name → map asked_of asked ≡ map text_file (texts_of (take i names)) → asked_of file ≡ text_file name.now
    → map asked_of (asked ++ file ∷ []) ≡ map text_file (texts_of (take (i + 1) names))
files_more asked names i name file lt is before one =
    let named : Bor (List ℕ) → Asked = λ n. text_file n.now in
    map-append asked_of asked (file ∷ [])
    ∙ (ap₂ (λ xs x. xs ++ x ∷ []) (before ∙ both (take i names)) (one ∙ ap named is)
    ∙ (sym (map-append named (take i names) (get_or names i name ∷ []))
    ∙ (ap (map named) (sym (take_more names i name lt)) ∙ sym (both (take (i + 1) names)))))
