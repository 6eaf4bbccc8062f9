-- Lemmas on the files that are held in memory.
use Rattle.std.proofs.Common.{◌≡◌, ℕ, Bool, true, false, List, [], ◌∷◌, Option, Some, None, Bor, if◌then◌else◌, nat_eq, refl, ap, sym, ◌∙◌}
use Rattle.std.specs.Prelude.{unwrap_or}
use Rattle.std.specs.Option.{option_or, option_copied}
use Rattle.std.specs.Cmp.Lexicographic.{pointwise}
use Rattle.edb_io.specs.declared.held.HeldFile.{HeldFile}
use Rattle.edb_io.specs.Held.{files_with, with_file, no_files, empty_files}

-- one more file, over the files that one looks into first
or_else : (found : Option (List ℕ)) (same : Bool) (content : List ℕ) (rest : Option (List ℕ)) → option_or found (if same then Some content else rest) ≡ option_or (option_or found (if same then Some content else None)) rest
or_else (Some bytes) same content rest = refl
or_else None true content rest = refl
or_else None false content rest = refl

-- the files that were added come before those that were there
files_with-or : (files : List ℕ → Option (List ℕ)) (held : List HeldFile) (name : List ℕ) → files_with files held name ≡ option_or (files_with no_files held name) (files name)
files_with-or files [] name = refl
files_with-or files (file ∷ held) name =
    files_with-or (with_file files file.name file.content) held name ∙ or_else (files_with no_files held name) (pointwise nat_eq name file.name) file.content (files name) ∙ sym (ap (λ found. option_or found (files name)) (files_with-or (with_file no_files file.name file.content) held name))

or_empty : (found : Option (List ℕ)) → option_or found (Some []) ≡ Some (unwrap_or found [])
or_empty (Some bytes) = refl
or_empty None = refl

-- over empty files, a name that was not added has the empty content
pub files_with-empty : (held : List HeldFile) (name : List ℕ) → files_with empty_files held name ≡ Some (unwrap_or (files_with no_files held name) [])
files_with-empty held name =
    files_with-or empty_files held name ∙ or_empty (files_with no_files held name)

-- the bytes behind the reference that `unwrap_or` gives
pub unwrapped : (found : Option (Bor (List ℕ))) (content other : Bor (List ℕ)) → content ≡ unwrap_or found other → content.now ≡ unwrap_or (option_copied found) other.now
unwrapped (Some bytes) content other is = ap (λ bytes. bytes.now) is
unwrapped None content other is = ap (λ bytes. bytes.now) is
