-- The fields of a line, read one after the other: what each reader finds at the front of the fields that are left.

use Rattle.std.proofs.Common.{◌≡◌, ℕ, ◌<◌, ◌≤◌, ◌^◌, true, List, [], ◌∷◌, ◌++◌, Some, refl, sym, ap, ◌∙◌, append_assoc}
use Rattle.std.specs.Fmt.{decimal}
use Rattle.edb_lang.specs.Terms.{Datum}
use Rattle.edb_lang.specs.TermText.{atom_text, plain_text}
use Rattle.edb_words.specs.Words.{after_spaces}
use Rattle.edb_fields.specs.Atoms.{IsAtomName, name_at}
use Rattle.edb_fields.specs.Fronts.{IsFront}
use Rattle.edb_fields.specs.Hexadecimal.{AreBytes, hex_text, bytes_at}
use Rattle.edb_fields.specs.Literals.{IsPlain, IsPlainList}
use Rattle.edb_fields.specs.Numerals.{IsBetween, number_at}
use Rattle.edb_fields.specs.Reading.{line_end_at, after_text}
use Rattle.edb_fields.specs.Separators.{fields, ends}
use Rattle.edb_fields.specs.TermReading.{plain_at, args_at}
use Rattle.edb_fields.proofs.AtomLaws.{name_exact}
use Rattle.edb_fields.proofs.HexLaws.{bytes_exact}
use Rattle.edb_fields.proofs.NumberLaws.{number_exact}
use Rattle.edb_fields.proofs.TermLaws.{plain_exact, args_exact}
use Rattle.edb_fields.proofs.Texts.{after_text_again}

-- each field ends where the next begins, or the line does
pub fields_end : (fs : List (List ℕ)) (rest : List ℕ) → ends (fields fs ++ rest) ≡ true
unfolding fields
fields_end [] rest = refl
fields_end (f ∷ fs) rest = refl

first_field : (f : List ℕ) (fs : List (List ℕ)) (rest : List ℕ) → fields (f ∷ fs) ++ rest ≡ 32 ∷ (f ++ (fields fs ++ rest))
unfolding fields
first_field f fs rest = ap (λ bytes. 32 ∷ bytes) (append_assoc f (fields fs) rest)

pub front_of : {A : Type 0} (text : A → List ℕ) (Fits : A → Type 0) (a : A) → Fits a → (fs : List (List ℕ)) (rest : List ℕ)
    → IsFront text Fits (fields (text a ∷ fs) ++ rest) a (fields fs ++ rest)
front_of text Fits a fits fs rest = record { parts = first_field (text a) fs rest; closed = fields_end fs rest; fits = fits }

pub number_field : (least most n : ℕ) → most < 10 ^ 64 → least ≤ n → n ≤ most → (fs : List (List ℕ)) (rest : List ℕ)
    → number_at least most (fields (decimal n ∷ fs) ++ rest) ≡ Some (n, fields fs ++ rest)
number_field least most n wide low high fs rest =
    (number_exact least most wide (fields (decimal n ∷ fs) ++ rest)).complete n (fields fs ++ rest) (front_of decimal (IsBetween least most) n (low, high) fs rest)

pub bytes_field : (bs : List ℕ) → AreBytes bs → (fs : List (List ℕ)) (rest : List ℕ) → bytes_at (fields (hex_text bs ∷ fs) ++ rest) ≡ Some (bs, fields fs ++ rest)
bytes_field bs are fs rest = (bytes_exact (fields (hex_text bs ∷ fs) ++ rest)).complete bs (fields fs ++ rest) (front_of hex_text AreBytes bs are fs rest)

pub name_field : (name : List ℕ) → IsAtomName name → (fs : List (List ℕ)) (rest : List ℕ) → name_at (fields (atom_text name ∷ fs) ++ rest) ≡ Some (name, fields fs ++ rest)
name_field name is fs rest = (name_exact (fields (atom_text name ∷ fs) ++ rest)).complete name (fields fs ++ rest) (front_of atom_text IsAtomName name is fs rest)

pub term_field : (levels room : ℕ) (t : Datum) → IsPlain levels room t → (fs : List (List ℕ)) (rest : List ℕ)
    → plain_at levels room (fields (plain_text t ∷ fs) ++ rest) ≡ Some (t, fields fs ++ rest)
term_field levels room t is fs rest =
    (plain_exact levels room (fields (plain_text t ∷ fs) ++ rest)).complete t (fields fs ++ rest) (front_of plain_text (IsPlain levels room) t is fs rest)

pub list_field : (t : Datum) → IsPlainList t → (fs : List (List ℕ)) (rest : List ℕ) → args_at (fields (plain_text t ∷ fs) ++ rest) ≡ Some (t, fields fs ++ rest)
list_field t is fs rest = (args_exact (fields (plain_text t ∷ fs) ++ rest)).complete t (fields fs ++ rest) (front_of plain_text IsPlainList t is fs rest)

-- a word, after its space
pub word_field : (word : List ℕ) (fs : List (List ℕ)) (rest : List ℕ) → after_text (32 ∷ word) (fields (word ∷ fs) ++ rest) ≡ Some (fields fs ++ rest)
word_field word fs rest = ap (after_text (32 ∷ word)) (first_field word fs rest) ∙ after_text_again (32 ∷ word) (fields fs ++ rest)

pub line_end : (rest : List ℕ) → line_end_at (fields [] ++ rest) ≡ Some rest
unfolding fields
line_end rest = refl

-- the same by the words after spaces that a writer puts
pub fields_spaced : (fs : List (List ℕ)) → fields fs ≡ after_spaces fs ++ 10 ∷ []
unfolding fields
fields_spaced [] = refl
fields_spaced (f ∷ fs) =
    ap (λ others. 32 ∷ (f ++ others)) (fields_spaced fs) ∙ ap (λ bytes. 32 ∷ bytes) (sym (append_assoc f (after_spaces fs) (10 ∷ [])))
