-- Reserved words, variables and bare atoms: their spellings are read again.

use Rattle.std.proofs.Common.{◌≡◌, ℕ, ◌≤◌, Bool, true, false, not, ◌&&◌, List, [], ◌∷◌, ◌++◌, map, length, Some, refl, ap, arith}
use Rattle.std.specs.Prelude.{chars}
use Rattle.std.specs.Char.{is_ascii_lowercase}
use Rattle.std.specs.List.{list_all, list_any}
use Rattle.std.proofs.lemmas.Bool.{and_parts, and_from, both_ways, not-true}
use Rattle.std.proofs.lemmas.Bool.Decides.{nat_tests}
use Rattle.std.proofs.lemmas.Str.{chars-IsAscii}
use Rattle.edb_lang.specs.TermText.{is_bare, is_name_byte, same_name, reserved_words}
use Rattle.edb_scan.specs.declared.classes.Class.TheVariants.{Lower, Upper}
use Rattle.edb_scan.specs.declared.lexeme.Mark.{Mark}
use Rattle.edb_scan.specs.declared.lexeme.Token.TheVariants as token
use Rattle.edb_scan.specs.declared.lexeme.Token.TheVariants.{Atom, Var}
use Rattle.edb_scan.specs.FirstByte.{class_of, Heads}
use Rattle.edb_scan.specs.Fronts.{SplitsRun, Stops}
use Rattle.edb_scan.specs.Letters.{is_lower, is_upper, is_name_char}
use Rattle.edb_scan.specs.Lexis.{Begins, Fits, IsName}
use Rattle.edb_scan.specs.MarkText.{mark_text}
use Rattle.edb_scan.specs.Spellings.{words, word_rows, IsWord}
use Rattle.edb_scan.proofs.Rows.{lists_pass, word_name}
use Rattle.edb_scan.proofs.NameLemmas.{name_ascii, word_found, atom_found, variable_found}
use Rattle.edb_print.proofs.SpelledEnds.{EndsWord}

-- whether all elements pass a test that lets more through
pub all_weaker : (p q : ℕ → Bool) (cs : List ℕ) → ((c : ℕ) → p c ≡ true → q c ≡ true) → list_all p cs ≡ true → list_all q cs ≡ true
all_weaker p q [] more h = refl
all_weaker p q (c ∷ cs) more h =
    let parts = and_parts (p c) (list_all p cs) h in and_from (q c) (list_all q cs) (more c parts.0) (all_weaker p q cs more parts.1)

lower_class : (c : ℕ) → is_lower c ≡ true → class_of c ≡ Lower
unfolding class_of
lower_class c h = grind (arith, nat_tests)

upper_class : (c : ℕ) → is_upper c ≡ true → class_of c ≡ Upper
unfolding class_of
upper_class c h = grind (arith, nat_tests)

heads_lower : (text rest : List ℕ) → IsName is_lower text → Heads Lower (text ++ rest)
heads_lower [] rest h = absurd h
heads_lower (c ∷ text) rest h = lower_class c h.0

heads_upper : (text rest : List ℕ) → IsName is_upper text → Heads Upper (text ++ rest)
heads_upper [] rest h = absurd h
heads_upper (c ∷ text) rest h = upper_class c h.0

-- a name is bytes of names
pub lower_name : (text : List ℕ) → IsName is_lower text → list_all is_name_char text ≡ true
lower_name [] h = absurd h
lower_name (c ∷ text) h = let first = h.0 in and_from (is_name_char c) (list_all is_name_char text) (grind (arith, nat_tests)) h.1

pub upper_name : (text : List ℕ) → IsName is_upper text → list_all is_name_char text ≡ true
upper_name [] h = absurd h
upper_name (c ∷ text) h = let first = h.0 in and_from (is_name_char c) (list_all is_name_char text) (grind (arith, nat_tests)) h.1

-- the run of bytes of names that begins the text is the name
whole_run : (text rest : List ℕ) → list_all is_name_char text ≡ true → EndsWord rest → SplitsRun is_name_char (text ++ rest) text rest
whole_run text rest h ends = record { cut = refl; passes = h; stops = stop rest ends }
  where
    stop : (bytes : List ℕ) → EndsWord bytes → Stops is_name_char bytes
    stop [] e = absurd e
    stop (c ∷ cs) e = e.0

pub variable_spelled : (text rest : List ℕ) → IsName is_upper text → EndsWord rest → Begins (text ++ rest) rest (Some (Var text)) × Fits (Some (Var text))
variable_spelled text rest h ends = variable_found (text ++ rest) text rest (heads_upper text rest h) (whole_run text rest (upper_name text h) ends)

pub word_spelled : (text rest : List ℕ) (m : Mark) → IsWord text m → EndsWord rest → Begins (text ++ rest) rest (Some (token.Mark m)) × Fits (Some (token.Mark m))
word_spelled text rest m word ends =
    let name = word_name text m word in word_found (text ++ rest) text rest m (heads_lower text rest name) (whole_run text rest (lower_name text name) ends) word

-- the words that are no atoms are those that the scanner knows
same_words : map mark_text words ≡ reserved_words
same_words = refl

abbrev is_reserved : List ℕ → Bool
is_reserved text = list_any (same_name text) reserved_words

words_reserved : list_all (λ row. is_reserved row.0) word_rows ≡ true
words_reserved = refl

no_word : (text : List ℕ) (m : Mark) → is_reserved text ≡ false → IsWord text m → ⊥
unfolding IsWord
no_word text m h word = both_ways (is_reserved text) h (lists_pass is_reserved word_rows text m words_reserved word)

name_byte : (c : ℕ) → is_name_byte c ≡ true → is_name_char c ≡ true
name_byte c h = grind (arith, nat_tests)

-- a name that reads as an atom without quotes
pub bare_name : (text : List ℕ) → is_bare text ≡ true → IsName is_lower text × (is_reserved text ≡ false)
bare_name [] h = absurd (cc)
bare_name (c ∷ cs) h =
    let first = and_parts (is_ascii_lowercase c) (list_all is_name_byte cs && not (is_reserved (c ∷ cs))) h in
    let others = and_parts (list_all is_name_byte cs) (not (is_reserved (c ∷ cs))) first.1 in
    ((first.0, all_weaker is_name_byte is_name_char cs name_byte others.0), not-true (is_reserved (c ∷ cs)) others.1)

pub bare_spelled : (text rest : List ℕ) → is_bare text ≡ true → length (chars text) ≤ 255 → EndsWord rest → Begins (text ++ rest) rest (Some (Atom text)) × Fits (Some (Atom text))
bare_spelled text rest h short ends =
    let name = bare_name text h in
    let bytes = lower_name text name.0 in
    let same : chars text ≡ text = chars-IsAscii text (name_ascii text bytes) in
    atom_found (text ++ rest) text rest (heads_lower text rest name.0) (whole_run text rest bytes ends) (λ m. no_word text m name.1) (omega (arith, ap length same))
