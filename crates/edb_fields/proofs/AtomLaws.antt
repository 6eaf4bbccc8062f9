-- Atoms: what is read is spelled so, and what was written is read again.

use Rattle.std.proofs.Common.{◌≡◌, ℕ, zero, suc, ◌+◌, ◌*◌, ◌/◌, ◌%◌, ◌<◌, ◌≤◌, nat_le, nat_lt, Bool, true, false, not, if◌then◌else◌, ◌&&◌, ◌||◌, ◌==◌, List, [], ◌∷◌, ◌++◌, length, Option, None, Some, refl, sym, ap, ◌∙◌, subst, arith, append_assoc, append-nil}
use Rattle.std.specs.Prelude.{IsUtf8, chars}
use Rattle.std.specs.Char.{is_ascii_lowercase}
use Rattle.std.specs.Fmt.{digit_glyph}
use Rattle.std.specs.List.{list_all, list_any, flat_map}
use Rattle.std.specs.Str.{is_utf8}
use Rattle.std.proofs.lemmas.Bool.{leb-true}
use Rattle.std.proofs.lemmas.Bool.Decides.{nat_tests}
use Rattle.std.proofs.lemmas.Str.{IsUtf8-from_is_utf8, is_utf8-from_IsUtf8}
use Rattle.edb_lang.specs.TermText.{is_name_byte, is_bare, reserved_words, same_name, letter_of, escaped, quoted, atom_text}
use Rattle.edb_fields.specs.Atoms.{IsAtomName, is_atom_name, named, letter_value, unquoted_at, bare_at, spelled_at, atom_at, name_at}
use Rattle.edb_fields.specs.Chain.{◌>>=◌}
use Rattle.edb_fields.specs.declared.atoms.Quote.TheVariants.{Plain}
use Rattle.edb_fields.specs.Fronts.{IsFront}
use Rattle.edb_fields.specs.Reading.{space_at, after_text, field_end}
use Rattle.edb_fields.specs.Separators.{ends}
use Rattle.edb_fields.proofs.Chains.{none_some, same_some, taken, passed, both}
use Rattle.edb_fields.proofs.HexLaws.{digit_again}
use Rattle.edb_fields.proofs.Texts.{field_parts, field_again}
use Rattle.edb_fields.proofs.Told.{Exact}

-- a name ends here
abbrev pub Stops : List ℕ → Type 0
Stops [] = Unit {0}
Stops (c ∷ cs) = is_name_byte c ≡ false

pub stops_at_end : (rest : List ℕ) → ends rest ≡ true → Stops rest
stops_at_end [] h = tt
stops_at_end (c ∷ cs) h = grind (arith, nat_tests)

-- the tests of the code
pub named_kept : (name : List ℕ) → IsUtf8 name → length (chars name) ≤ 255 → named name ≡ Some name
named_kept name utf8 short = let few : nat_le (length (chars name)) 255 ≡ true = grind (arith, nat_tests) in rw (is_utf8-from_IsUtf8 name utf8) (rw few refl)

pub named_long : (name : List ℕ) → IsUtf8 name → 255 < length (chars name) → named name ≡ None
named_long name utf8 long = let many : nat_le (length (chars name)) 255 ≡ false = grind (arith, nat_tests) in rw (is_utf8-from_IsUtf8 name utf8) (rw many refl)

pub named_bad : (name : List ℕ) → (IsUtf8 name → ⊥) → named name ≡ None
named_bad name bad = step (is_utf8 name) refl
  where
    step : (b : Bool) → is_utf8 name ≡ b → (if b && nat_le (length (chars name)) 255 then Some name else None) ≡ None
    step true h = absurd (bad (IsUtf8-from_is_utf8 name h))
    step false h = refl

named_sound : (characters name : List ℕ) → named characters ≡ Some name → (characters ≡ name) × IsAtomName name
named_sound characters name e =
    let p = passed (is_atom_name characters) e in
    let t = both (is_utf8 characters) (nat_le (length (chars characters)) 255) p.0 in
    (p.1, subst IsAtomName p.1 (IsUtf8-from_is_utf8 characters t.0, leb-true (length (chars characters)) 255 t.1))

-- each byte as it is written between quotes
letter_back : (c l : ℕ) → letter_of c ≡ Some l → ((l == 120) ≡ false) × (letter_value l ≡ Some c)
letter_back c l e = (grind (arith, nat_tests), grind (arith, nat_tests))

after_letter : (l c : ℕ) (name more : List ℕ) → (l == 120) ≡ false → letter_value l ≡ Some c
    → unquoted_at Plain name (92 ∷ l ∷ more) ≡ unquoted_at Plain (name ++ c ∷ []) more
after_letter l c name more h e = rw h (rw e refl)

after_digits : (c : ℕ) (name more : List ℕ) → c < 32
    → unquoted_at Plain name (92 ∷ 120 ∷ digit_glyph false (c / 16) ∷ digit_glyph false (c % 16) ∷ more) ≡ unquoted_at Plain (name ++ c ∷ []) more
after_digits c name more h = step (c / 16) (c % 16) (omega (arith, h)) (omega arith) (omega arith)
  where
    low : (v : ℕ) → v < 16 → v ≡ c → unquoted_at Plain name (92 ∷ 120 ∷ 48 ∷ digit_glyph false v ∷ more) ≡ unquoted_at Plain (name ++ c ∷ []) more
    low v small e = rw (digit_again v small) (ap (λ b. unquoted_at Plain (name ++ b ∷ []) more) e)

    teen : (v : ℕ) → v < 16 → 16 + v ≡ c → unquoted_at Plain name (92 ∷ 120 ∷ 49 ∷ digit_glyph false v ∷ more) ≡ unquoted_at Plain (name ++ c ∷ []) more
    teen v small e = rw (digit_again v small) (ap (λ b. unquoted_at Plain (name ++ b ∷ []) more) e)

    step : (h v : ℕ) → h < 2 → v < 16 → h * 16 + v ≡ c → unquoted_at Plain name (92 ∷ 120 ∷ digit_glyph false h ∷ digit_glyph false v ∷ more) ≡ unquoted_at Plain (name ++ c ∷ []) more
    step zero v few small e = low v small (omega (arith, e))
    step (suc zero) v few small e = teen v small (omega (arith, e))
    step (suc (suc h)) v few small e = absurd (omega (arith, few))

itself : (c : ℕ) (name more : List ℕ) → (c == 39) ≡ false → (c == 92) ≡ false → unquoted_at Plain name (c ∷ more) ≡ unquoted_at Plain (name ++ c ∷ []) more
itself c name more q b = rw q (rw b refl)

byte_again : (c : ℕ) (name more : List ℕ) → unquoted_at Plain name (escaped 39 c ++ more) ≡ unquoted_at Plain (name ++ c ∷ []) more
byte_again c name more = first (c == 39 || c == 92) refl
  where
    Law : List ℕ → Type 0
    Law text = unquoted_at Plain name (text ++ more) ≡ unquoted_at Plain (name ++ c ∷ []) more

    third : (o : Option ℕ) → letter_of c ≡ o → (c == 39 || c == 92) ≡ false → (nat_lt c 32 || c == 127) ≡ true → Law (escaped 39 c)
    third (Some l) e g h = let p = letter_back c l e in rw g (rw h (rw e (after_letter l c name more p.0 p.1)))
    third None e g h = rw g (rw h (rw e (after_digits c name more (grind (arith, nat_tests)))))

    second : (b : Bool) → (nat_lt c 32 || c == 127) ≡ b → (c == 39 || c == 92) ≡ false → Law (escaped 39 c)
    second true h g = third (letter_of c) refl g h
    second false h g = rw g (rw h (itself c name more (grind (arith, nat_tests)) (grind (arith, nat_tests))))

    first : (b : Bool) → (c == 39 || c == 92) ≡ b → Law (escaped 39 c)
    first true h = rw h (after_letter c c name more (grind (arith, nat_tests)) (grind (arith, nat_tests)))
    first false h = second (nat_lt c 32 || c == 127) refl h

unquoted_again : (bs name rest : List ℕ) → unquoted_at Plain name ((flat_map (escaped 39) bs ++ 39 ∷ []) ++ rest) ≡ Some (name ++ bs, rest)
unquoted_again [] name rest = ap (λ n. Some (n, rest)) (sym (append-nil name))
unquoted_again (b ∷ bs) name rest =
    ap (λ t. unquoted_at Plain name t) (ap (λ t. t ++ rest) (append_assoc (escaped 39 b) (flat_map (escaped 39) bs) (39 ∷ [])) ∙ append_assoc (escaped 39 b) (flat_map (escaped 39) bs ++ 39 ∷ []) rest)
    ∙ byte_again b name ((flat_map (escaped 39) bs ++ 39 ∷ []) ++ rest)
    ∙ unquoted_again bs (name ++ b ∷ []) rest
    ∙ ap (λ n. Some (n, rest)) (append_assoc name (b ∷ []) bs)

bare_again : (bs name rest : List ℕ) → list_all is_name_byte bs ≡ true → Stops rest → bare_at name (bs ++ rest) ≡ (name ++ bs, rest)
bare_again [] name [] all h = ap (λ n. (n, [])) (sym (append-nil name))
bare_again [] name (c ∷ cs) all h = rw h (ap (λ n. (n, c ∷ cs)) (sym (append-nil name)))
bare_again (b ∷ bs) name rest all h =
    let p = both (is_name_byte b) (list_all is_name_byte bs) all in
    rw p.0 (bare_again bs (name ++ b ∷ []) rest p.1 h ∙ ap (λ n. (n, rest)) (append_assoc name (b ∷ []) bs))

spelled_again : (name rest : List ℕ) → Stops rest → spelled_at (atom_text name ++ rest) ≡ Some (name, rest)
spelled_again name rest h = step (is_bare name) refl
  where
    bare_name : (name : List ℕ) → is_bare name ≡ true → spelled_at (name ++ rest) ≡ Some (name, rest)
    bare_name [] e = absurd (none_some (ap (λ b. if b then Some b else None) e))
    bare_name (c ∷ cs) e =
        let p = both (is_ascii_lowercase c) (list_all is_name_byte cs && not (list_any (same_name (c ∷ cs)) reserved_words)) e in
        let q = both (list_all is_name_byte cs) (not (list_any (same_name (c ∷ cs)) reserved_words)) p.1 in
        let letter : is_name_byte c ≡ true = grind (arith, nat_tests, p.0) in
        let no_quote : (c == 39) ≡ false = grind (arith, nat_tests, p.0) in
        rw no_quote (ap Some (bare_again (c ∷ cs) [] rest (rw letter q.0) h))

    step : (b : Bool) → is_bare name ≡ b → spelled_at ((if b then name else quoted 39 name) ++ rest) ≡ Some (name, rest)
    step true e = bare_name name e
    step false e = unquoted_again name [] rest

pub atom_again : (name rest : List ℕ) → IsAtomName name → Stops rest → atom_at (atom_text name ++ rest) ≡ Some (name, rest)
atom_again name rest is h = rw (spelled_again name rest h) (rw (named_kept name is.0 is.1) refl)

pub atom_name : (bytes name rest : List ℕ) → atom_at bytes ≡ Some (name, rest) → IsAtomName name
atom_name bytes name rest e =
    taken (spelled_at bytes) (λ x. named x.0 >>= (λ n. Some (n, x.1))) e
    (λ x s e1. taken (named x.0) (λ n. Some (n, x.1)) e1
    (λ n k e2. subst IsAtomName (ap (λ y. y.0) (same_some e2)) (named_sound x.0 n k).1))

name_sound : (bytes name rest : List ℕ) → name_at bytes ≡ Some (name, rest) → IsFront atom_text IsAtomName bytes name rest
name_sound bytes name rest e =
    let p = field_parts atom_text atom_at bytes name rest e in
    record { parts = p.0; closed = p.1; fits = fits }
  where
    value : (name2 : List ℕ) (o : Option (List ℕ)) → field_end name2 o ≡ Some (name, rest) → name2 ≡ name
    value name2 None e = absurd (none_some e)
    value name2 (Some after) e = ap (λ y. y.0) (passed (ends after) e).1

    fits : IsAtomName name
    fits = taken (space_at bytes) (λ from. atom_at from >>= (λ x. field_end x.0 (after_text (atom_text x.0) from))) e
        (λ from s e1. taken (atom_at from) (λ x. field_end x.0 (after_text (atom_text x.0) from)) e1
        (λ x a e2. subst IsAtomName (value x.0 (after_text (atom_text x.0) from) e2) (atom_name from x.0 x.1 a)))

pub name_exact : (bytes : List ℕ) → Exact atom_text IsAtomName bytes (name_at bytes)
name_exact bytes = record {
  sound = name_sound bytes;
  complete = λ name rest front. ap name_at front.parts ∙ field_again atom_text atom_at name rest (atom_again name rest front.fits (stops_at_end rest front.closed)) front.closed;
}

pub ruleset names = (named_kept, named_long, named_bad)
