-- Bytes in hexadecimal: what is read is spelled so, and what was written is read again.

use Rattle.std.proofs.Common.{◌≡◌, ℕ, ◌+◌, ◌-◌, ◌*◌, ◌/◌, ◌%◌, ◌<◌, nat_le, true, false, if◌then◌else◌, ◌&&◌, ◌==◌, List, [], ◌∷◌, ◌++◌, Option, None, Some, refl, sym, ap, ◌∙◌, subst, arith, append_assoc}
use Rattle.std.proofs.Common.{append-nil}
use Rattle.std.specs.Char.{is_ascii_digit}
use Rattle.std.specs.Fmt.{digit_glyph}
use Rattle.std.specs.List.{flat_map}
use Rattle.std.proofs.lemmas.Bool.{eqb-true}
use Rattle.std.proofs.lemmas.Bool.Decides.{nat_tests}
use Rattle.edb_fields.specs.Chain.{◌>>=◌}
use Rattle.edb_fields.specs.Fronts.{IsFront}
use Rattle.edb_fields.specs.Hexadecimal.{AreBytes, byte_digits, hex_text, hex_value, byte_of, go_on, pairs_at, some_bytes, digits_or_none, bytes_at}
use Rattle.edb_fields.specs.Reading.{space_at}
use Rattle.edb_fields.specs.Separators.{ends}
use Rattle.edb_fields.proofs.Chains.{none_some, same_some, taken, passed, either_read, got, space_is}
use Rattle.edb_fields.proofs.Told.{Exact}

-- a step of the code
pub pair_read : (found bytes after rest : List ℕ) (c d b : ℕ) → bytes ≡ c ∷ after → after ≡ d ∷ rest → byte_of c d ≡ Some b → pairs_at found bytes ≡ pairs_at (found ++ b ∷ []) rest
pair_read found bytes after rest c d b e f g = rw (e, f) (rw g refl)

digit_back : (c v : ℕ) → hex_value c ≡ Some v → (digit_glyph false v ≡ c) × (v < 16)
digit_back c v e = either_read (is_ascii_digit c) (Some (c - 48)) (if nat_le 97 c && nat_le c 102 then Some (c - 87) else None) e
    (λ h f. subst Law (same_some f) (low h))
    (λ h f. let p = passed (nat_le 97 c && nat_le c 102) f in subst Law p.1 (high p.0))
  where
    Law : ℕ → Type 0
    Law v = (digit_glyph false v ≡ c) × (v < 16)

    low : is_ascii_digit c ≡ true → Law (c - 48)
    low h = (grind (arith, nat_tests), grind (arith, nat_tests))

    high : (nat_le 97 c && nat_le c 102) ≡ true → Law (c - 87)
    high h = (grind (arith, nat_tests), grind (arith, nat_tests))

pub digit_again : (v : ℕ) → v < 16 → hex_value (digit_glyph false v) ≡ Some v
digit_again v h = grind (arith, nat_tests)

byte_back : (c d b : ℕ) → byte_of c d ≡ Some b → (byte_digits b ≡ c ∷ d ∷ []) × (b < 256)
byte_back c d b e =
    taken (hex_value c) (λ high. hex_value d >>= (λ low. Some (high * 16 + low))) e (λ high h e1.
    taken (hex_value d) (λ low. Some (high * 16 + low)) e1 (λ low l e2.
    let p = digit_back c high h in
    let q = digit_back d low l in
    let value : high * 16 + low ≡ b = same_some e2 in
    let front : b / 16 ≡ high = omega (arith, value, q.1) in
    let last : b % 16 ≡ low = omega (arith, value, q.1) in (
      ap (λ v. digit_glyph false v ∷ digit_glyph false (b % 16) ∷ []) front ∙ ap (λ v. digit_glyph false high ∷ digit_glyph false v ∷ []) last
          ∙ ap (λ x. x ∷ digit_glyph false low ∷ []) p.0 ∙ ap (λ x. c ∷ x ∷ []) q.0,
      omega (arith, value, p.1, q.1),
    )))

byte_again : (b : ℕ) → b < 256 → byte_of (digit_glyph false (b / 16)) (digit_glyph false (b % 16)) ≡ Some b
byte_again b h =
    rw (digit_again (b / 16) (omega (arith, h)), digit_again (b % 16) (omega arith)) (ap Some (omega arith))

-- what pairs of digits write, without an accumulator
record Pairs (found bytes : List ℕ) (read : List ℕ × List ℕ) : Type 0 where
  new : List ℕ
  all : read.0 ≡ found ++ new
  parts : bytes ≡ flat_map byte_digits new ++ read.1
  are : AreBytes new

pairs_sound : (found bytes : List ℕ) → Pairs found bytes (pairs_at found bytes)
pairs_sound found [] = record { new = []; all = sym (append-nil found); parts = refl; are = tt }
pairs_sound found (c ∷ []) = record { new = []; all = sym (append-nil found); parts = refl; are = tt }
pairs_sound found (c ∷ d ∷ cs) = step (byte_of c d) refl (λ b. pairs_sound (found ++ b ∷ []) cs)
  where
    step : (o : Option ℕ) → byte_of c d ≡ o → ((b : ℕ) → Pairs (found ++ b ∷ []) cs (pairs_at (found ++ b ∷ []) cs)) → Pairs found (c ∷ d ∷ cs) (go_on o (λ b. pairs_at (found ++ b ∷ []) cs) (found, c ∷ d ∷ cs))
    step None h others = record { new = []; all = sym (append-nil found); parts = refl; are = tt }
    step (Some b) h others =
        let p = others b in
        let q = byte_back c d b h in
        record {
          new = b ∷ p.new;
          all = p.all ∙ append_assoc found (b ∷ []) p.new;
          parts = ap (λ x. x ++ cs) (sym q.0) ∙ ap (λ x. byte_digits b ++ x) p.parts;
          are = (q.1, p.are);
        }

no_pair : (found rest : List ℕ) → ends rest ≡ true → pairs_at found rest ≡ (found, rest)
no_pair found [] h = refl
no_pair found (c ∷ []) h = refl
no_pair found (c ∷ d ∷ cs) h = let none : hex_value c ≡ None = grind (arith, nat_tests) in rw none refl

pairs_again : (bs found rest : List ℕ) → AreBytes bs → ends rest ≡ true → pairs_at found (flat_map byte_digits bs ++ rest) ≡ (found ++ bs, rest)
pairs_again [] found rest are h = no_pair found rest h ∙ ap (λ x. (x, rest)) (sym (append-nil found))
pairs_again (b ∷ bs) found rest are h =
    pair_read found (flat_map byte_digits (b ∷ bs) ++ rest) (digit_glyph false (b % 16) ∷ (flat_map byte_digits bs ++ rest)) (flat_map byte_digits bs ++ rest)
    (digit_glyph false (b / 16)) (digit_glyph false (b % 16)) b refl refl (byte_again b are.0)
    ∙ pairs_again bs (found ++ b ∷ []) rest are.1 h ∙ ap (λ x. (x, rest)) (append_assoc found (b ∷ []) bs)

no_dash : (v : ℕ) → v < 16 → (digit_glyph false v == 45) ≡ false
no_dash v h = grind (arith, nat_tests)

pub bytes_again : (bs rest : List ℕ) → AreBytes bs → ends rest ≡ true → bytes_at (32 ∷ (hex_text bs ++ rest)) ≡ Some (bs, rest)
bytes_again [] rest are h = rw h refl
bytes_again (b ∷ bs) rest are h =
    rw (no_dash (b / 16) (omega (arith, are.0))) (rw (pairs_again (b ∷ bs) [] rest are h) (rw h refl))

bytes_sound : (bytes bs rest : List ℕ) → bytes_at bytes ≡ Some (bs, rest) → IsFront hex_text AreBytes bytes bs rest
bytes_sound bytes bs rest e = taken (space_at bytes) digits_or_none e (λ from s e1. opened from (space_is bytes from s) e1)
  where
    Front : List ℕ × List ℕ → Type 0
    Front y = IsFront hex_text AreBytes bytes y.0 y.1

    some : (from : List ℕ) (x : List ℕ × List ℕ) → bytes ≡ 32 ∷ from → Pairs [] from x → some_bytes x ≡ Some (bs, rest) → Front (bs, rest)
    some from ([], r) s p e = absurd (none_some e)
    some from (b ∷ cs, r) s p e =
        let q = passed {a = (b ∷ cs, r)} {b = (bs, rest)} (ends r) e in
        let new : b ∷ cs ≡ p.new = p.all in
        let are : AreBytes (b ∷ cs) = subst AreBytes (sym new) p.are in
        subst Front q.1 (record { parts = s ∙ ap (λ x. 32 ∷ x) p.parts ∙ ap (λ x. 32 ∷ (flat_map byte_digits x ++ r)) (sym new); closed = q.0; fits = are })

    opened : (from : List ℕ) → bytes ≡ 32 ∷ from → digits_or_none from ≡ Some (bs, rest) → Front (bs, rest)
    opened [] s e = absurd (none_some e)
    opened (c ∷ cs) s e = either_read (c == 45) (if ends cs then got [] cs else None) (some_bytes (pairs_at [] (c ∷ cs))) e
        (λ h f. let q = passed {a = ([], cs)} {b = (bs, rest)} (ends cs) f in
        subst Front q.1 (record { parts = s ∙ ap (λ d. 32 ∷ d ∷ cs) (eqb-true c 45 h); closed = q.0; fits = tt }))
        (λ h f. some (c ∷ cs) (pairs_at [] (c ∷ cs)) s (pairs_sound [] (c ∷ cs)) f)

pub bytes_exact : (bytes : List ℕ) → Exact hex_text AreBytes bytes (bytes_at bytes)
bytes_exact bytes = record {
  sound = bytes_sound bytes;
  complete = λ bs rest front. ap bytes_at front.parts ∙ bytes_again bs rest front.fits front.closed;
}
