-- Lists made by a count: that the count is tested first changes no answer, since a list is as high as it is long.

use Rattle.std.proofs.Common.{◌≡◌, ℕ, ◌≤◌, Bool, true, false, cond, ◌&&◌, leb, List, [], ◌∷◌, length, Ok, zero-le, refl, sym, ap, arith}
use Rattle.std.proofs.Math.Nat.{le-max_right}
use Rattle.std.proofs.lemmas.Bool.{leb-false, lt-leb}
use Rattle.edb_lang.specs.Terms.{Datum, nil, height, size, most_high, most_large}
use Rattle.edb_lang.specs.ListTerms.{list_of}
use Rattle.edb_pure.specs.Answers.{system_limit, list_answer, counted_answer}

pub length_is_high : (ts : List Datum) → length ts ≤ height (list_of ts nil)
length_is_high [] = zero-le
length_is_high (t ∷ ts) =
    let rest = length_is_high ts in
    let top = le-max_right (height t) (height (list_of ts nil)) in
    omega arith

-- a list of more than 4,000 elements is past the limit
pub too_long : (ts : List Datum) → leb (length ts) most_high ≡ false → list_answer ts ≡ system_limit
too_long ts e =
    let long = leb-false (length ts) most_high e in
    let high = length_is_high ts in
    ap (λ b. cond (b && leb (size (list_of ts nil)) most_large) (Ok (list_of ts nil)) system_limit)
    (lt-leb (height (list_of ts nil)) most_high (omega arith))

pub counted_is : (n : ℕ) (items : ℕ → List Datum) → length (items n) ≡ n → counted_answer n items ≡ list_answer (items n)
counted_is n items e = by (leb n most_high) refl
  where
    by : (b : Bool) → leb n most_high ≡ b → counted_answer n items ≡ list_answer (items n)
    by true f = rw f refl
    by false f = rw f (sym (too_long (items n) (rw e f)))
