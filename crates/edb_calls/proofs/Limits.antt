-- A tuple round a term that is past a limit.

use Rattle.std.proofs.Common.{◌≡◌, ◌≤◌, Bool, true, false, cond, Ok, Err, refl, sym, arith, leb, ◌&&◌, true≢false}
use Rattle.std.proofs.lemmas.Bool.{and_parts, leb-true, le-leb}
use Rattle.edb_lang.specs.declared.term.Limit.{Limit}
use Rattle.edb_lang.specs.Terms.{Datum, is_within, height, size, most_high, most_large}
use Rattle.edb_lang.specs.Limits.{limited}
use Rattle.edb_pure.specs.Lists.{pair}

-- what a tuple holds is within the limits where the tuple is
second_within : (a t : Datum) → is_within (pair a t) ≡ true → is_within t ≡ true
second_within a t e =
    let parts = and_parts (leb (height (pair a t)) most_high) (leb (size (pair a t)) most_large) e in
    let high : height (pair a t) ≤ most_high = leb-true (height (pair a t)) most_high parts.0 in
    let large : size (pair a t) ≤ most_large = leb-true (size (pair a t)) most_large parts.1 in
    let low : height t ≤ most_high = omega arith in
    let small : size t ≤ most_large = omega arith in
    both (le-leb (height t) most_high low) (le-leb (size t) most_large small)
  where
    both : {b c : Bool} → b ≡ true → c ≡ true → (b && c) ≡ true
    both e f = simp (e, f) refl

-- what is refused, so is the tuple of it and another term
pub refused_within : (a t : Datum) (l : Limit) → Err l ≡ limited t → Err l ≡ limited (pair a t)
refused_within a t l e = go (is_within t) (is_within (pair a t)) (second_within a t) e
  where
    go : (b c : Bool) → (c ≡ true → b ≡ true) → Err l ≡ cond b (Ok t) (Err l) → Err l ≡ cond c (Ok (pair a t)) (Err l)
    go true c h e = absurd (cc)
    go false true h e = absurd (true≢false (sym (h refl)))
    go false false h e = e

-- what is within the limits is the term itself
pub kept_within : (t u : Datum) → Ok u ≡ limited t → u ≡ t
kept_within t u e = go (is_within t) (record {}) e
  where
    go : (b : Bool) (l : Limit) → Ok u ≡ cond b (Ok t) (Err l) → u ≡ t
    go true l e = cc
    go false l e = absurd (cc)
