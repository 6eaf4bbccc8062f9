-- There are no more names than words.

use Rattle.std.proofs.Common.{◌≡◌, ◌<◌, ◌≤◌, ◌+◌, ◌&&◌, Bool, true, false, if◌then◌else◌, nat_le, nat_lt, List, [], ◌∷◌, ◌++◌, length, Option, Some, None, option_map, refl, sym, ap, arith, ltb-true, length-append}
use Rattle.std.specs.Prelude.{option_and_then, IfSome}
use Rattle.std.specs.Option.{unwrap_or}
use Rattle.std.proofs.lemmas.List.{length-map}
use Rattle.edb_options.specs.Words.{Text}
use Rattle.edb_options.specs.Reading.{State, is_name, read_words, start, with_option}
use Rattle.edb_options.specs.Options.{Wanted, chosen, is_settled, options_in, wanted_at}
use Rattle.edb_options.specs.Seeing.{wanted_of}
use Rattle.edb_options.specs.declared.request.Request.{Request}
use Rattle.edb_options.proofs.RowLaws.{some_is_none}

few_read : (words : List Text) (s : State) (names : List Text) (r : State × List Text) → read_words s names words ≡ Some r → length r.1 ≤ length names + length words
unfolding read_words
few_read [] s names r e = let same : names ≡ r.1 = ap (λ o. (unwrap_or o r).1) e in omega (arith, ap length same)
few_read (word ∷ words) s names r e = go (is_name s.place word) (with_option s word) e (few_read words s (names ++ word ∷ []) r) (λ t. few_read words t names r)
  where
    go : (b : Bool) (o : Option State) → (if b then read_words s (names ++ word ∷ []) words else option_and_then (λ t. read_words t names words) o) ≡ Some r
        → (read_words s (names ++ word ∷ []) words ≡ Some r → length r.1 ≤ length (names ++ word ∷ []) + length words)
        → ((t : State) → read_words t names words ≡ Some r → length r.1 ≤ length names + length words) → length r.1 ≤ length names + length (word ∷ words)
    go true o h named other = omega (arith, named h, length-append names (word ∷ []))
    go false None h named other = absurd (some_is_none r (sym h))
    go false (Some t) h named other = omega (arith, other t h)

few_wanted : (words : List Text) (w : Wanted) → options_in words ≡ Some w → length w.names < 4294967296
few_wanted words w e = go (nat_lt (length words) 4294967295) refl e
  where
    at_end : (r : State × List Text) (b : Bool) → (if b then Some (record { options = chosen r.0; names = r.1 }) else None) ≡ Some w → w.names ≡ r.1
    at_end r true h = sym (ap (λ o. (unwrap_or o w).names) h)
    at_end r false h = absurd (some_is_none w (sym h))

    read : (o : Option (State × List Text)) → read_words start [] words ≡ o → option_and_then wanted_at o ≡ Some w → length w.names ≤ length words
    read None is h = absurd (some_is_none w (sym h))
    read (Some r) is h = let same = at_end r (is_settled r.0.place && nat_le 2 (length r.1)) h in omega (arith, few_read words start [] r is, ap length same)

    go : (b : Bool) → nat_lt (length words) 4294967295 ≡ b → (if b then option_and_then wanted_at (read_words start [] words) else None) ≡ Some w → length w.names < 4294967296
    go true few h = omega (arith, ltb-true (length words) 4294967295 few, read (read_words start [] words) refl h)
    go false few h = absurd (some_is_none w (sym h))

pub few_names : (words : List Text) (found : Option Request) → option_map wanted_of found ≡ options_in words → IfSome found (λ r. length r.names.items < 4294967296)
few_names words None e = tt
few_names words (Some r) e = let few = few_wanted words (wanted_of r) (sym e) in omega (arith, few, length-map r.names.items (λ name. name.now))
