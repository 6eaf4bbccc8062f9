-- The reads of files that were read in order.

use Rattle.std.proofs.Common.{◌≡◌, ◌∙◌, ℕ, ◌<◌, List, [], ◌∷◌, ◌++◌, length, get_or, map, Some, None, refl, sym, ap, append_assoc, arith}
use Rattle.std.proofs.lemmas.List.{append_cancel_left}
use Rattle.edb_io.specs.OneRead.{Read}
use Rattle.edb_files.specs.InOrder.{Asked, AreRead, FailsAt, asked_at, read_of, reads_of}

-- one text more
pub reads_more : {A : Type 0} (f : A → Asked) (xs : List A) (texts : List (List ℕ)) (d : A) (text : List ℕ) → length texts < length xs
    → reads_of (map f xs) (texts ++ text ∷ []) ≡ reads_of (map f xs) texts ++ read_of (f (get_or xs (length texts) d)) (Some text) ∷ []
reads_more f [] texts d text lt = absurd (omega arith)
reads_more f (y ∷ ys) [] d text lt = refl
reads_more f (y ∷ ys) (t ∷ ts) d text lt =
    ap (λ (rs : List Read). read_of (f y) (Some t) ∷ rs) (reads_more f ys ts d text (omega arith))

-- the list of reads with one read more
pub listed_more : {A : Type 0} (f : A → Asked) (xs : List A) (texts : List (List ℕ)) (i : ℕ) (d : A) (text : List ℕ) (old middle new : List Read)
    → length texts ≡ i → i < length xs → middle ≡ old ++ reads_of (map f xs) texts → new ≡ middle ++ read_of (f (get_or xs i d)) (Some text) ∷ []
    → new ≡ old ++ reads_of (map f xs) (texts ++ text ∷ [])
listed_more f xs texts i d text old middle new count lt so_far more =
    let last = reads_more f xs texts d text (rw count lt) in
    more ∙ (rw (so_far, ← count) (append_assoc old (reads_of (map f xs) texts) _ ∙ ap (λ (rs : List Read). old ++ rs) (sym last)))

-- reads of the same files that are alike answered the same texts
reads_one : (files : List Asked) (ts us : List (List ℕ)) → length ts ≡ length files → length us ≡ length files → reads_of files ts ≡ reads_of files us → ts ≡ us
reads_one files [] [] ts_all us_all same = refl
reads_one [] [] (u ∷ us) ts_all us_all same = absurd (omega (arith, ts_all, us_all))
reads_one [] (t ∷ ts) us ts_all us_all same = absurd (omega (arith, ts_all))
reads_one (a ∷ files) [] (u ∷ us) ts_all us_all same = absurd (omega (arith, ts_all))
reads_one (a ∷ files) (t ∷ ts) [] ts_all us_all same = absurd (omega (arith, us_all))
reads_one (a ∷ files) (t ∷ ts) (u ∷ us) ts_all us_all same =
    let first : read_of a (Some t) ≡ read_of a (Some u) = cc in
    let text : Some t ≡ Some u = ap (λ (r : Read). r.bytes) first in
    let others : ts ≡ us = reads_one files ts us (omega (arith, ts_all)) (omega (arith, us_all)) (cc) in
    cc

pub texts_one : (files : List Asked) (ts us : List (List ℕ)) (old new : List Read) → AreRead files old new ts → AreRead files old new us → ts ≡ us
texts_one files ts us old new r s = reads_one files ts us r.all s.all (append_cancel_left old _ _ (sym r.listed ∙ s.listed))

-- reads of all files, none of which failed
none_failed : (files : List Asked) (ts us : List (List ℕ)) (failed : Asked) → length ts ≡ length files → length us < length files
    → reads_of files ts ≡ reads_of files us ++ read_of failed None ∷ [] → ⊥
none_failed [] ts us failed all few same = omega (arith, few)
none_failed (a ∷ files) [] us failed all few same = omega (arith, all)
none_failed (a ∷ files) (t ∷ ts) [] failed all few same =
    let first : read_of a (Some t) ≡ read_of failed None = cc in
    let bytes : Some t ≡ None = ap (λ (r : Read). r.bytes) first in
    cc
none_failed (a ∷ files) (t ∷ ts) (u ∷ us) failed all few same = none_failed files ts us failed (omega (arith, all)) (omega (arith, few)) (cc)

pub read_or_failed : (files : List Asked) (ts : List (List ℕ)) (old new : List Read) (k : ℕ) → AreRead files old new ts → FailsAt files old new k → ⊥
read_or_failed files ts old new k r f =
    none_failed files ts f.texts (asked_at files k) r.all (omega (arith, f.before, f.within))
    (append_cancel_left old _ _ (sym r.listed ∙ (f.listed ∙ append_assoc old _ _)))
