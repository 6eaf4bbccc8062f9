-- From place to place of a legal journal.

use Rattle.std.proofs.Common.{◌≡◌, ◌⊎◌, inl, inr, ℕ, zero, suc, ◌+◌, ◌-◌, ◌<◌, ◌≤◌, List, [], ◌∷◌, length, Some, take, refl, sym, ◌∙◌, ap, subst, arith}
use Rattle.std.specs.List.{slice_get, fold}
use Rattle.std.proofs.lemmas.Option.{none-some, same_Some}
use Rattle.edb_event.specs.declared.entry.Entry.{Entry}
use Rattle.edb_rules.specs.Plans.{Plan}
use Rattle.edb_rules.specs.Facts.{Facts, at_first}
use Rattle.edb_rules.specs.Notes.{note, after, facts}
use Rattle.edb_rules.specs.Legal.{May, LegalFrom, Legal}
use Rattle.edb_rules.specs.Between.{StandsBetween}
use Rattle.edb_rules.proofs.Entries.{may_at}

-- the facts after one entry more
next_from : (plan : Plan) (f : Facts) (es : List Entry) (k : ℕ) (e : Entry) → slice_get es k ≡ Some e
    → after plan f (take (suc k) es) ≡ note plan (after plan f (take k es)) e
next_from plan f [] k e at = absurd (none-some e at)
next_from plan f (d ∷ es) zero e at = ap (note plan f) (same_Some d e at)
next_from plan f (d ∷ es) (suc k) e at = next_from plan (note plan f d) es k e at

pub facts_next : (plan : Plan) (journal : List Entry) (k : ℕ) (e : Entry) → slice_get journal k ≡ Some e
    → facts plan (take (suc k) journal) ≡ note plan (facts plan (take k journal)) e
facts_next plan journal k e at = next_from plan (at_first plan) journal k e at

-- each place of a journal has an entry
pub entry_at : (es : List Entry) (k : ℕ) → k < length es → (e : Entry) × (slice_get es k ≡ Some e)
entry_at [] k less = absurd (omega arith)
entry_at (e ∷ es) zero less = (e, refl)
entry_at (e ∷ es) (suc k) less = entry_at es k (omega arith)

-- what stands between two places stands between the first and a later one
pub wider : (R : Entry → Type 0) (journal : List Entry) (k n m : ℕ) → n ≤ m → StandsBetween R journal k n → StandsBetween R journal k m
wider R journal k n m less b =
    let before : b.place < m = (let was = b.before in omega arith) in
    record { place = b.place; behind = b.behind; before = before; what = b.what; stands = b.stands; is = b.is }

-- What holds behind place k and is kept by each entry but those of a kind holds at a later place, or one of the kind
-- stands between.
one_more : (plan : Plan) (journal : List Entry) (P : Facts → Type 0) (R : Entry → Type 0) (k n : ℕ) (e : Entry) → slice_get journal n ≡ Some e → k < n
    → P (note plan (facts plan (take n journal)) e) ⊎ R e → P (facts plan (take (suc n) journal)) ⊎ StandsBetween R journal k (suc n)
one_more plan journal P R k n e at less (inl here) = inl (subst P (sym (facts_next plan journal n e at)) here)
one_more plan journal P R k n e at less (inr is) =
    let before : n < suc n = omega arith in
    inr (record { place = n; behind = less; before = before; what = e; stands = at; is = is })

since_from : (plan : Plan) (journal : List Entry) (P : Facts → Type 0) (R : Entry → Type 0)
    → ((f : Facts) (e : Entry) → P f → May plan f e → P (note plan f e) ⊎ R e) → Legal plan journal
    → (k n : ℕ) → k < n → n < length journal → P (facts plan (take n journal)) ⊎ StandsBetween R journal k n
    → P (facts plan (take (suc n) journal)) ⊎ StandsBetween R journal k (suc n)
since_from plan journal P R step legal k n less inside (inl here) =
    let e = entry_at journal n inside in
    one_more plan journal P R k n e.0 e.1 less (step (facts plan (take n journal)) e.0 here (may_at plan journal n e.0 legal e.1))
since_from plan journal P R step legal k n less inside (inr b) = inr (wider R journal k n (suc n) (omega arith) b)

since_by : (plan : Plan) (journal : List Entry) (P : Facts → Type 0) (R : Entry → Type 0)
    → ((f : Facts) (e : Entry) → P f → May plan f e → P (note plan f e) ⊎ R e) → Legal plan journal
    → (k : ℕ) → P (facts plan (take (suc k) journal)) → (j n : ℕ) → n ≡ j + suc k → n ≤ length journal
    → P (facts plan (take n journal)) ⊎ StandsBetween R journal k n
since_by plan journal P R step legal k first zero n is inside =
    let same : suc k ≡ n = omega arith in inl (subst (λ (m : ℕ). P (facts plan (take m journal))) same first)
since_by plan journal P R step legal k first (suc j) zero is inside = absurd (omega arith)
since_by plan journal P R step legal k first (suc j) (suc n) is inside =
    since_from plan journal P R step legal k n (omega arith) (omega arith) (since_by plan journal P R step legal k first j n (omega arith) (omega arith))

pub since : (plan : Plan) (journal : List Entry) (P : Facts → Type 0) (R : Entry → Type 0)
    → ((f : Facts) (e : Entry) → P f → May plan f e → P (note plan f e) ⊎ R e) → Legal plan journal
    → (k n : ℕ) → k < n → n ≤ length journal → P (facts plan (take (suc k) journal))
    → P (facts plan (take n journal)) ⊎ StandsBetween R journal k n
since plan journal P R step legal k n less inside first =
    since_by plan journal P R step legal k first (n - suc k) n (omega arith) inside

-- What each entry that may stand changes as a fold says is after a journal what the fold makes of its entries.
pub folded : {A : Type 0} (plan : Plan) (h : Facts → A) (step : A → Entry → A) (Kept : Facts → Type 0)
    → ((f : Facts) (e : Entry) → Kept f → May plan f e → Kept (note plan f e))
    → ((f : Facts) (e : Entry) → Kept f → May plan f e → h (note plan f e) ≡ step (h f) e)
    → (f : Facts) (es : List Entry) → Kept f → LegalFrom plan f es → h (after plan f es) ≡ fold step (h f) es
folded plan h step Kept keeps is f [] here legal = refl
folded plan h step Kept keeps is f (e ∷ es) here legal =
    folded plan h step Kept keeps is (note plan f e) es (keeps f e here legal.0) legal.1
    ∙ ap (λ a. fold step a es) (is f e here legal.0)
