-- A journal that grows by an entry in range stays a journal.

use Rattle.std.proofs.Common.{◌≡◌, ◌≤◌, ℕ, ◌+◌, List, [], ◌∷◌, ◌++◌, sym, ◌∙◌, ap, subst, arith}
use Rattle.edb_event.specs.declared.entry.Entry.{Entry}
use Rattle.edb_event.specs.Weights.{weight, weight_of}
use Rattle.edb_event.specs.Ranges.{IsEntry, AreEntries, IsJournal, most_weight}
use Rattle.edb_event.specs.Books.{Book}

entries_more : (es : List Entry) (e : Entry) → AreEntries es → IsEntry e → AreEntries (es ++ e ∷ [])
entries_more [] e all last = (last, tt)
entries_more (d ∷ es) e all last = (all.0, entries_more es e all.1 last)

pub weight_more : (es : List Entry) (e : Entry) → weight (es ++ e ∷ []) ≡ weight es + weight_of e
weight_more [] e = omega arith
weight_more (d ∷ es) e = omega (arith, weight_more es e)

-- `old` is what callers see, and `kept` the entries that are kept
pub journal_more : (old : Book) (kept new : List Entry) (e : Entry) (spare : ℕ) → record { entries = kept; spare = spare } ≡ old
    → IsJournal kept → IsEntry e → weight old.entries + weight_of e ≤ most_weight → new ≡ kept ++ e ∷ [] → IsJournal new
journal_more old kept new e spare seen journal range light grown =
    let same : kept ≡ old.entries = ap (λ (b : Book). b.entries) seen in
    subst (λ (es : List Entry). IsJournal es) (sym grown) (record {
      ranges = entries_more kept e journal.ranges range;
      light = subst (λ (n : ℕ). n ≤ most_weight) (sym (weight_more kept e ∙ ap (λ (es : List Entry). weight es + weight_of e) same)) light;
    })
