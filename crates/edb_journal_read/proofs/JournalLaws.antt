-- A text that grows by an entry's line, and what the reader has told when it stops.

use Rattle.std.proofs.Common.{inl, inr, ◌≡◌, ℕ, ◌+◌, ◌<◌, ◌≤◌, ◌⊎◌, List, [], ◌∷◌, ◌++◌, length, refl, sym, ap, ◌∙◌, arith, append_assoc, append-nil, length-append}
use Rattle.std.specs.List.{flat_map}
use Rattle.std.proofs.lemmas.Grind.{flat_map-append}
use Rattle.edb_event.specs.declared.entry.Entry.{Entry}
use Rattle.edb_event.specs.declared.entry.Entry.TheVariants as entry
use Rattle.edb_event.specs.Ranges.{AreEntries, IsJournal, most_weight}
use Rattle.edb_event.specs.Weights.{weight, weight_of}
use Rattle.edb_fields.specs.declared.refusal.ReadError.{ReadError}
use Rattle.edb_fields.specs.declared.refusal.ReadError.TheVariants.{Memory, Refused}
use Rattle.edb_journal.specs.Accepted.{most_bytes, IsAccepted}
use Rattle.edb_journal.specs.Lines.{line}
use Rattle.edb_journal.specs.Texts.{first_line, journal_text}
use Rattle.edb_journal.specs.Wide.{AreWide}
use Rattle.edb_journal_read.specs.Entries.{IsFirst, NoneIsFirst, IsNext, NoneIsNext, Explains, told}
use Rattle.edb_journal_read.proofs.EntryLaws.{one_entry}

-- entries one after the other
pub entries_joined : (es fs : List Entry) → AreEntries es → AreEntries fs → AreEntries (es ++ fs)
entries_joined [] fs all others = others
entries_joined (d ∷ es) fs all others = (all.0, entries_joined es fs all.1 others)

pub entries_front : (es fs : List Entry) → AreEntries (es ++ fs) → AreEntries es × AreEntries fs
entries_front [] fs all = (tt, all)
entries_front (d ∷ es) fs all = let p = entries_front es fs all.1 in ((all.0, p.0), p.1)

pub wide_joined : (es fs : List Entry) → AreWide es → AreWide fs → AreWide (es ++ fs)
wide_joined [] fs all others = others
wide_joined (d ∷ es) fs all others = (all.0, wide_joined es fs all.1 others)

pub wide_front : (es fs : List Entry) → AreWide (es ++ fs) → AreWide es × AreWide fs
wide_front [] fs all = (tt, all)
wide_front (d ∷ es) fs all = let p = wide_front es fs all.1 in ((all.0, p.0), p.1)

pub weight_joined : (es fs : List Entry) → weight (es ++ fs) ≡ weight es + weight fs
weight_joined [] fs = omega arith
weight_joined (d ∷ es) fs = omega (arith, weight_joined es fs)

pub weight_last : (es : List Entry) (e : Entry) → weight (es ++ e ∷ []) ≡ weight es + weight_of e
weight_last es e = let p = weight_joined es (e ∷ []) in omega (arith, p)

some_weight : (e : Entry) → 1 ≤ weight_of e
some_weight (entry.Ran p moves cond) = omega arith
some_weight _ = omega arith

-- a journal has no more entries than its weight
pub few : (es : List Entry) → IsJournal es → length es ≤ most_weight
few es is = let p = counted es in omega (arith, p, is.light)
  where
    counted : (es : List Entry) → length es ≤ weight es
    counted [] = omega arith
    counted (e ∷ es) = let p = counted es in let q = some_weight e in omega (arith, p, q)

pub text_joined : (es fs : List Entry) → journal_text (es ++ fs) ≡ journal_text es ++ flat_map line fs
text_joined es fs = ap (λ t. first_line ++ t) (flat_map-append line es fs)

pub text_last : (es : List Entry) (e : Entry) → journal_text (es ++ e ∷ []) ≡ journal_text es ++ line e
text_last es e = text_joined es (e ∷ []) ∙ ap (λ t. journal_text es ++ t) (append-nil (line e))

-- the text so far with one entry more
pub text_on : (es : List Entry) (e : Entry) (bytes front after : List ℕ) → bytes ≡ journal_text es ++ front → front ≡ line e ++ after → bytes ≡ journal_text (es ++ e ∷ []) ++ after
text_on es e bytes front after text parts =
    text ∙ ap (λ t. journal_text es ++ t) parts ∙ sym (append_assoc (journal_text es) (line e) after) ∙ ap (λ t. t ++ after) (sym (text_last es e))

lengths : (bytes front after : List ℕ) → bytes ≡ front ++ after → length bytes ≡ length front + length after
lengths bytes front after text = ap length text ∙ length-append front after

-- no entries are accepted
pub accepted_none : IsAccepted []
accepted_none = record { journal = record { ranges = tt; light = omega arith }; wide = tt; size = omega arith }

pub accepted_on : (es : List Entry) (e : Entry) (bytes front after : List ℕ) (more : ℕ) → bytes ≡ journal_text es ++ front → IsAccepted es
    → IsNext (length bytes) (weight es) front e more after → IsAccepted (es ++ e ∷ [])
accepted_on es e bytes front after more text old next =
    let w = weight_last es e in
    let n = lengths bytes (journal_text (es ++ e ∷ [])) after (text_on es e bytes front after text next.first.parts) in
    record {
      journal = record {
        ranges = entries_joined es (e ∷ []) old.journal.ranges (next.first.range, tt);
        light = omega (arith, w, next.weighs, next.light);
      };
      wide = wide_joined es (e ∷ []) old.wide (next.first.wide, tt);
      size = omega (arith, n, next.size);
    }

-- an entry with which the others are accepted is the next one
pub next_of : (es : List Entry) (e : Entry) (bytes front after : List ℕ) → bytes ≡ journal_text es ++ front → front ≡ line e ++ after
    → IsAccepted (es ++ e ∷ []) → IsNext (length bytes) (weight es) front e (weight es + weight_of e) after
next_of es e bytes front after text parts all =
    let range = (entries_front es (e ∷ []) all.journal.ranges).1 in
    let wide = (wide_front es (e ∷ []) all.wide).1 in
    let w = weight_last es e in
    let n = lengths bytes (journal_text (es ++ e ∷ [])) after (text_on es e bytes front after text parts) in
    record {
      first = record { parts = parts; range = range.0; wide = wide.0 };
      weighs = refl;
      light = omega (arith, w, all.journal.light);
      size = omega (arith, n, all.size);
    }

-- where no entry comes first, none is the next
pub none_next : (total heavy : ℕ) (bytes : List ℕ) (why : ReadError) → NoneIsFirst bytes why → NoneIsNext total heavy bytes why
none_next total heavy bytes Memory h = tt
none_next total heavy bytes Refused h = λ e more rest next. h e rest next.first

-- the entry that comes first is too heavy, or its line ends too late
pub passes_limit : (total heavy : ℕ) (bytes : List ℕ) (e : Entry) (rest : List ℕ) → IsFirst bytes e rest
    → (most_weight < heavy + weight_of e) ⊎ (most_bytes + length rest < total) → NoneIsNext total heavy bytes Refused
passes_limit total heavy bytes e rest first (inl w) = λ f more s next.
    let p = one_entry bytes e f rest s first next.first in
    let same = ap weight_of p.0 in
    omega (arith, w, same, next.weighs, next.light)
passes_limit total heavy bytes e rest first (inr n) = λ f more s next.
    let p = one_entry bytes e f rest s first next.first in
    let same = ap length p.1 in
    omega (arith, n, same, next.size)

-- what the reader tells where it stops before the end
pub explained : (es : List Entry) (bytes front : List ℕ) (why : ReadError) → bytes ≡ journal_text es ++ front → IsAccepted es → (front ≡ [] → ⊥)
    → NoneIsNext (length bytes) (weight es) front why → Explains bytes (told why (length es))
explained es bytes front Memory text old more none = tt
explained es bytes front Refused text old more none = inr (record {
  front = es;
  rest = front;
  accepted = old;
  parts = text;
  more = more;
  at = refl;
  refused = λ e after parts all. none e (weight es + weight_of e) after (next_of es e bytes front after text parts all);
})
