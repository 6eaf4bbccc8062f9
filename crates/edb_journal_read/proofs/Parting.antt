-- A text is the text of one list of entries at most, and is refused at one line at most.

use Rattle.std.proofs.Common.{inl, inr, ◌≡◌, ℕ, ◌+◌, ◌⊎◌, List, [], ◌∷◌, ◌++◌, length, refl, sym, ap, ◌∙◌, subst, arith, append_assoc, append-nil, length-append}
use Rattle.std.specs.List.{flat_map}
use Rattle.edb_event.specs.declared.entry.Entry.{Entry}
use Rattle.edb_event.specs.Ranges.{AreEntries}
use Rattle.edb_journal.specs.Accepted.{IsAccepted, Reads, RefusedAt, IsFault}
use Rattle.edb_journal.specs.Lines.{line}
use Rattle.edb_journal.specs.Texts.{first_line, journal_text}
use Rattle.edb_journal.specs.Wide.{AreWide}
use Rattle.edb_journal_read.proofs.EntryLaws.{one_entry, line_more}
use Rattle.edb_journal_read.proofs.JournalLaws.{entries_front, wide_front, weight_joined, text_joined}

-- what the one of two texts has that goes on where the other stops: the line of an entry, and others
abbrev pub GoesOn : List Entry → List Entry → List ℕ → List ℕ → Type 0
GoesOn es fs r s = (e : Entry) × (more : List Entry) × (es ≡ fs ++ e ∷ more) × (s ≡ line e ++ (flat_map line more ++ r))

-- Two texts that are the same: of the same entries, or one goes on.
abbrev pub Parts : List Entry → List Entry → List ℕ → List ℕ → Type 0
Parts es fs r s = ((es ≡ fs) × (r ≡ s)) ⊎ (GoesOn es fs r s ⊎ GoesOn fs es s r)

further : (d e : Entry) (es fs : List Entry) (r s : List ℕ) → d ≡ e → Parts es fs r s → Parts (d ∷ es) (e ∷ fs) r s
further d e es fs r s same (inl p) = inl (ap (λ x. x ∷ es) same ∙ ap (λ xs. e ∷ xs) p.0, p.1)
further d e es fs r s same (inr (inl p)) = inr (inl (p.0, p.1, ap (λ x. x ∷ es) same ∙ ap (λ xs. e ∷ xs) p.2, p.3))
further d e es fs r s same (inr (inr p)) = inr (inr (p.0, p.1, ap (λ x. x ∷ fs) (sym same) ∙ ap (λ xs. d ∷ xs) p.2, p.3))

pub parted : (es fs : List Entry) (r s : List ℕ) → AreEntries es → AreWide es → AreEntries fs → AreWide fs → flat_map line es ++ r ≡ flat_map line fs ++ s → Parts es fs r s
parted [] [] r s er ew fr fw h = inl (refl, h)
parted [] (f ∷ fs) r s er ew fr fw h = inr (inr (f, fs, refl, h ∙ append_assoc (line f) (flat_map line fs) s))
parted (e ∷ es) [] r s er ew fr fw h = inr (inl (e, es, refl, sym h ∙ append_assoc (line e) (flat_map line es) r))
parted (e ∷ es) (f ∷ fs) r s er ew fr fw h =
    let left = append_assoc (line e) (flat_map line es) r in
    let right = append_assoc (line f) (flat_map line fs) s in
    let p = one_entry (flat_map line (e ∷ es) ++ r) e f (flat_map line es ++ r) (flat_map line fs ++ s)
    (record { parts = left; range = er.0; wide = ew.0 }) (record { parts = h ∙ right; range = fr.0; wide = fw.0 }) in
    further e f es fs r s p.0 (parted es fs r s er.1 ew.1 fr.1 fw.1 p.1)

-- the first line taken off
abbrev drop_six : List ℕ → List ℕ
drop_six (a ∷ b ∷ c ∷ d ∷ e ∷ f ∷ rest) = rest
drop_six _ = []

pub headless : (x y : List ℕ) → first_line ++ x ≡ first_line ++ y → x ≡ y
headless x y h = ap drop_six h

pub texts_parted : (es fs : List Entry) (r s : List ℕ) → IsAccepted es → IsAccepted fs → journal_text es ++ r ≡ journal_text fs ++ s → Parts es fs r s
texts_parted es fs r s ea fa h =
    parted es fs r s ea.journal.ranges ea.wide fa.journal.ranges fa.wide (headless (flat_map line es ++ r) (flat_map line fs ++ s) h)

-- what is accepted is accepted up to any entry
pub accepted_front : (es fs : List Entry) → IsAccepted (es ++ fs) → IsAccepted es
accepted_front es fs all =
    let w = weight_joined es fs in
    let n = ap length (text_joined es fs) ∙ length-append (journal_text es) (flat_map line fs) in
    record {
      journal = record { ranges = (entries_front es fs all.journal.ranges).0; light = omega (arith, w, all.journal.light) };
      wide = (wide_front es fs all.wide).0;
      size = omega (arith, n, all.size);
    }

accepted_next : (es : List Entry) (e : Entry) (more whole : List Entry) → whole ≡ es ++ e ∷ more → IsAccepted whole → IsAccepted (es ++ e ∷ [])
accepted_next es e more whole is all = accepted_front (es ++ e ∷ []) more (subst IsAccepted (is ∙ sym (append_assoc es (e ∷ []) more)) all)

no_line : (e : Entry) (after : List ℕ) → [] ≡ line e ++ after → ⊥
no_line e after h = line_more e after (sym h)

-- a text reads as one journal
pub one_journal : (bytes : List ℕ) (es fs : List Entry) → Reads bytes es → Reads bytes fs → es ≡ fs
one_journal bytes es fs x y =
    told (texts_parted es fs [] [] x.accepted y.accepted
    (append-nil (journal_text es) ∙ sym x.text ∙ y.text ∙ sym (append-nil (journal_text fs))))
  where
    told : Parts es fs [] [] → es ≡ fs
    told (inl p) = p.0
    told (inr (inl p)) = absurd (no_line p.0 (flat_map line p.1 ++ []) p.3)
    told (inr (inr p)) = absurd (no_line p.0 (flat_map line p.1 ++ []) p.3)

-- a text that reads as a journal is not refused at the line of an entry
pub not_refused : (bytes : List ℕ) (es : List Entry) (n : ℕ) → Reads bytes es → RefusedAt bytes n → ⊥
not_refused bytes es n x y =
    told (texts_parted es y.front [] y.rest x.accepted y.accepted (append-nil (journal_text es) ∙ sym x.text ∙ y.parts))
  where
    told : Parts es y.front [] y.rest → ⊥
    told (inl p) = y.more (sym p.1)
    told (inr (inl p)) = y.refused p.0 (flat_map line p.1 ++ []) p.3 (accepted_next y.front p.0 p.1 es p.2 x.accepted)
    told (inr (inr p)) = no_line p.0 (flat_map line p.1 ++ y.rest) p.3

-- a text is refused at the line of one entry
pub one_refusal : (bytes : List ℕ) (n m : ℕ) → RefusedAt bytes n → RefusedAt bytes m → n ≡ m
one_refusal bytes n m x y = told (texts_parted x.front y.front x.rest y.rest x.accepted y.accepted (sym x.parts ∙ y.parts))
  where
    told : Parts x.front y.front x.rest y.rest → n ≡ m
    told (inl p) = x.at ∙ ap (λ es. length es + 2) p.0 ∙ sym y.at
    told (inr (inl p)) = absurd (y.refused p.0 (flat_map line p.1 ++ x.rest) p.3 (accepted_next y.front p.0 p.1 x.front p.2 x.accepted))
    told (inr (inr p)) = absurd (x.refused p.0 (flat_map line p.1 ++ y.rest) p.3 (accepted_next x.front p.0 p.1 y.front p.2 y.accepted))

begins : (es : List Entry) (r bytes : List ℕ) → bytes ≡ journal_text es ++ r → bytes ≡ first_line ++ (flat_map line es ++ r)
begins es r bytes h = h

pub read_or_refused : (bytes : List ℕ) (es : List Entry) (n : ℕ) → Reads bytes es → IsFault bytes n → ⊥
read_or_refused bytes es n x (inl p) = p.1 (flat_map line es) x.text
read_or_refused bytes es n x (inr r) = not_refused bytes es n x r

pub one_fault : (bytes : List ℕ) (n m : ℕ) → IsFault bytes n → IsFault bytes m → n ≡ m
one_fault bytes n m (inl p) (inl q) = p.0 ∙ sym q.0
one_fault bytes n m (inl p) (inr y) = absurd (p.1 (flat_map line y.front ++ y.rest) (begins y.front y.rest bytes y.parts))
one_fault bytes n m (inr x) (inl q) = absurd (q.1 (flat_map line x.front ++ x.rest) (begins x.front x.rest bytes x.parts))
one_fault bytes n m (inr x) (inr y) = one_refusal bytes n m x y
