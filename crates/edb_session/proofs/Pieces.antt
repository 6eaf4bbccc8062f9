-- The text of the entries so far, and of one more.

use Rattle.std.proofs.Common.{◌≡◌, ℕ, ◌+◌, ◌<◌, ◌≤◌, Bool, true, false, List, [], ◌∷◌, ◌++◌, length, take, drop, get_or, Option, Some, refl, sym, ◌∙◌, ap, append-nil, append_assoc, subst}
use Rattle.std.specs.List.{flat_map}
use Rattle.std.proofs.lemmas.List.{take_more}
use Rattle.std.proofs.lemmas.Grind.{flat_map-append}
use Rattle.std.proofs.lemmas.List.{take-append-drop}
use Rattle.edb_event.specs.declared.entry.Entry.{Entry}
use Rattle.edb_files.proofs.LineLaws.{appended_more}
use Rattle.edb_io.specs.Writes.{Appended, AppendedPart}
use Rattle.edb_event.specs.Ranges.{IsJournal}
use Rattle.edb_journal.specs.Accepted.{Reads, most_bytes}
use Rattle.edb_journal.specs.Texts.{journal_text}
use Rattle.edb_journal.specs.Wide.{AreWide}
use Rattle.edb_session.specs.Texts.{journal_form, text_in, form_by}

-- the pieces of one entry more
pub pieces_more : (piece : Entry → List ℕ) (es : List Entry) (i : ℕ) (e : Entry) → i < length es → e ≡ get_or es i e
    → flat_map piece (take (i + 1) es) ≡ flat_map piece (take i es) ++ piece e
pieces_more piece es i e lt is =
    ap (flat_map piece) (take_more es i e lt)
    ∙ (flat_map-append piece (take i es) (get_or es i e ∷ [])
    ∙ ap (λ (t : List ℕ). flat_map piece (take i es) ++ t) (append-nil (piece (get_or es i e)) ∙ ap piece (sym is)))

-- what follows those up to the whole
pub pieces_whole : (piece : Entry → List ℕ) (es : List Entry) (i : ℕ) (e : Entry) → i < length es → e ≡ get_or es i e
    → (flat_map piece (take i es) ++ piece e) ++ flat_map piece (drop (i + 1) es) ≡ flat_map piece es
pieces_whole piece es i e lt is =
    ap (λ (t : List ℕ). t ++ flat_map piece (drop (i + 1) es)) (sym (pieces_more piece es i e lt is))
    ∙ (sym (flat_map-append piece (take (i + 1) es) (drop (i + 1) es)) ∙ ap (flat_map piece) (take-append-drop (i + 1) es))

-- a part of what stands first is a part of the whole
pub part_of_front : (old new : Option (List ℕ)) (front rest : List ℕ) → AppendedPart old new front → AppendedPart old new (front ++ rest)
part_of_front old new front rest a = λ had h.
    let p = a had h in
    (p.0, (p.1.0 ++ rest, sym (append_assoc p.0 p.1.0 rest) ∙ ap (λ (t : List ℕ). t ++ rest) p.1.1), p.2)

-- nothing stands last yet
no_tail : (as_journal : Bool) → (form_by as_journal).tail ≡ []
no_tail true = refl
no_tail false = refl

pub text_is : (as_journal : Bool) (es : List Entry) → (form_by as_journal).head ++ flat_map (form_by as_journal).piece es ≡ text_in (form_by as_journal) es
text_is as_journal es =
    let front : List ℕ = (form_by as_journal).head ++ flat_map (form_by as_journal).piece es in
    sym (ap (λ (t : List ℕ). front ++ t) (no_tail as_journal) ∙ append-nil front)

-- what stands first was written, and then all pieces
pub whole_written : (as_journal : Bool) (es : List Entry) (old middle new : Option (List ℕ)) → Appended old middle (form_by as_journal).head
    → Appended middle new (flat_map (form_by as_journal).piece es) → Appended old new (text_in (form_by as_journal) es)
whole_written as_journal es old middle new first rest =
    subst (λ (t : List ℕ). Appended old new t) (text_is as_journal es)
    (appended_more old middle new (form_by as_journal).head (flat_map (form_by as_journal).piece es) first rest)

-- a part of what stands first was written
pub head_part : (as_journal : Bool) (es : List Entry) (old new : Option (List ℕ)) → AppendedPart old new (form_by as_journal).head
    → AppendedPart old new (text_in (form_by as_journal) es)
head_part as_journal es old new part =
    part_of_front old new ((form_by as_journal).head ++ flat_map (form_by as_journal).piece es) (form_by as_journal).tail
    (part_of_front old new (form_by as_journal).head (flat_map (form_by as_journal).piece es) part)

-- what stands first was written, and then a part of the pieces
pub pieces_part : (as_journal : Bool) (es : List Entry) (old middle new : Option (List ℕ)) → Appended old middle (form_by as_journal).head
    → AppendedPart middle new (flat_map (form_by as_journal).piece es) → AppendedPart old new (text_in (form_by as_journal) es)
pieces_part as_journal es old middle new first part =
    subst (λ (t : List ℕ). AppendedPart old new t) (text_is as_journal es) (λ had h.
    let p = part _ (first had h) in
    let head : List ℕ = (form_by as_journal).head in
    (head ++ p.0, (p.1.0, append_assoc head p.0 p.1.0 ∙ ap (λ (t : List ℕ). head ++ t) p.1.1), p.2 ∙ ap Some (append_assoc had head p.0)))

-- the text that `--journal` asks for is that of the journal, and is read as it
pub journal_read : (journal : List Entry) → IsJournal journal → AreWide journal → length (text_in journal_form journal) ≤ most_bytes
    → Reads (text_in journal_form journal) journal
journal_read journal ranges wide short =
    let is : text_in journal_form journal ≡ journal_text journal = append-nil (journal_text journal) in
    record {
      text = is;
      accepted = record { journal = ranges; wide = wide; size = subst (λ (t : List ℕ). length t ≤ most_bytes) is short };
    }
