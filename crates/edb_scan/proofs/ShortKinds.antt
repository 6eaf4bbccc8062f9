-- Comments, names, and texts in quotes: what the scanner finds is the longest of its class.
use Rattle.std.proofs.Common.{◌≡◌, ℕ, ◌≤◌, List, [], ◌∷◌, ◌++◌, length, Option, None, refl, sym, ap, subst, inr, arith}
use Rattle.std.specs.Prelude.{IsUtf8}
use Rattle.std.proofs.lemmas.Bool.Decides.{nat_tests}
use Rattle.edb_scan.specs.declared.classes.Class.{Class}
use Rattle.edb_scan.specs.declared.classes.Class.TheVariants.{Percent}
use Rattle.edb_scan.specs.declared.lexeme.Token.{Token}
use Rattle.edb_scan.specs.FirstByte.{class_of}
use Rattle.edb_scan.specs.Fronts.{NothingFits, SplitsRun, Stops}
use Rattle.edb_scan.specs.Lexis.{Begins, Fits, EndsLine, Spells, stays_in_line}
use Rattle.edb_scan.proofs.ByClass.{Only, percent}
use Rattle.edb_scan.proofs.FrontLemmas.{same_front, run_longest}
use Rattle.edb_scan.proofs.OnePiece.{longest_by, nothing_by}

-- a piece begins a text if no other of its class is longer
pub begins_by : (class : Class) (c : ℕ) (cs text after : List ℕ) (p : Option Token) → class_of c ≡ class → c ∷ cs ≡ text ++ after → Spells text after p
    → ((t u : List ℕ) (o : Option Token) → c ∷ cs ≡ t ++ u → Only class t u o → length t ≤ length text) → Begins (c ∷ cs) after p
begins_by class c cs text after p is e spells longest = record { text = text; cut = e; spells = spells; longest = longest_by class c cs (length text) is longest }

line_ends : (after : List ℕ) → Stops stays_in_line after → EndsLine after
line_ends [] s = tt
line_ends (c ∷ cs) s = grind (arith, nat_tests)

line_stops : (after : List ℕ) → EndsLine after → Stops stays_in_line after
line_stops [] s = tt
line_stops (c ∷ cs) s = grind (arith, nat_tests)

pub comment_found : (cs words after : List ℕ) → SplitsRun stays_in_line cs words after → IsUtf8 words → Begins (37 ∷ cs) after None × Fits None
comment_found cs words after split text = (
  begins_by Percent 37 cs (37 ∷ words) after None (percent 37 refl) (ap (λ t. 37 ∷ t) split.cut)
      (inr (record { words = words; cut = refl; one_line = split.passes; utf8 = text; ends = line_ends after split.stops }))
      (λ t u o e h.
      let cut = h.0.cut in
      let same : words ++ after ≡ h.0.words ++ u = let from = split.cut in cc in
      let shorter = run_longest stays_in_line words after h.0.words u same split.stops h.0.one_line in
      omega (arith, ap length h.0.cut)),
  tt,
)

pub comment_none : (cs words after : List ℕ) → SplitsRun stays_in_line cs words after → (IsUtf8 words → ⊥) → NothingFits (37 ∷ cs)
comment_none cs words after split no_text = nothing_by Percent 37 cs (percent 37 refl) (λ t u o e h.
    let cut = h.0.cut in
    let same : words ++ after ≡ h.0.words ++ u = let from = split.cut in cc in
    let shorter = run_longest stays_in_line words after h.0.words u same split.stops h.0.one_line in
    let longer = run_longest stays_in_line h.0.words u words after (sym same) (line_stops u h.0.ends) split.passes in
    let exact = same_front words after h.0.words u same (omega arith) in
    let P : List ℕ → Type 0 = λ t. IsUtf8 t in
    no_text (subst P (sym exact.0) h.0.utf8))
