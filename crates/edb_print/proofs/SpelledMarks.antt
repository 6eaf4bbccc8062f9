-- Marks and reserved words: what `mark_text` spells is read as the mark, if no longer one begins with it.

use Rattle.std.proofs.Common.{◌≡◌, ◌≢◌, ◌⊎◌, ℕ, ◌≤◌, Bool, true, false, not, ◌&&◌, ◌||◌, ◌==◌, List, [], ◌∷◌, ◌++◌, length, Option, Some, None, if◌then◌else◌, refl, ap, ◌∙◌, subst, inl, inr, ⊎_elim, arith, eq-eqb, eqb-true}
use Rattle.std.specs.Prelude.{bytes_eq}
use Rattle.std.specs.List.{list_all}
use Rattle.std.specs.Cmp.Lexicographic.{bytes_decides}
use Rattle.std.proofs.lemmas.Bool.{and_parts, and_from, both_ways, not-true, false≢true}
use Rattle.std.proofs.lemmas.List.{append_cancel_right}
use Rattle.edb_scan.specs.declared.classes.Class.TheVariants.{Other}
use Rattle.edb_scan.specs.declared.lexeme.Mark.{Mark}
use Rattle.edb_scan.specs.declared.lexeme.Mark.TheVariants as mark
use Rattle.edb_scan.specs.declared.lexeme.Token.TheVariants as token
use Rattle.edb_scan.specs.declared.lexeme.Token.TheVariants.{Dot}
use Rattle.edb_scan.specs.FirstByte.{Heads}
use Rattle.edb_scan.specs.RowFronts.{LongestRow}
use Rattle.edb_scan.specs.Lexis.{Begins, Fits, ends_form}
use Rattle.edb_scan.specs.Spellings.{Lists, mark_rows, word_rows, IsMark, IsWord}
use Rattle.edb_scan.proofs.Rows.{lists_pass, one_mark_of, mark_class, mark_some}
use Rattle.edb_scan.proofs.MarkLemmas.{mark_found, dot_found}
use Rattle.edb_scan.specs.MarkText.{mark_text}

-- the mark of the first row with this text
abbrev mark_of : List (List ℕ × Mark) → List ℕ → Option Mark
mark_of [] text = None
mark_of (row ∷ rows) text = if bytes_eq row.0 text then Some row.1 else mark_of rows text

-- the first row with the text of a mark is that mark's
spelled_back : (m : Mark) → mark_of (word_rows ++ mark_rows) (mark_text m) ≡ Some m
spelled_back mark.Ellipsis = refl
spelled_back _ = refl

listed : (rows : List (List ℕ × Mark)) (text : List ℕ) (m : Mark) → mark_of rows text ≡ Some m → Lists rows text m
listed [] text m e = absurd (cc)
listed (row ∷ rows) text m e = at (bytes_eq row.0 text) refl (listed rows text m)
  where
    at : (b : Bool) → bytes_eq row.0 text ≡ b → (mark_of rows text ≡ Some m → Lists rows text m) → Lists (row ∷ rows) text m
    at true h others = let here : Some row.1 ≡ Some m = rw h at e in inl ((bytes_decides row.0 text).0 h, cc)
    at false h others = let later : mark_of rows text ≡ Some m = rw h at e in inr (others later)

either_table : (rows others : List (List ℕ × Mark)) (text : List ℕ) (m : Mark) → Lists (rows ++ others) text m → Lists rows text m ⊎ Lists others text m
either_table [] others text m h = inr h
either_table (row ∷ rows) others text m (inl h) = inl (inl h)
either_table (row ∷ rows) others text m (inr h) = elim (either_table rows others text m h) [ inl here ↦ inl (inr here) | inr there ↦ inr there ]

-- each mark is a reserved word or a mark of signs
pub word_or_sign : (m : Mark) → IsWord (mark_text m) m ⊎ IsMark (mark_text m) m
unfolding IsWord IsMark
word_or_sign m = either_table word_rows mark_rows (mark_text m) m (listed (word_rows ++ mark_rows) (mark_text m) m (spelled_back m))

-- whether the first text begins the second
abbrev starts : List ℕ → List ℕ → Bool
starts [] text = true
starts (c ∷ cs) [] = false
starts (c ∷ cs) (d ∷ ds) = (c == d) && starts cs ds

-- no mark begins with this text and this byte
abbrev pub Whole : List ℕ → ℕ → Type 0
Whole text c = (other : List ℕ) (n : Mark) → Lists mark_rows other n → starts (text ++ c ∷ []) other ≡ true → ⊥

-- the same as a test
abbrev pub is_whole : List ℕ → ℕ → Bool
is_whole text c = list_all (λ row. not (starts (text ++ c ∷ []) row.0)) mark_rows

pub whole_by_test : (text : List ℕ) (c : ℕ) → is_whole text c ≡ true → Whole text c
whole_by_test text c h other n row starting =
    both_ways (starts (text ++ c ∷ []) other) (not-true (starts (text ++ c ∷ []) other) (lists_pass (λ t. not (starts (text ++ c ∷ []) t)) mark_rows other n h row)) starting

-- a byte that a mark has after its first one
abbrev pub is_joint : ℕ → Bool
is_joint c = c == 43 || (c == 45 || (c == 46 || (c == 47 || (c == 58 || (c == 60 || (c == 61 || (c == 62 || c == 124)))))))

abbrev tail_joints : List ℕ → Bool
tail_joints [] = true
tail_joints (c ∷ cs) = list_all is_joint cs

rows_joint : list_all (λ row. tail_joints row.0) mark_rows ≡ true
rows_joint = refl

joint_of : (text other : List ℕ) (c : ℕ) → starts (text ++ c ∷ []) other ≡ true → list_all is_joint other ≡ true → is_joint c ≡ true
joint_of [] [] c s h = absurd (false≢true s)
joint_of [] (d ∷ other) c s h =
    let same : c ≡ d = eqb-true c d (and_parts (c == d) true s).0 in
    ap is_joint same ∙ (and_parts (is_joint d) (list_all is_joint other) h).0
joint_of (b ∷ text) [] c s h = absurd (false≢true s)
joint_of (b ∷ text) (d ∷ other) c s h = joint_of text other c (and_parts (b == d) (starts (text ++ c ∷ []) other) s).1 (and_parts (is_joint d) (list_all is_joint other) h).1

tail_joint : (b : ℕ) (text other : List ℕ) (c : ℕ) → starts (b ∷ (text ++ c ∷ [])) other ≡ true → tail_joints other ≡ true → is_joint c ≡ true
tail_joint b text [] c s h = absurd (false≢true s)
tail_joint b text (d ∷ other) c s h = joint_of text other c (and_parts (b == d) (starts (text ++ c ∷ []) other) s).1 h

pub whole_by_byte : (b : ℕ) (text : List ℕ) (c : ℕ) → is_joint c ≡ false → Whole (b ∷ text) c
whole_by_byte b text c h other n row starting =
    both_ways (is_joint c) h (tail_joint b text other c starting (lists_pass tail_joints mark_rows other n rows_joint row))

-- the text goes on so that no mark is longer than this one
abbrev pub EndsSign : List ℕ → List ℕ → Type 0
EndsSign text [] = Unit {0}
EndsSign text (c ∷ cs) = Whole text c

-- a text that begins with this one and the byte after it
abbrev Outgrows : List ℕ → List ℕ → List ℕ → Type 0
Outgrows other text [] = ⊥
Outgrows other text (c ∷ cs) = starts (text ++ c ∷ []) other ≡ true

-- what begins a text is no longer than a given front of it, or outgrows it
longer : (text other u rest : List ℕ) → text ++ rest ≡ other ++ u → (length other ≤ length text) ⊎ Outgrows other text rest
longer text [] u rest e = inl (omega arith)
longer [] (d ∷ other) u [] e = absurd (cc)
longer [] (d ∷ other) u (c ∷ rest) e = let same : c ≡ d = cc in inr (and_from (c == d) true (eq-eqb c d same) refl)
longer (b ∷ text) (d ∷ other) u rest e =
    let same : b ≡ d = cc in
    let tails : text ++ rest ≡ other ++ u = cc in
    ⊎_elim (λ (short : length other ≤ length text). inl (omega arith)) (λ (more : Outgrows other text rest). inr (outgrown rest same more)) (longer text other u rest tails)
  where
    outgrown : (bytes : List ℕ) → b ≡ d → Outgrows other text bytes → Outgrows (d ∷ other) (b ∷ text) bytes
    outgrown [] same more = more
    outgrown (c ∷ cs) same more = and_from (b == d) (starts (text ++ c ∷ []) other) (eq-eqb b d same) more

longest_row : (text rest : List ℕ) (m : Mark) → IsMark text m → EndsSign text rest → LongestRow mark_rows (text ++ rest) rest m
unfolding IsMark
longest_row text rest m is ends = record {
  text = text;
  cut = refl;
  listed = is;
  longest = λ other u n e h. ⊎_elim (λ (short : length other ≤ length text). short) (λ (more : Outgrows other text rest). absurd (never rest other n ends h more)) (longer text other u rest e);
}
  where
    never : (bytes other : List ℕ) (n : Mark) → EndsSign text bytes → Lists mark_rows other n → Outgrows other text bytes → ⊥
    never [] other n ends h more = more
    never (c ∷ cs) other n ends h more = ends other n h more

heads_other : (text rest : List ℕ) (m : Mark) → IsMark text m → Heads Other (text ++ rest)
heads_other [] rest m is = absurd (mark_some m is)
heads_other (c ∷ text) rest m is = mark_class c text m is

-- a mark begins a text if it is its longest, and no `.`
pub sign_spelled : (text rest : List ℕ) (m : Mark) → IsMark text m → text ≢ 46 ∷ [] → EndsSign text rest
    → Begins (text ++ rest) rest (Some (token.Mark m)) × Fits (Some (token.Mark m))
sign_spelled text rest m is no_point ends =
    mark_found (text ++ rest) rest m (heads_other text rest m is) (longest_row text rest m is ends) (λ point. absurd (no_point (append_cancel_right text (46 ∷ []) rest point)))

point_is : IsMark (46 ∷ []) mark.Point
unfolding IsMark
point_is = listed mark_rows (46 ∷ []) mark.Point refl

-- a `.` is the mark Point alone
pub point_alone : (m : Mark) → IsMark (mark_text m) m → mark_text m ≡ 46 ∷ [] → m ≡ mark.Point
point_alone m is e = let P : List ℕ → Type 0 = λ t. IsMark t m in one_mark_of (46 ∷ []) m mark.Point (subst P e is) point_is

pub dot_spelled : (rest : List ℕ) → ends_form rest ≡ true → EndsSign (46 ∷ []) rest → Begins (46 ∷ rest) rest (Some Dot) × Fits (Some Dot)
dot_spelled rest dot ends =
    dot_found (46 ∷ rest) rest mark.Point (heads_other (46 ∷ []) rest mark.Point point_is) (longest_row (46 ∷ []) rest mark.Point point_is ends) refl dot
