-- Marks between what may stand after them: none is longer.

use Rattle.std.proofs.Common.{◌≡◌, ℕ, Bool, true, false, not, ◌&&◌, ◌||◌, List, [], ◌∷◌, ◌++◌, Some, refl, sym, ap, ◌∙◌, subst, ⊎_elim, arith, decimal}
use Rattle.std.proofs.lemmas.Bool.{or_cases, or_left, or_right, not-true, true≢false, false≢true}
use Rattle.std.proofs.lemmas.Bool.Decides.{nat_tests}
use Rattle.edb_lang.specs.TermText.{is_bare, atom_text}
use Rattle.edb_scan.specs.declared.lexeme.Mark.{Mark}
use Rattle.edb_scan.specs.declared.lexeme.Mark.TheVariants as mark
use Rattle.edb_scan.specs.declared.lexeme.Token.{Token}
use Rattle.edb_scan.specs.declared.lexeme.Token.TheVariants as token
use Rattle.edb_scan.specs.declared.lexeme.Token.TheVariants.{Int, Float, Char, Atom, Var, Str, Dot}
use Rattle.edb_scan.specs.Letters.{is_lower, is_upper}
use Rattle.edb_scan.specs.Lexis.{Begins, Fits, IsName, ends_form}
use Rattle.edb_scan.specs.Spellings.{IsMark, IsWord}
use Rattle.edb_scan.proofs.NumeralLemmas.{is_ten}
use Rattle.edb_scan.proofs.Rows.{mark_some, word_name}
use Rattle.edb_scan.specs.MarkText.{mark_text}
use Rattle.edb_print.specs.Pieces.{spelling}
use Rattle.edb_print.proofs.SoundTokens.{Sound}
use Rattle.edb_print.proofs.Touching.{is_laid, is_first, is_minus, is_last, is_bracket, joins}
use Rattle.edb_print.proofs.SpelledMarks.{Whole, is_whole, whole_by_test, is_joint, whole_by_byte, EndsSign, word_or_sign, point_alone, sign_spelled, dot_spelled}
use Rattle.edb_print.proofs.SpelledEnds.{Leads, leads_on, is_blank, is_closing, Follows, left, closed, behind, inside, joined, ends_word, dot_left}
use Rattle.edb_print.proofs.SpelledNumbers.{numeral}
use Rattle.edb_print.proofs.SpelledNames.{bare_name, word_spelled}

-- a byte that no mark has after its first one
abbrev is_apart : ℕ → Bool
is_apart c = not (is_joint c)

blank_apart : (c : ℕ) → is_blank c ≡ true → is_apart c ≡ true
blank_apart c h = grind (arith, nat_tests)

closing_apart : (c : ℕ) → is_closing c ≡ true → is_apart c ≡ true
closing_apart c h = grind (arith, nat_tests)

leads_also : (p q : ℕ → Bool) (text : List ℕ) → ((c : ℕ) → p c ≡ true → q c ≡ true) → Leads p text → Leads q text
leads_also p q [] more h = h
leads_also p q (c ∷ cs) more h = more c h

apart_ends : (m : Mark) (rest : List ℕ) → IsMark (mark_text m) m → Leads is_apart rest → EndsSign (mark_text m) rest
apart_ends m [] is h = tt
apart_ends m (c ∷ cs) is h = some (mark_text m) is
  where
    some : (text : List ℕ) → IsMark text m → Whole text c
    some [] none = absurd (mark_some m none)
    some (b ∷ text) here = whole_by_byte b text c (not-true (is_joint c) h)

-- an operand begins with such a byte
ten_apart : (c : ℕ) → is_ten c ≡ true → is_apart c ≡ true
ten_apart c h = grind (arith, nat_tests)

lower_apart : (c : ℕ) → is_lower c ≡ true → is_apart c ≡ true
lower_apart c h = grind (arith, nat_tests)

upper_apart : (c : ℕ) → is_upper c ≡ true → is_apart c ≡ true
upper_apart c h = grind (arith, nat_tests)

name_leads : (first : ℕ → Bool) (text : List ℕ) → IsName first text → Leads first text
name_leads first [] h = h
name_leads first (c ∷ cs) h = h.0

atom_leads : (name : List ℕ) → Leads is_apart (atom_text name)
atom_leads name = at (is_bare name) refl
  where
    at : (b : Bool) → is_bare name ≡ b → Leads is_apart (atom_text name)
    at true h = rw h (leads_also is_lower is_apart name lower_apart (name_leads is_lower name (bare_name name h).0))
    at false h = rw h refl

operand_leads : (u : Token) → is_first u ≡ true → Sound u → Leads is_apart (spelling u)
operand_leads (Int n) h s = leads_also is_ten is_apart (decimal n) ten_apart (numeral n s).leads
operand_leads Float h s = refl
operand_leads (Atom name) h s = atom_leads name
operand_leads (Var name) h s = leads_also is_upper is_apart name upper_apart (name_leads is_upper name s)
operand_leads (Str cs) h s = refl
operand_leads (token.Mark mark.BracketOpen) h s = refl
operand_leads (token.Mark mark.BraceOpen) h s = refl
operand_leads (token.Mark mark.Begin) h s = refl
operand_leads (token.Mark mark.Case) h s = refl
operand_leads (token.Mark mark.If) h s = refl
operand_leads (token.Mark mark.Receive) h s = refl
operand_leads (token.Mark mark.Try) h s = refl
operand_leads (token.Mark mark.Fun) h s = refl
operand_leads _ h s = absurd (false≢true h)

minus_text : (u : Token) → is_minus u ≡ true → spelling u ≡ 45 ∷ []
minus_text (token.Mark mark.Minus) h = refl
minus_text _ h = absurd (false≢true h)

operand_ends : (m : Mark) (u : Token) (more : List ℕ) → IsMark (mark_text m) m → is_first u ≡ true → Sound u → EndsSign (mark_text m) (spelling u ++ more)
operand_ends m u more is h s = apart_ends m (spelling u ++ more) is (leads_on is_apart (spelling u) more (operand_leads u h s))

-- no mark begins with `:-`
minus_ends : (u : Token) (more : List ℕ) → is_minus u ≡ true → EndsSign (mark_text mark.Colon) (spelling u ++ more)
minus_ends u more h = let P : List ℕ → Type 0 = λ t. EndsSign (mark_text mark.Colon) (t ++ more) in subst P (sym (minus_text u h)) (whole_by_test (mark_text mark.Colon) 45 refl)

joined_ends : (m : Mark) (u : Token) (more : List ℕ) → IsMark (mark_text m) m → joins (token.Mark m) u ≡ true → Sound u → EndsSign (mark_text m) (spelling u ++ more)
joined_ends mark.Minus u more is h s = operand_ends mark.Minus u more is h s
joined_ends mark.Plus u more is h s = operand_ends mark.Plus u more is h s
joined_ends mark.Slash u more is h s = operand_ends mark.Slash u more is h s
joined_ends mark.Colon u more is h s =
    ⊎_elim (λ (first : is_first u ≡ true). operand_ends mark.Colon u more is first s) (λ (minus : is_minus u ≡ true). minus_ends u more minus) (or_cases (is_first u) (is_minus u) h)
joined_ends _ u more is h s = absurd (false≢true h)

-- no mark but itself begins with a bracket, nor with what ends an expression
alone : (m : Mark) (c : ℕ) → (not (is_last (token.Mark m) || is_bracket (token.Mark m)) || is_whole (mark_text m) c) ≡ true
alone mark.Ellipsis c = refl
alone _ c = refl

alone_ends : (m : Mark) (rest : List ℕ) → (is_last (token.Mark m) || is_bracket (token.Mark m)) ≡ true → EndsSign (mark_text m) rest
alone_ends m [] h = tt
alone_ends m (c ∷ cs) h = whole_by_test (mark_text m) c (sym (ap (λ b. not b || is_whole (mark_text m) c) h) ∙ alone m c)

sign_ends : (m : Mark) (rest : List ℕ) → IsMark (mark_text m) m → Follows (token.Mark m) rest → EndsSign (mark_text m) rest
sign_ends m rest is (left h) = apart_ends m rest is (leads_also is_blank is_apart rest blank_apart h)
sign_ends m rest is (closed n h) = apart_ends m rest is (leads_also is_closing is_apart rest closing_apart h)
sign_ends m rest is (behind l h) = alone_ends m rest (or_left (is_last (token.Mark m)) (is_bracket (token.Mark m)) l)
sign_ends m rest is (inside h) = alone_ends m rest (or_right (is_last (token.Mark m)) (is_bracket (token.Mark m)) h)
sign_ends m rest is (joined u more j s e) = let P : List ℕ → Type 0 = λ t. EndsSign (mark_text m) t in subst P (sym e) (joined_ends m u more is j s)

abbrev begins_lower : List ℕ → Bool
begins_lower [] = false
begins_lower (c ∷ cs) = is_lower c

-- a reserved word is no bracket, and joins nothing
word_calm : (m : Mark) (u : Token) → (begins_lower (mark_text m) && (is_bracket (token.Mark m) || joins (token.Mark m) u)) ≡ false
word_calm mark.Ellipsis u = refl
word_calm _ u = refl

calm_word : (m : Mark) → IsWord (mark_text m) m → (u : Token) → (is_bracket (token.Mark m) || joins (token.Mark m) u) ≡ false
calm_word m word u = sym (ap (λ b. b && (is_bracket (token.Mark m) || joins (token.Mark m) u)) (lower (mark_text m) (word_name (mark_text m) m word))) ∙ word_calm m u
  where
    lower : (text : List ℕ) → IsName is_lower text → begins_lower text ≡ true
    lower [] h = absurd h
    lower (c ∷ cs) h = h.0

-- a mark or a reserved word of the layout
pub mark_spelled : (m : Mark) (rest : List ℕ) → is_laid (token.Mark m) ≡ true → Follows (token.Mark m) rest
    → Begins (mark_text m ++ rest) rest (Some (token.Mark m)) × Fits (Some (token.Mark m))
mark_spelled m rest laid follows = ⊎_elim word sign (word_or_sign m)
  where
    word : IsWord (mark_text m) m → Begins (mark_text m ++ rest) rest (Some (token.Mark m)) × Fits (Some (token.Mark m))
    word is = word_spelled (mark_text m) rest m is (ends_word (token.Mark m) rest (calm_word m is) follows)

    sign : IsMark (mark_text m) m → Begins (mark_text m ++ rest) rest (Some (token.Mark m)) × Fits (Some (token.Mark m))
    sign is = sign_spelled (mark_text m) rest m is (λ e. absurd (true≢false (sym laid ∙ ap (λ o. is_laid (token.Mark o)) (point_alone m is e)))) (sign_ends m rest is follows)

blank_ends_form : (c : ℕ) (cs : List ℕ) → is_blank c ≡ true → ends_form (c ∷ cs) ≡ true
blank_ends_form c cs h = grind (arith, nat_tests)

-- a dot, which stands before white space
pub dot_read : (rest : List ℕ) → Follows Dot rest → Begins (46 ∷ rest) rest (Some Dot) × Fits (Some Dot)
dot_read rest follows = at rest (dot_left Dot rest refl follows)
  where
    at : (bytes : List ℕ) → Leads is_blank bytes → Begins (46 ∷ bytes) bytes (Some Dot) × Fits (Some Dot)
    at [] h = absurd h
    at (c ∷ cs) h = dot_spelled (c ∷ cs) (blank_ends_form c cs h) (whole_by_byte 46 [] c (not-true (is_joint c) (blank_apart c h)))
