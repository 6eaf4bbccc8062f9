-- What stands after a token of the layout, by its first bytes.

use Rattle.std.proofs.Common.{◌≡◌, ◌≢◌, ℕ, Bool, true, false, not, ◌&&◌, ◌||◌, ◌==◌, List, [], ◌∷◌, ◌++◌, refl, sym, ◌∙◌, subst, ⊎_elim, arith, append_assoc}
use Rattle.std.proofs.lemmas.Bool.{and_parts, or_cases, or_left, or_right, both_ways, not-true, true≢false, false≢true}
use Rattle.std.proofs.lemmas.Bool.Decides.{nat_tests}
use Rattle.edb_scan.specs.Letters.{is_name_char}
use Rattle.edb_scan.specs.declared.lexeme.Mark.TheVariants as mark
use Rattle.edb_scan.specs.declared.lexeme.Token.{Token}
use Rattle.edb_scan.specs.declared.lexeme.Token.TheVariants as token
use Rattle.edb_scan.specs.declared.lexeme.Token.TheVariants.{Dot}
use Rattle.edb_grammar.specs.Files.{is_dot}
use Rattle.edb_print.specs.Pieces.{Gap, tight, blank, line, Piece, spelling, gap_text, bytes_of}
use Rattle.edb_print.proofs.SoundTokens.{Sound}
use Rattle.edb_print.proofs.Reread.{SoundPieces}
use Rattle.edb_print.proofs.Touching.{is_free, is_behind, is_last, is_bracket, joins, touches, Behind}

-- the text begins with a byte that passes the test
abbrev pub Leads : (ℕ → Bool) → List ℕ → Type 0
Leads p [] = ⊥
Leads p (c ∷ cs) = p c ≡ true

pub leads_on : (p : ℕ → Bool) (text more : List ℕ) → Leads p text → Leads p (text ++ more)
leads_on p [] more h = absurd h
leads_on p (c ∷ cs) more h = h

-- white space of the layout: a space, or a line's end
abbrev pub is_blank : ℕ → Bool
is_blank c = c == 32 || c == 10

-- with what the tokens begin that stand directly after each token but a dot
abbrev pub is_closing : ℕ → Bool
is_closing c = c == 40 || (c == 41 || (c == 93 || (c == 125 || (c == 44 || c == 59))))

-- what ends a name and a number: neither a byte of a name nor `#`, and a `.` only before white space
abbrev pub EndsWord : List ℕ → Type 0
EndsWord [] = ⊥
EndsWord (c ∷ cs) = (is_name_char c ≡ false) × (c ≢ 35) × (c ≡ 46 → Leads is_blank cs)

-- What stands after the token t: white space; one of the tokens that may stand after each token; after the end of an
-- expression or a pattern, what ends a word; after a bracket, anything; or what t joins.
pub data Follows (t : Token) (rest : List ℕ) : Type 0 where
  left : Leads is_blank rest → Follows t rest
  closed : is_dot t ≡ false → Leads is_closing rest → Follows t rest
  behind : is_last t ≡ true → EndsWord rest → Follows t rest
  inside : is_bracket t ≡ true → Follows t rest
  joined : (u : Token) (more : List ℕ) → joins t u ≡ true → Sound u → rest ≡ spelling u ++ more → Follows t rest

blank_ends : (rest : List ℕ) → Leads is_blank rest → EndsWord rest
blank_ends [] h = absurd h
blank_ends (c ∷ cs) h = (grind (arith, nat_tests), λ e. grind (arith, nat_tests), λ e. absurd (grind (arith, nat_tests)))

closing_ends : (rest : List ℕ) → Leads is_closing rest → EndsWord rest
closing_ends [] h = absurd h
closing_ends (c ∷ cs) h = (grind (arith, nat_tests), λ e. grind (arith, nat_tests), λ e. absurd (grind (arith, nat_tests)))

-- after a token that is no bracket and joins nothing
pub ends_word : (t : Token) (rest : List ℕ) → ((u : Token) → (is_bracket t || joins t u) ≡ false) → Follows t rest → EndsWord rest
ends_word t rest calm (left h) = blank_ends rest h
ends_word t rest calm (closed n h) = closing_ends rest h
ends_word t rest calm (behind l h) = h
ends_word t rest calm (inside h) = absurd (both_ways (is_bracket t || joins t Dot) (calm Dot) (or_left (is_bracket t) (joins t Dot) h))
ends_word t rest calm (joined u more h s e) = absurd (both_ways (is_bracket t || joins t u) (calm u) (or_right (is_bracket t) (joins t u) h))

-- a dot stands before white space
pub dot_left : (t : Token) (rest : List ℕ) → is_dot t ≡ true → Follows t rest → Leads is_blank rest
dot_left Dot rest h (left l) = l
dot_left Dot rest h (closed n l) = absurd (true≢false n)
dot_left Dot rest h (behind l e) = absurd (false≢true l)
dot_left Dot rest h (inside i) = absurd (false≢true i)
dot_left Dot rest h (joined u more j s e) = absurd (false≢true j)
dot_left _ rest h f = absurd (false≢true h)

closing_text : (u : Token) (more : List ℕ) → is_free u ≡ true → Leads is_closing (spelling u ++ more)
closing_text (token.Mark mark.ParenOpen) more h = refl
closing_text (token.Mark mark.ParenClose) more h = refl
closing_text (token.Mark mark.BracketClose) more h = refl
closing_text (token.Mark mark.BraceClose) more h = refl
closing_text (token.Mark mark.Comma) more h = refl
closing_text (token.Mark mark.Semicolon) more h = refl
closing_text _ more h = absurd (false≢true h)

behind_text : (u : Token) (more : List ℕ) → is_behind u ≡ true → (is_dot u ≡ true → Leads is_blank more) → EndsWord (spelling u ++ more)
behind_text (token.Mark mark.Colon) more h d = (refl, λ e. absurd (omega arith), λ e. absurd (omega arith))
behind_text (token.Mark mark.Slash) more h d = (refl, λ e. absurd (omega arith), λ e. absurd (omega arith))
behind_text Dot more h d = (refl, λ e. absurd (omega arith), λ e. d refl)
behind_text _ more h d = absurd (false≢true h)

touched : (t u : Token) (more : List ℕ) → touches t u ≡ true → Sound u → (is_dot u ≡ true → Leads is_blank more) → Follows t (spelling u ++ more)
touched t u more h s d = ⊎_elim free (λ others. ⊎_elim last (λ others'. ⊎_elim bracket (λ j. joined u more j s refl) (or_cases _ _ others')) (or_cases _ _ others)) (or_cases _ _ h)
  where
    free : (is_free u && not (is_dot t)) ≡ true → Follows t (spelling u ++ more)
    free f = let parts = and_parts (is_free u) (not (is_dot t)) f in closed (not-true (is_dot t) parts.1) (closing_text u more parts.0)

    last : (is_behind u && is_last t) ≡ true → Follows t (spelling u ++ more)
    last l = let parts = and_parts (is_behind u) (is_last t) l in behind parts.1 (behind_text u more parts.0 d)

    bracket : (is_bracket t && not (is_behind u)) ≡ true → Follows t (spelling u ++ more)
    bracket b = inside (and_parts (is_bracket t) (not (is_behind u)) b).0

behind_gap : (t : Token) (g : Gap) (u : Token) (more : List ℕ) → (g ≡ tight → touches t u ≡ true) → Sound u → (is_dot u ≡ true → Leads is_blank more) → Follows t (gap_text g ++ (spelling u ++ more))
behind_gap t tight u more may s d = touched t u more (may refl) s d
behind_gap t blank u more may s d = left refl
behind_gap t (line n) u more may s d = left refl

-- a text's first piece, and what follows up to the last line's end
pub first_piece : (p : Piece) (ps : List Piece) → bytes_of (p ∷ ps) ++ 10 ∷ [] ≡ gap_text p.gap ++ (spelling p.token ++ (bytes_of ps ++ 10 ∷ []))
first_piece p ps =
    append_assoc (gap_text p.gap ++ spelling p.token) (bytes_of ps) (10 ∷ []) ∙ append_assoc (gap_text p.gap) (spelling p.token) (bytes_of ps ++ 10 ∷ [])

-- what follows the token t, if pieces stand after it and the last line's end after them
pub follows : (t : Token) (ps : List Piece) → SoundPieces ps → Behind t ps → Follows t (bytes_of ps ++ 10 ∷ [])
follows t [] s b = left refl
follows t (p ∷ ps) s b =
    let more = follows p.token ps s.1 b.2 in
    let P : List ℕ → Type 0 = λ bytes. Follows t bytes in
    subst P (sym (first_piece p ps)) (behind_gap t p.gap p.token (bytes_of ps ++ 10 ∷ []) b.1 s.0 (λ d. dot_left p.token (bytes_of ps ++ 10 ∷ []) d more))
