-- What the layout's pieces spell is scanned as their tokens, each on its line.

use Rattle.std.proofs.Common.{◌≡◌, ℕ, zero, suc, ◌+◌, ◌≤◌, Bool, true, false, ◌==◌, List, [], ◌∷◌, ◌++◌, length, replicate, Option, Some, None, refl, sym, ap, ◌∙◌, subst, arith, decimal}
use Rattle.std.specs.Prelude.{count_by, encode_utf8_all, IsUtf8, chars, map, cond, eqb}
use Rattle.std.specs.List.{list_all}
use Rattle.std.proofs.lemmas.Bool.{false≢true, eqb-true}
use Rattle.std.proofs.lemmas.Bool.Decides.{nat_tests}
use Rattle.std.proofs.lemmas.List.{append_cancel_right}
use Rattle.std.proofs.lemmas.List.Sums.{sum_by-append}
use Rattle.std.proofs.lemmas.List.Folds.{sum_by-zero}
use Rattle.edb_lang.specs.TermText.{is_bare, atom_text}
use Rattle.edb_scan.specs.declared.lexeme.Mark.{Mark}
use Rattle.edb_scan.specs.declared.lexeme.Mark.TheVariants as mark
use Rattle.edb_scan.specs.declared.lexeme.Token.{Token}
use Rattle.edb_scan.specs.declared.lexeme.Token.TheVariants as token
use Rattle.edb_scan.specs.declared.lexeme.Token.TheVariants.{Int, Float, Char, Atom, Var, Str, Dot}
use Rattle.edb_scan.specs.declared.lexeme.Placed.{Placed}
use Rattle.edb_scan.specs.FirstByte.{class_of}
use Rattle.edb_scan.specs.Letters.{is_name_char}
use Rattle.edb_scan.specs.Lexis.{Begins, Fits, MayStand, is_string, stays_in_line}
use Rattle.edb_scan.specs.Parting.{Parted, at_end, next_piece, placed, line_after, longest_file, AreTokens}
use Rattle.edb_scan.proofs.NumeralLemmas.{is_ten}
use Rattle.edb_scan.proofs.TopLemmas.{space_found}
use Rattle.edb_scan.specs.MarkText.{mark_text}
use Rattle.edb_print.specs.Pieces.{Gap, tight, blank, line, Piece, spelling, shown, gap_text, bytes_of, line_behind, tokens_of}
use Rattle.edb_print.proofs.SoundTokens.{Sound}
use Rattle.edb_print.proofs.Reread.{SoundPieces}
use Rattle.edb_print.proofs.Touching.{is_laid, touches, Behind}
use Rattle.edb_print.proofs.SpelledEnds.{EndsWord, Follows, ends_word, first_piece, follows}
use Rattle.edb_print.proofs.SpelledNumbers.{numeral, int_spelled, float_spelled}
use Rattle.edb_print.proofs.SpelledNames.{all_weaker, lower_name, upper_name, bare_name, variable_spelled, bare_spelled}
use Rattle.edb_print.proofs.SpelledQuotes.{quoted_in_line, string_spelled, quoted_atom_spelled}
use Rattle.edb_print.proofs.SpelledSigns.{mark_spelled, dot_read}

atom_spelled : (name rest : List ℕ) → IsUtf8 name → length (chars name) ≤ 255 → EndsWord rest → Begins (atom_text name ++ rest) rest (Some (Atom name)) × Fits (Some (Atom name))
atom_spelled name rest text short ends = at (is_bare name) refl
  where
    at : (b : Bool) → is_bare name ≡ b → Begins (atom_text name ++ rest) rest (Some (Atom name)) × Fits (Some (Atom name))
    at true h = rw h (bare_spelled name rest h short ends)
    at false h = rw h (quoted_atom_spelled name rest text short)

-- a token's spelling is read as the token, if what follows may stand after it
spelled : (t : Token) (rest : List ℕ) → Sound t → is_laid t ≡ true → Follows t rest → Begins (spelling t ++ rest) rest (Some t) × Fits (Some t)
spelled (Int n) rest s l f = int_spelled n rest s (ends_word (Int n) rest (λ u. refl) f)
spelled Float rest s l f = float_spelled rest (ends_word Float rest (λ u. refl) f)
spelled (Char c) rest s l f = absurd (false≢true l)
spelled (Atom name) rest s l f = atom_spelled name rest s.0 s.1 (ends_word (Atom name) rest (λ u. refl) f)
spelled (Var name) rest s l f = variable_spelled name rest s (ends_word (Var name) rest (λ u. refl) f)
spelled (Str cs) rest s l f = string_spelled cs rest s
spelled (token.Mark m) rest s l f = mark_spelled m rest l f
spelled Dot rest s l f = dot_read rest f

ten_stays : (c : ℕ) → is_ten c ≡ true → stays_in_line c ≡ true
ten_stays c h = grind (arith, nat_tests)

name_stays : (c : ℕ) → is_name_char c ≡ true → stays_in_line c ≡ true
name_stays c h = grind (arith, nat_tests)

mark_in_line : (m : Mark) → list_all stays_in_line (mark_text m) ≡ true
mark_in_line mark.Ellipsis = refl
mark_in_line _ = refl

atom_in_line : (name : List ℕ) → list_all stays_in_line (atom_text name) ≡ true
atom_in_line name = at (is_bare name) refl
  where
    at : (b : Bool) → is_bare name ≡ b → list_all stays_in_line (atom_text name) ≡ true
    at true h = rw h (all_weaker is_name_char stays_in_line name name_stays (lower_name name (bare_name name h).0))
    at false h = rw h (quoted_in_line 39 name refl)

-- no token goes over a line's end
in_line : (t : Token) → Sound t → is_laid t ≡ true → list_all stays_in_line (spelling t) ≡ true
in_line (Int n) s l = all_weaker is_ten stays_in_line (decimal n) ten_stays (numeral n s).alone
in_line Float s l = refl
in_line (Char c) s l = absurd (false≢true l)
in_line (Atom name) s l = atom_in_line name
in_line (Var name) s l = all_weaker is_name_char stays_in_line name name_stays (upper_name name s)
in_line (Str cs) s l = quoted_in_line 34 (encode_utf8_all (map shown cs)) refl
in_line (token.Mark m) s l = mark_in_line m
in_line Dot s l = refl

-- a byte that stays in its line counts for none
none_ends : (c : ℕ) → stays_in_line c ≡ true → eqb (cond (c == 10) 1 0) 0 ≡ true
none_ends c h = grind (arith, nat_tests)

same_line : (front text : List ℕ) → list_all stays_in_line text ≡ true → line_after (front ++ text) ≡ line_after front
unfolding line_after
same_line front text h =
    let passed = all_weaker stays_in_line (λ c. eqb (cond (c == 10) 1 0) 0) text none_ends h in
    let none : count_by (λ c. c == 10) text ≡ 0 = eqb-true (count_by (λ c. c == 10) text) 0 (sum_by-zero (λ c. cond (c == 10) 1 0) text ∙ passed) in
    let both : count_by (λ c. c == 10) (front ++ text) ≡ count_by (λ c. c == 10) front + count_by (λ c. c == 10) text = sum_by-append (λ c. cond (c == 10) 1 0) front text in
    omega (arith, none, both)

next_line : (front : List ℕ) → line_after (front ++ 10 ∷ []) ≡ line_after front + 1
unfolding line_after
next_line front =
    let both : count_by (λ c. c == 10) (front ++ 10 ∷ []) ≡ count_by (λ c. c == 10) front + 1 = sum_by-append (λ c. cond (c == 10) 1 0) front (10 ∷ []) in
    omega (arith, both)

-- the piece that this text spells, and what comes after it
one_piece : (front : List ℕ) (behind_string : Bool) (text rest : List ℕ) (p : Option Token) (ts us : List Placed) → Begins (text ++ rest) rest p → MayStand behind_string p
    → us ≡ placed (line_after front) p ts → Parted (front ++ text) (is_string p) rest ts None → Parted front behind_string (text ++ rest) us None
one_piece front behind_string text rest p ts us begins may e parted =
    next_piece front behind_string (text ++ rest) rest (front ++ text) p ts us None begins may (ap (λ t. front ++ t) (append_cancel_right text begins.text rest begins.cut)) e parted

-- white space leaves no token
blank_begins : (rest : List ℕ) → Begins (32 ∷ rest) rest None
unfolding class_of
blank_begins rest = (space_found (32 ∷ rest) rest 32 refl refl).0

line_begins : (rest : List ℕ) → Begins (10 ∷ rest) rest None
unfolding class_of
line_begins rest = (space_found (10 ∷ rest) rest 10 refl refl).0

-- the spaces before a line's first token
spaces : (n : ℕ) (front rest : List ℕ) (ts : List Placed) → ((next : List ℕ) → line_after next ≡ line_after front → Parted next false rest ts None)
    → Parted front false (replicate n 32 ++ rest) ts None
spaces zero front rest ts go = go front refl
spaces (suc n) front rest ts go =
    one_piece front false (32 ∷ []) (replicate n 32 ++ rest) None ts ts (blank_begins (replicate n 32 ++ rest)) (tt, λ e. refl) refl
    (spaces n (front ++ 32 ∷ []) rest ts (λ next e. go next (e ∙ same_line front (32 ∷ []) refl)))

-- A gap's bytes are white space: what comes after them follows a string only if there are none.
gap_parted : (g : Gap) (front : List ℕ) (behind_string : Bool) (rest : List ℕ) (ts : List Placed)
    → ((next : List ℕ) (string : Bool) → line_after next ≡ line_behind (line_after front) g → (string ≡ true → (g ≡ tight) × (behind_string ≡ true)) → Parted next string rest ts None)
    → Parted front behind_string (gap_text g ++ rest) ts None
gap_parted tight front behind_string rest ts go = go front behind_string refl (λ e. (refl, e))
gap_parted blank front behind_string rest ts go =
    one_piece front behind_string (32 ∷ []) rest None ts ts (blank_begins rest) (tt, λ e. refl) refl (go (front ++ 32 ∷ []) false (same_line front (32 ∷ []) refl) (λ e. absurd (false≢true e)))
gap_parted (line d) front behind_string rest ts go =
    one_piece front behind_string (10 ∷ []) (replicate d 32 ++ rest) None ts ts (line_begins (replicate d 32 ++ rest)) (tt, λ e. refl) refl
    (spaces d (front ++ 10 ∷ []) rest ts (λ next e. go next false (e ∙ next_line front) (λ f. absurd (false≢true f))))

-- no string stands directly after a string
apart : (t u : Token) → touches t u ≡ true → is_string (Some t) ≡ true → is_string (Some u) ≡ false
apart (Str cs) (Str ds) h s = absurd (false≢true h)
apart (Str cs) _ h s = refl
apart _ u h s = absurd (false≢true s)

-- a token after a gap, and the pieces after it
tokens_here : (u : Token) (ps : List Piece) (l m n : ℕ) → m ≡ l → n ≡ m
    → ◌≡◌ {A = List Placed} (record { line = l; token = u } ∷ tokens_of l ps) (record { line = m; token = u } ∷ tokens_of n ps)
tokens_here u ps l m n e f =
    let both : ℕ → List Placed = λ k. record { line = k; token = u } ∷ tokens_of k ps in
    let others : ℕ → List Placed = λ k. record { line = m; token = u } ∷ tokens_of k ps in
    ap both (sym e) ∙ ap others (sym f)

-- pieces after the token t, and the last line's end
parts : (front : List ℕ) (t : Token) (ps : List Piece) → SoundPieces ps → Behind t ps
    → Parted front (is_string (Some t)) (bytes_of ps ++ 10 ∷ []) (tokens_of (line_after front) ps) None
parts front t [] s b = one_piece front (is_string (Some t)) (10 ∷ []) [] None [] [] (line_begins []) (tt, λ e. refl) refl (at_end (front ++ 10 ∷ []) false)
parts front t (p ∷ ps) s b =
    let rest = bytes_of ps ++ 10 ∷ [] in
    let read = spelled p.token rest s.0 b.0 (follows p.token ps s.1 b.2) in
    let P : List ℕ → Type 0 = λ bytes. Parted front (is_string (Some t)) bytes (tokens_of (line_after front) (p ∷ ps)) None in
    subst P (sym (first_piece p ps)) (gap_parted p.gap front (is_string (Some t)) (spelling p.token ++ rest) (tokens_of (line_after front) (p ∷ ps)) (λ next string here direct.
    let last = next ++ spelling p.token in
    one_piece next string (spelling p.token) rest (Some p.token) (tokens_of (line_after last) ps) (tokens_of (line_after front) (p ∷ ps)) read.0
    (read.1, λ e. let d = direct e in apart t p.token (b.1 d.0) d.1)
    (tokens_here p.token ps (line_behind (line_after front) p.gap) (line_after next) (line_after last) here (same_line next (spelling p.token) (in_line p.token s.0 b.0)))
    (parts last p.token ps s.1 b.2)))

-- the text of pieces is scanned as their tokens
pub text_parts : (ps : List Piece) → SoundPieces ps → Behind (token.Mark mark.ParenOpen) ps
    → length (bytes_of ps ++ 10 ∷ []) ≤ longest_file
    → AreTokens (bytes_of ps ++ 10 ∷ []) (tokens_of 1 ps)
unfolding AreTokens line_after
text_parts ps s b short = (short, parts [] (token.Mark mark.ParenOpen) ps s b)
