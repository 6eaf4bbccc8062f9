-- The scan's loop: what it knows of the pieces so far, and its answers.
use Rattle.std.proofs.Common.{◌≡◌, ◌≢◌, ℕ, ◌≤◌, ◌<◌, ◌+◌, ◌-◌, Bool, true, false, List, [], ◌∷◌, ◌++◌, length, take, Option, Some, None, refl, sym, ap, ◌∙◌, subst, inl, inr, arith, length-append, append_assoc, append-nil}
use Rattle.std.specs.Prelude.{count_by, ◌==◌}
use Rattle.std.proofs.Math.Seq.{take-append_seam}
use Rattle.std.proofs.lemmas.List.Sums.{sum_by-append}
use Rattle.std.proofs.lemmas.Bool.{both_ways}
use Rattle.std.proofs.lemmas.Bool.Decides.{nat_tests}
use Rattle.edb_scan.specs.declared.classes.Class.TheVariants.{Space, Percent, Quote, Tick, Dollar}
use Rattle.edb_scan.specs.declared.lexeme.Token.{Token}
use Rattle.edb_scan.specs.declared.lexeme.Placed.{Placed}
use Rattle.edb_scan.specs.FirstByte.{class_of}
use Rattle.edb_scan.specs.Fronts.{NothingFits, NoneStands}
use Rattle.edb_scan.specs.Letters.{is_space}
use Rattle.edb_scan.specs.Lexis.{Begins, Fits, IsSpace, MayStand, is_string}
use Rattle.edb_scan.specs.Parting.{Parted, at_end, at_fault, next_piece, placed, line_after, longest_file, FaultAt, AreTokens, IsFault}
use Rattle.edb_scan.proofs.OneParting.{nothing_left, only_end, only_piece, fault_behind}
use Rattle.edb_scan.proofs.OnePiece.{begins_same, begins_some}
use Rattle.edb_scan.proofs.ShortKinds.{begins_by}

is_space_of : (c : ℕ) → class_of c ≡ Space → is_space c ≡ true
unfolding class_of
is_space_of c h = grind (arith, nat_tests)

pub percent_of : (c : ℕ) → class_of c ≡ Percent → c ≡ 37
unfolding class_of
percent_of c h = grind (arith, nat_tests)

pub quote_of : (c : ℕ) → class_of c ≡ Quote → c ≡ 34
unfolding class_of
quote_of c h = grind (arith, nat_tests)

pub tick_of : (c : ℕ) → class_of c ≡ Tick → c ≡ 39
unfolding class_of
tick_of c h = grind (arith, nat_tests)

pub dollar_of : (c : ℕ) → class_of c ≡ Dollar → c ≡ 36
unfolding class_of
dollar_of c h = grind (arith, nat_tests)

-- the first byte and the rest
pub headed : (bytes rest : List ℕ) (c k : ℕ) → bytes ≡ c ∷ rest → c ≡ k → bytes ≡ k ∷ rest
headed bytes rest c k e is = e ∙ ap (λ x. x ∷ rest) is

space_length : (t : List ℕ) → IsSpace t → length t ≡ 1
space_length [] h = absurd h
space_length (c ∷ cs) h = omega (arith, ap length h.1)

pub space_found : (bytes rest : List ℕ) (c : ℕ) → bytes ≡ c ∷ rest → class_of c ≡ Space → Begins bytes rest None × Fits None
space_found bytes rest c e is =
    let P : List ℕ → Type 0 = λ t. Begins t rest None in
    (subst P (sym e) (begins_by Space c rest (c ∷ []) rest None is refl (inl (is_space_of c is, refl)) (λ t u o f h. omega (arith, space_length t h.0))), tt)

pub nothing_in_empty : (bytes : List ℕ) → length bytes ≡ 0 → NothingFits bytes
nothing_in_empty [] e after p h fits = nothing_left after p h
nothing_in_empty (c ∷ cs) e after p h fits = absurd (omega arith)

-- a string directly after a string may not stand, and no other piece begins there
pub string_behind_string : (behind : Bool) (bytes after : List ℕ) (p : Option Token) → Begins bytes after p → behind ≡ true → is_string p ≡ true → NoneStands behind bytes
string_behind_string behind bytes after p begins is string other q k may =
    let same = begins_same bytes after other p q begins k in
    both_ways (is_string q) (may.1 is) (ap is_string (sym same.2) ∙ string)

-- what parts the rest parts the whole, after the tokens so far
abbrev pub Goes : (bytes front : List ℕ) (behind : Bool) (rest : List ℕ) (items : List Placed) → Type 0
Goes bytes front behind rest items = (tokens : List Placed) (stop : Option ℕ) → Parted front behind rest tokens stop → Parted [] false bytes (items ++ tokens) stop

-- what parts the whole parts the rest
abbrev pub Comes : (bytes front : List ℕ) (behind : Bool) (rest : List ℕ) → Type 0
Comes bytes front behind rest = (tokens : List Placed) (stop : Option ℕ) → Parted [] false bytes tokens stop → (others : List Placed) × Parted front behind rest others stop

placed_more : (items tokens : List Placed) (line : ℕ) (p : Option Token) → (items ++ placed line p []) ++ tokens ≡ items ++ placed line p tokens
placed_more items tokens line None = ap (λ t. t ++ tokens) (append-nil items)
placed_more items tokens line (Some t) = append_assoc items (record { line = line; token = t } ∷ []) tokens

placed_length : (line : ℕ) (p : Option Token) (tokens : List Placed) → length (placed line p tokens) ≤ 1 + length tokens
placed_length line None tokens = omega arith
placed_length line (Some t) tokens = omega arith

pub goes_on : (bytes front rest after : List ℕ) (behind string : Bool) (items more : List Placed) (line : ℕ) (p : Option Token) (begins : Begins rest after p) → MayStand behind p
    → string ≡ is_string p → line ≡ line_after front → more ≡ items ++ placed line p [] → Goes bytes front behind rest items → Goes bytes (front ++ begins.text) string after more
goes_on bytes front rest after behind string items more line p begins may is at put goes tokens stop parted =
    let P : Bool → Type 0 = λ b. Parted (front ++ begins.text) b after tokens stop in
    let Q : List Placed → Type 0 = λ t. Parted [] false bytes t stop in
    let all : more ++ tokens ≡ items ++ placed (line_after front) p tokens = ap (λ t. t ++ tokens) put ∙ placed_more items tokens line p ∙ ap (λ n. items ++ placed n p tokens) at in
    subst Q (sym all) (goes (placed (line_after front) p tokens) stop
    (next_piece front behind rest after (front ++ begins.text) p tokens (placed (line_after front) p tokens) stop begins may refl refl (subst P is parted)))

pub comes_on : (bytes front rest after : List ℕ) (behind string : Bool) (p : Option Token) (begins : Begins rest after p) → MayStand behind p → string ≡ is_string p → Comes bytes front behind rest → Comes bytes (front ++ begins.text) string after
comes_on bytes front rest after behind string p begins may is comes tokens stop parted =
    let back = comes tokens stop parted in
    let step = only_piece front rest behind back.0 stop back.1 after p begins may in
    let P : Bool → Type 0 = λ b. Parted (front ++ begins.text) b after step.0 stop in
    (step.0, subst P (sym is) step.2)

nil_of : (rest : List ℕ) → length rest ≡ 0 → rest ≡ []
nil_of [] e = refl
nil_of (c ∷ cs) e = absurd (omega arith)

-- the four answers
pub fault_here : (bytes front rest : List ℕ) (behind : Bool) (items : List Placed) (at : ℕ) → bytes ≡ front ++ rest → Goes bytes front behind rest items → 0 < length rest → NoneStands behind rest
    → at ≡ length bytes - length rest → at < longest_file → IsFault bytes at
unfolding IsFault FaultAt
fault_here bytes front rest behind items at cut goes some none is low =
    let place : length front ≡ at = omega (arith, ap length cut, length-append front rest) in
    let P : ℕ → Type 0 = λ k. Parted [] false bytes (items ++ []) (Some k) in
    let left : rest ≢ [] = λ e. absurd (omega (arith, ap length e)) in
    inl ((items ++ [], subst P place (goes [] (Some (length front)) (at_fault front behind rest left none))), low)

pub fault_at_limit : (bytes front rest : List ℕ) (behind : Bool) → bytes ≡ front ++ rest → Comes bytes front behind rest → 0 < length rest → longest_file ≤ length bytes - length rest → IsFault bytes longest_file
unfolding IsFault FaultAt
fault_at_limit bytes front rest behind cut comes some far =
    inr (
      omega (arith, ap length cut, length-append front rest),
      refl,
      λ k fault.
          let back = comes fault.0 (Some k) fault.1 in
          let further = fault_behind front rest behind back.0 (Some k) k back.1 refl in
          omega (arith, ap length cut, length-append front rest),
    )

pub too_long : (bytes front rest : List ℕ) (behind : Bool) → Comes bytes front behind rest → length rest ≡ 0 → longest_file < length bytes → IsFault bytes longest_file
unfolding IsFault FaultAt
too_long bytes front rest behind comes none long =
    inr (
      long,
      refl,
      λ k fault.
          let back = comes fault.0 (Some k) fault.1 in
          let end = only_end front rest behind back.0 (Some k) back.1 (nil_of rest none) in
          let never = end.1 in
          absurd (cc),
    )

pub all_tokens : (bytes front rest : List ℕ) (behind : Bool) (items : List Placed) → Goes bytes front behind rest items → length rest ≡ 0 → length bytes ≤ longest_file → AreTokens bytes items
unfolding AreTokens
all_tokens bytes front rest behind items goes none short =
    let P : List ℕ → Type 0 = λ t. Parted front behind t [] None in
    let Q : List Placed → Type 0 = λ t. Parted [] false bytes t None in
    (short, subst Q (append-nil items) (goes [] None (subst P (sym (nil_of rest none)) (at_end front behind))))

-- the front with its next piece
pub next_cut : (bytes front rest text after : List ℕ) → bytes ≡ front ++ rest → rest ≡ text ++ after → bytes ≡ (front ++ text) ++ after
next_cut bytes front rest text after e f = e ∙ ap (λ t. front ++ t) f ∙ sym (append_assoc front text after)

pub piece_shorter : (rest after : List ℕ) (p : Option Token) → Begins rest after p → length after < length rest
piece_shorter rest after p begins = let some = begins_some rest after p begins in omega (arith, ap length begins.cut, length-append begins.text after)

-- lines are counted over the front and its next piece
pub counted : (front rest text after : List ℕ) (lines more : ℕ) → lines ≡ count_by (λ c. c == 10) front → rest ≡ text ++ after
    → more ≡ count_by (λ c. c == 10) (take (length rest - length after) rest) → lines + more ≡ count_by (λ c. c == 10) (front ++ text)
counted front rest text after lines more so_far cut counts =
    let size : length rest - length after ≡ length text = omega (arith, ap length cut, length-append text after) in
    let taken : take (length rest - length after) rest ≡ text = ap (λ n. take n rest) size ∙ ap (λ t. take (length text) t) cut ∙ take-append_seam text after in
    let both : count_by (λ c. c == 10) (front ++ text) ≡ count_by (λ c. c == 10) front + count_by (λ c. c == 10) text = sum_by-append _ front text in
    omega (arith, so_far, counts, ap (λ t. count_by (λ c. c == 10) t) taken, both)

pub line_here : (front : List ℕ) (lines : ℕ) → lines ≡ count_by (λ c. c == 10) front → 1 + lines ≡ line_after front
unfolding line_after
line_here front lines e = ap (λ n. 1 + n) e

-- each token has a byte at least
few_behind : (front : List ℕ) (behind : Bool) (rest : List ℕ) (tokens : List Placed) (stop : Option ℕ) → Parted front behind rest tokens stop → length tokens ≤ length rest
few_behind front behind rest tokens stop (at_end _ _) = omega arith
few_behind front behind rest tokens stop (at_fault _ _ _ some none) = omega arith
few_behind front behind rest tokens stop (next_piece _ _ _ after next p others _ _ begins may e f parted) =
    let shorter = piece_shorter rest after p begins in
    let others_few = few_behind next (is_string p) after others stop parted in
    omega (arith, shorter, others_few, ap length f, placed_length (line_after front) p others)

pub tokens_few : (bytes : List ℕ) (tokens : List Placed) → AreTokens bytes tokens → length tokens ≤ longest_file
unfolding AreTokens
tokens_few bytes tokens h = omega (arith, h.0, few_behind [] false bytes tokens None h.1)
