-- The first line of a text, and the lines behind it.
use Rattle.std.proofs.Common.{◌≡◌, ◌⊎◌, ℕ, suc, ◌+◌, ◌≤◌, Bool, true, false, cond, not, List, [], ◌∷◌, ◌++◌, length, take, drop, refl, sym, ap, ◌∙◌, inl, inr, arith, eqb-true}
use Rattle.std.specs.Prelude.{◌==◌}
use Rattle.std.specs.List.{position_or_len}
use Rattle.edb_cmds.specs.Lines.{lines, onto_first}
use Rattle.edb_cmds.specs.Script.{first_line, other_lines}

-- a text that begins with a newline
newline_first : (c : ℕ) (bytes : List ℕ) → (c == 10) ≡ true → (first_line (c ∷ bytes) ≡ []) × (other_lines (c ∷ bytes) ≡ bytes)
newline_first c bytes e =
    let at : position_or_len (λ c. c == 10) (c ∷ bytes) ≡ 0 = ap (λ b. cond (not b) (1 + position_or_len (λ c. c == 10) bytes) 0) e in
    (ap (λ n. take n (c ∷ bytes)) at, ap (λ n. drop (n + 1) (c ∷ bytes)) at)

-- a text that begins with another byte
other_first : (c : ℕ) (bytes : List ℕ) → (c == 10) ≡ false → (first_line (c ∷ bytes) ≡ c ∷ first_line bytes) × (other_lines (c ∷ bytes) ≡ other_lines bytes)
other_first c bytes e =
    let p = position_or_len (λ c. c == 10) bytes in
    let there : position_or_len (λ c. c == 10) (c ∷ bytes) ≡ 1 + p = ap (λ b. cond (not b) (1 + p) 0) e in
    let at : position_or_len (λ c. c == 10) (c ∷ bytes) ≡ suc p = omega arith in
    let more : position_or_len (λ c. c == 10) (c ∷ bytes) + 1 ≡ suc (p + 1) = omega arith in
    (ap (λ n. take n (c ∷ bytes)) at, ap (λ n. drop n (c ∷ bytes)) more)

newline_step : (c : ℕ) (bytes : List ℕ) → (c == 10) ≡ true → lines (c ∷ bytes) ≡ first_line (c ∷ bytes) ∷ lines (other_lines (c ∷ bytes))
unfolding lines
newline_step c bytes e = let n = newline_first c bytes e in rw (n.0, n.1, e) refl

other_step : (c : ℕ) (bytes : List ℕ) → (c == 10) ≡ false → (bytes ≡ []) ⊎ (lines bytes ≡ first_line bytes ∷ lines (other_lines bytes))
    → lines (c ∷ bytes) ≡ first_line (c ∷ bytes) ∷ lines (other_lines (c ∷ bytes))
unfolding lines
other_step c [] e h = let n = other_first c [] e in rw (n.0, n.1, e) refl
other_step c (d ∷ bytes) e (inl h) = absurd (cc)
other_step c (d ∷ bytes) e (inr h) = let n = other_first c (d ∷ bytes) e in rw (n.0, n.1, e) (ap (onto_first c) h)

step : (b : Bool) (c : ℕ) (bytes : List ℕ) → (c == 10) ≡ b → (bytes ≡ []) ⊎ (lines bytes ≡ first_line bytes ∷ lines (other_lines bytes))
    → lines (c ∷ bytes) ≡ first_line (c ∷ bytes) ∷ lines (other_lines (c ∷ bytes))
step true c bytes e h = newline_step c bytes e
step false c bytes e h = other_step c bytes e h

pub lines_step : (bytes : List ℕ) → (bytes ≡ []) ⊎ (lines bytes ≡ first_line bytes ∷ lines (other_lines bytes))
lines_step [] = inl refl
lines_step (c ∷ bytes) = inr (step (c == 10) c bytes refl (lines_step bytes))

-- a newline ends the first line, or it is all of the text
pub first_cut : (bytes : List ℕ) → (bytes ≡ first_line bytes ++ (10 ∷ other_lines bytes)) ⊎ ((other_lines bytes ≡ []) × (bytes ≡ first_line bytes))
first_cut [] = inr (refl, refl)
first_cut (c ∷ bytes) = by (c == 10) refl (first_cut bytes)
  where
    by : (b : Bool) → (c == 10) ≡ b → (bytes ≡ first_line bytes ++ (10 ∷ other_lines bytes)) ⊎ ((other_lines bytes ≡ []) × (bytes ≡ first_line bytes))
        → (c ∷ bytes ≡ first_line (c ∷ bytes) ++ (10 ∷ other_lines (c ∷ bytes))) ⊎ ((other_lines (c ∷ bytes) ≡ []) × (c ∷ bytes ≡ first_line (c ∷ bytes)))
    by true e h =
        let n = newline_first c bytes e in
        let is : c ≡ 10 = eqb-true c 10 e in
        inl (rw (n.0, n.1, is) refl)
    by false e (inl h) = let n = other_first c bytes e in inl (rw (n.0, n.1) (ap (λ t. c ∷ t) h))
    by false e (inr h) = let n = other_first c bytes e in inr (n.1 ∙ h.0, ap (λ t. c ∷ t) h.1 ∙ sym n.0)

-- no line is longer than that
abbrev pub AllShort : ℕ → List (List ℕ) → Type 0
AllShort most [] = Unit {0}
AllShort most (line ∷ more) = (length line ≤ most) × AllShort most more

longer_limit : (m n : ℕ) (ls : List (List ℕ)) → m ≤ n → AllShort m ls → AllShort n ls
longer_limit m n [] h all = tt
longer_limit m n (line ∷ more) h all = (omega (arith, all.0), longer_limit m n more h all.1)

onto_short : (n c : ℕ) (ls : List (List ℕ)) → AllShort n ls → AllShort (suc n) (onto_first c ls)
onto_short n c [] all = (omega arith, tt)
onto_short n c (line ∷ more) all = (omega (arith, all.0), longer_limit n (suc n) more (omega arith) all.1)

-- no line is longer than the text
own_lengths : (bytes : List ℕ) → AllShort (length bytes) (lines bytes)
unfolding lines
own_lengths [] = tt
own_lengths (c ∷ bytes) = by (c == 10) (own_lengths bytes)
  where
    by : (b : Bool) → AllShort (length bytes) (lines bytes) → AllShort (suc (length bytes)) (cond b ([] ∷ lines bytes) (onto_first c (lines bytes)))
    by true all = (omega arith, longer_limit (length bytes) (suc (length bytes)) (lines bytes) (omega arith) all)
    by false all = onto_short (length bytes) c (lines bytes) all

pub lines_short : (n : ℕ) (bytes : List ℕ) → length bytes ≤ n → AllShort n (lines bytes)
lines_short n bytes h = longer_limit (length bytes) n (lines bytes) h (own_lengths bytes)

-- some texts and their lines
no_text : lines [] ≡ []
unfolding lines
no_text = refl

newline_alone : lines (10 ∷ []) ≡ [] ∷ []
unfolding lines
newline_alone = refl

newline_or_none : lines (97 ∷ 10 ∷ []) ≡ lines (97 ∷ [])
unfolding lines
newline_or_none = refl

empty_between : lines (97 ∷ 10 ∷ 10 ∷ 98 ∷ []) ≡ (97 ∷ []) ∷ [] ∷ (98 ∷ []) ∷ []
unfolding lines
empty_between = refl

empty_last : lines (97 ∷ 10 ∷ 10 ∷ []) ≡ (97 ∷ []) ∷ [] ∷ []
unfolding lines
empty_last = refl
