-- Operators that are read from the front are what the grammar makes of them, where their operands are.

use Rattle.std.proofs.Common.{◌≡◌, ℕ, zero, suc, ◌≤◌, Bool, true, false, if◌then◌else◌, ◌&&◌, nat_le, List, [], ◌∷◌, ◌++◌, Option, Some, None, refl, sym, ◌∙◌, ap, subst, append_assoc, append-nil, arith}
use Rattle.std.proofs.lemmas.Bool.{false≢true}
use Rattle.std.proofs.lemmas.Bool.Decides.{nat_tests}
use Rattle.edb_scan.specs.declared.lexeme.Mark.{Mark}
use Rattle.edb_scan.specs.declared.lexeme.Token.TheVariants as token
use Rattle.edb_lang.specs.declared.operators.BinaryOp.TheVariants as op
use Rattle.edb_syntax.specs.Depths.{depth}
use Rattle.edb_syntax.specs.Syntax.{Exp}
use Rattle.edb_grammar.specs.Toks.{Place, Tok, tok, word, line_at}
use Rattle.edb_grammar.specs.Operators.{Infix, strict, andalso, orelse, sends, infix_of, between, level, left, right}
use Rattle.edb_grammar.specs.Expressions.{Reads, r_infix}
use Rattle.edb_grammar.specs.Reading.{Read, onward, provided}
use Rattle.edb_grammar.specs.ExpressionReading.{Reader, tail, infix_at, takes, climb_at, climb}
use Rattle.edb_grammar.proofs.Parts.{Got, Sound, none_no, answered}

-- what the ways to go on tell
pub onward_some : {A B : Type 0} (o : Option (A × List Tok)) (f : A → Read B) (q : B × List Tok) → onward o f ≡ Some q
    → (p : A × List Tok) × (o ≡ Some p) × (f p.0 p.1 ≡ Some q)
onward_some None f q h = absurd (none_no q h)
onward_some (Some p) f q h = (p, refl, h)

pub provided_some : {A : Type 0} (b : Bool) (read : Read A) (ts : List Tok) (q : A × List Tok) → provided b read ts ≡ Some q
    → (b ≡ true) × (read ts ≡ Some q)
provided_some true read ts q h = (refl, h)
provided_some false read ts q h = absurd (none_no q h)

pub le_of : (a b : ℕ) → nat_le a b ≡ true → a ≤ b
le_of a b h = grind (arith, nat_tests, h)

pub both_true : (a b : Bool) → a && b ≡ true → (a ≡ true) × (b ≡ true)
both_true true b h = (refl, h)
both_true false b h = absurd (false≢true h)

-- what an operator takes on its right is an operand at least
pub right_two : (o : Infix) → 2 ≤ right o
right_two (strict op.Divide) = omega arith
right_two (strict op.Multiply) = omega arith
right_two (strict op.Div) = omega arith
right_two (strict op.Rem) = omega arith
right_two (strict op.BitAnd) = omega arith
right_two (strict op.And) = omega arith
right_two (strict op.Add) = omega arith
right_two (strict op.Subtract) = omega arith
right_two (strict op.BitOr) = omega arith
right_two (strict op.BitXor) = omega arith
right_two (strict op.ShiftLeft) = omega arith
right_two (strict op.ShiftRight) = omega arith
right_two (strict op.Or) = omega arith
right_two (strict op.Xor) = omega arith
right_two (strict op.Append) = omega arith
right_two (strict op.Remove) = omega arith
right_two (strict op.Equal) = omega arith
right_two (strict op.Unequal) = omega arith
right_two (strict op.AtMost) = omega arith
right_two (strict op.LessThan) = omega arith
right_two (strict op.AtLeast) = omega arith
right_two (strict op.GreaterThan) = omega arith
right_two (strict op.ExactlyEqual) = omega arith
right_two (strict op.ExactlyUnequal) = omega arith
right_two andalso = omega arith
right_two orelse = omega arith
right_two sends = omega arith

-- an expression that is no looser than a level
abbrev pub ReadsTo : ℕ → ℕ → List Tok → Exp → Type 0
ReadsTo m l ts e = (k : ℕ) × (k ≤ l) × Reads m k ts e

abbrev pub SoundReader : Reader → Type 0
SoundReader sub = (m l : ℕ) → 2 ≤ l → Sound (ReadsTo m l) (sub m l)

-- the tokens have a first one, on this line
abbrev pub Begins : List Tok → ℕ → Type 0
Begins ts first = (rest : List Tok) → line_at (ts ++ rest) ≡ first

begins_line : (ts : List Tok) (first : ℕ) → Begins ts first → line_at ts ≡ first
begins_line ts first b = ap line_at (sym (append-nil ts)) ∙ b []

begins_longer : (ts us : List Tok) (first : ℕ) → Begins ts first → Begins (ts ++ us) first
begins_longer ts us first b rest = ap line_at (append_assoc ts us rest) ∙ b (us ++ rest)

infix_some : (ts : List Tok) (o : Infix) → infix_at ts ≡ Some o
    → (s : Place) × (x : Mark) × (infix_of x ≡ Some o) × (ts ≡ word s x ∷ tail ts)
infix_some (tok s (token.Mark x) ∷ ts) o h = (s, x, h, refl)
infix_some _ o h = absurd (none_no o h)

abbrev Further : ℕ → ℕ → ℕ → (ℕ → Exp → Read Exp) → Type 0
Further m l first further =
    (j k : ℕ) (e : Exp) (used rest : List Tok) → j ≤ k → k ≤ l → Reads m j used e → Begins used first
    → (q : Exp × List Tok) → further k e rest ≡ Some q → Got (ReadsTo m l) (used ++ rest) q

climb_at_sound : (m n : ℕ) (sub : Reader) → SoundReader sub → (l first : ℕ) (further : ℕ → Exp → Read Exp) → Further m l first further
    → (j k : ℕ) (e : Exp) (used rest : List Tok) → j ≤ k → k ≤ l → Reads m j used e → Begins used first
    → (o : Option Infix) → infix_at rest ≡ o
    → (q : Exp × List Tok) → climb_at m n sub l first further k e rest o ≡ Some q → Got (ReadsTo m l) (used ++ rest) q
climb_at_sound m n sub sound l first further goes j k e used rest jk kl r b None f q h =
    answered (ReadsTo m l) (used ++ rest) used rest e q h (j, omega (arith, jk, kl), r) refl
climb_at_sound m n sub sound l first further goes j k e used rest jk kl r b (Some o) f q h = by (takes l k o) refl h
  where
    by : (t : Bool) → takes l k o ≡ t
        → (if t then provided (nat_le (depth e) n) (λ us. onward (sub m (right o) us) (λ a vs. further (level o) (between first o e a) vs)) (tail rest)
        else Some (e, rest)) ≡ Some q
        → Got (ReadsTo m l) (used ++ rest) q
    by false c g = answered (ReadsTo m l) (used ++ rest) used rest e q g (j, omega (arith, jk, kl), r) refl
    by true c g =
        let t = both_true (nat_le (level o) l) (nat_le k (left o)) c in
        let i = infix_some rest o f in
        let p = provided_some (nat_le (depth e) n) (λ us. onward (sub m (right o) us) (λ a vs. further (level o) (between first o e a) vs)) (tail rest) q g in
        let w = onward_some (sub m (right o) (tail rest)) (λ a vs. further (level o) (between first o e a) vs) q p.1 in
        let a = sound m (right o) (right_two o) (tail rest) w.0 w.1 in
        let x : Tok = word i.0 i.1 in
        let whole : List Tok = used ++ x ∷ a.used in
        let tree = subst (λ y. Reads m (level o) whole (between y o e w.0.0)) (begins_line used first b)
        (r_infix i.1 o i.0 i.2 (omega (arith, jk, le_of k (left o) t.1)) a.reads.1 r a.reads.2) in
        let further_got = goes (level o) (level o) (between first o e w.0.0) whole w.0.1 (omega arith) (le_of (level o) l t.0) tree
        (begins_longer used (x ∷ a.used) first b) q w.2 in
        subst (λ v. Got (ReadsTo m l) v q)
        (append_assoc used (x ∷ a.used) w.0.1
        ∙ ap (λ v. used ++ v) (ap (λ v. x ∷ v) (sym a.parted) ∙ sym i.3))
        further_got

pub climb_sound : (m n : ℕ) (sub : Reader) → SoundReader sub → (l first turns : ℕ)
    → (j k : ℕ) (e : Exp) (used rest : List Tok) → j ≤ k → k ≤ l → Reads m j used e → Begins used first
    → (q : Exp × List Tok) → climb m n sub l first turns k e rest ≡ Some q → Got (ReadsTo m l) (used ++ rest) q
climb_sound m n sub sound l first zero j k e used rest jk kl r b q h = absurd (none_no q h)
climb_sound m n sub sound l first (suc turns) j k e used rest jk kl r b q h =
    climb_at_sound m n sub sound l first (climb m n sub l first turns) (climb_sound m n sub sound l first turns)
    j k e used rest jk kl r b (infix_at rest) refl q h
