-- Operators that the grammar reads are read from the front as it says, where their operands are.

use Rattle.std.proofs.Common.{◌≡◌, ◌⊎◌, inl, inr, ℕ, zero, suc, ◌≤◌, ◌<◌, max, true, false, if◌then◌else◌, nat_le, List, ◌∷◌, ◌++◌, length, length-append, Option, Some, None, refl, sym, ◌∙◌, ap, append_assoc, arith}
use Rattle.std.proofs.lemmas.Bool.Decides.{nat_tests}
use Rattle.edb_scan.specs.declared.lexeme.Mark.{Mark}
use Rattle.edb_scan.specs.declared.lexeme.Mark.TheVariants as mark
use Rattle.edb_lang.specs.declared.operators.BinaryOp.TheVariants as op
use Rattle.edb_syntax.specs.Depths.{depth}
use Rattle.edb_syntax.specs.Syntax.{Exp}
use Rattle.edb_grammar.specs.Toks.{Place, Tok, word, line_at}
use Rattle.edb_grammar.specs.Operators.{Infix, strict, andalso, orelse, sends, infix_of, between, level, left, right}
use Rattle.edb_grammar.specs.Expressions.{Reads}
use Rattle.edb_grammar.specs.Reading.{Read, behind, onward, provided}
use Rattle.edb_grammar.specs.ExpressionReading.{Reader, infix_at, takes, climb_at, climb, operand_level, read_operand, read_operators}
use Rattle.edb_grammar.proofs.Follow.{CalmCall, Calm, WholeReader}
use Rattle.edb_grammar.proofs.ClimbSound.{right_two}
use Rattle.edb_grammar.proofs.PatternComplete.{le_is}

-- the level of an operator, and those of its loosest operands
abbrev Row : ℕ → ℕ → ℕ → Type 0
Row k l r =
    ((k ≡ 3) × (l ≡ 3) × (r ≡ 2)) ⊎ (((k ≡ 4) × (l ≡ 4) × (r ≡ 3)) ⊎ (((k ≡ 5) × (l ≡ 4) × (r ≡ 5))
    ⊎ (((k ≡ 6) × (l ≡ 5) × (r ≡ 5)) ⊎ (((k ≡ 7) × (l ≡ 6) × (r ≡ 7)) ⊎ (((k ≡ 8) × (l ≡ 7) × (r ≡ 8)) ⊎ ((k ≡ 9) × (l ≡ 8) × (r ≡ 10)))))))

row_3 : Row 3 3 2
row_3 = inl (refl, refl, refl)

row_4 : Row 4 4 3
row_4 = inr (inl (refl, refl, refl))

row_5 : Row 5 4 5
row_5 = inr (inr (inl (refl, refl, refl)))

row_6 : Row 6 5 5
row_6 = inr (inr (inr (inl (refl, refl, refl))))

row_7 : Row 7 6 7
row_7 = inr (inr (inr (inr (inl (refl, refl, refl)))))

row_8 : Row 8 7 8
row_8 = inr (inr (inr (inr (inr (inl (refl, refl, refl))))))

row_9 : Row 9 8 10
row_9 = inr (inr (inr (inr (inr (inr (refl, refl, refl))))))

row : (o : Infix) → Row (level o) (left o) (right o)
row (strict op.Divide) = row_3
row (strict op.Multiply) = row_3
row (strict op.Div) = row_3
row (strict op.Rem) = row_3
row (strict op.BitAnd) = row_3
row (strict op.And) = row_3
row (strict op.Add) = row_4
row (strict op.Subtract) = row_4
row (strict op.BitOr) = row_4
row (strict op.BitXor) = row_4
row (strict op.ShiftLeft) = row_4
row (strict op.ShiftRight) = row_4
row (strict op.Or) = row_4
row (strict op.Xor) = row_4
row (strict op.Append) = row_5
row (strict op.Remove) = row_5
row (strict op.Equal) = row_6
row (strict op.Unequal) = row_6
row (strict op.AtMost) = row_6
row (strict op.LessThan) = row_6
row (strict op.AtLeast) = row_6
row (strict op.GreaterThan) = row_6
row (strict op.ExactlyEqual) = row_6
row (strict op.ExactlyUnequal) = row_6
row andalso = row_7
row orelse = row_8
row sends = row_9

-- what holds of each row
pub record Bounds (k l r : ℕ) : Type 0 where
  pub least : 3 ≤ k
  pub most : k ≤ 9
  pub left_least : 2 ≤ l
  pub left_most : l ≤ 8
  pub left_tight : l ≤ k
  pub right_most : r ≤ 10

row_bounds : (k l r : ℕ) → Row k l r → Bounds k l r
row_bounds k l r x =
    record {
      least = grind (arith, x);
      most = grind (arith, x);
      left_least = grind (arith, x);
      left_most = grind (arith, x);
      left_tight = grind (arith, x);
      right_most = grind (arith, x);
    }

pub bounds : (o : Infix) → Bounds (level o) (left o) (right o)
bounds o = row_bounds (level o) (left o) (right o) (row o)

-- an operator that takes one of level k on its left is no right operand's of that one
apart_rows : (k l r a b c : ℕ) → Row k l r → Row a b c → k ≤ b → r < a
apart_rows k l r a b c (inl x) y h = grind (arith, x, y, h)
apart_rows k l r a b c (inr (inl x)) y h = grind (arith, x, y, h)
apart_rows k l r a b c (inr (inr (inl x))) y h = grind (arith, x, y, h)
apart_rows k l r a b c (inr (inr (inr (inl x)))) y h = grind (arith, x, y, h)
apart_rows k l r a b c (inr (inr (inr (inr (inl x))))) y h = grind (arith, x, y, h)
apart_rows k l r a b c (inr (inr (inr (inr (inr (inl x)))))) y h = grind (arith, x, y, h)
apart_rows k l r a b c (inr (inr (inr (inr (inr (inr x)))))) y h = grind (arith, x, y, h)

looser_rows : (k l r a : ℕ) → Row k l r → k < a → a ≤ 9 → r < a
looser_rows k l r a x h m = grind (arith, x, h, m)

-- what stands behind the right operand of an operator isn't that operand's, where it takes the whole or is looser than l
pub stops_right : (o p : Infix) (l : ℕ) → level o ≤ l → (level o ≤ left p) ⊎ (l < level p) → right o < level p
stops_right o p l h (inl f) = apart_rows (level o) (left o) (right o) (level p) (left p) (right p) (row o) (row p) f
stops_right o p l h (inr f) = looser_rows (level o) (left o) (right o) (level p) (row o) (omega (arith, h, f)) (bounds p).most

more_is : (a b : ℕ) → b < a → nat_le a b ≡ false
more_is a b h = grind (arith, nat_tests, h)

pub infix_parts : (l n : ℕ) (o : Infix) (a b : Exp) → depth (between l o a b) ≤ suc n → (depth a ≤ n) × (depth b ≤ n)
infix_parts l n (strict o) a b h = (omega (arith, h), omega (arith, h))
infix_parts l n andalso a b h = (omega (arith, h), omega (arith, h))
infix_parts l n orelse a b h = (omega (arith, h), omega (arith, h))
infix_parts l n sends a b h = (omega (arith, h), omega (arith, h))

-- an operator is taken, with its right operand
climb_turn : (m n : ℕ) (sub : Reader) (l first turns k : ℕ) (a b : Exp) (x : Mark) (o : Infix) (s : Place) (ts rest : List Tok)
    → infix_of x ≡ Some o → level o ≤ l → k ≤ left o → depth a ≤ n → sub m (right o) ts ≡ Some (b, rest)
    → climb m n sub l first (suc turns) k a (word s x ∷ ts) ≡ climb m n sub l first turns (level o) (between first o a b) rest
climb_turn m n sub l first turns k a b x o s ts rest h i j d read =
    ap (climb_at m n sub l first further k a (word s x ∷ ts)) h
    ∙ (ap (λ c. if c then provided (nat_le (depth a) n) operand ts else Some (a, word s x ∷ ts)) taken
    ∙ (ap (λ c. provided c operand ts) (le_is (depth a) n d) ∙ ap (λ c. onward c (λ e us. further (level o) (between first o a e) us)) read))
  where
    further : ℕ → Exp → Read Exp
    further = climb m n sub l first turns

    operand : Read Exp
    operand us = onward (sub m (right o) us) (λ e vs. further (level o) (between first o a e) vs)

    taken : takes l k o ≡ true
    taken = rw (le_is (level o) l i, le_is k (left o) j) refl

-- no operator is
climb_stop : (m n : ℕ) (sub : Reader) (l first turns k : ℕ) (e : Exp) (rest : List Tok)
    → ((o : Infix) → infix_at rest ≡ Some o → l < level o) → climb m n sub l first (suc turns) k e rest ≡ Some (e, rest)
climb_stop m n sub l first turns k e rest looser = by (infix_at rest) refl
  where
    by : (o : Option Infix) → infix_at rest ≡ o → climb_at m n sub l first (climb m n sub l first turns) k e rest o ≡ Some (e, rest)
    by None f = refl
    by (Some o) f = rw (more_is (level o) l (looser o f)) refl

-- what is behind an operand of level k: each operator takes it, or is looser than l
abbrev pub Behind : ℕ → ℕ → List Tok → Type 0
Behind l k rest = (o : Infix) → infix_at rest ≡ Some o → (k ≤ left o) ⊎ (l < level o)

-- reading has come to this operand of level k, and goes on behind it
pub record Climbs (m n : ℕ) (sub : Reader) (inside : Read Exp) (l k : ℕ) (ts : List Tok) (e : Exp) (rest : List Tok) : Type 0 where
  pub turns : ℕ
  pub reached : ℕ
  pub enough : length rest ≤ turns
  pub tight : reached ≤ max 2 k
  pub reads : read_operators m n sub inside l (ts ++ rest) ≡ climb m n sub l (line_at ts) (suc turns) reached e rest

pub operand_climbs : (m n : ℕ) (sub : Reader) (inside : Read Exp) (l k : ℕ) (ts : List Tok) (e : Exp) (rest : List Tok)
    → line_at (ts ++ rest) ≡ line_at ts → read_operand m n sub inside (ts ++ rest) ≡ Some (e, rest) → Climbs m n sub inside l k ts e rest
operand_climbs m n sub inside l k ts e rest first read =
    record {
      turns = length rest;
      reached = operand_level;
      enough = omega arith;
      tight = omega arith;
      reads =
          ap (λ o. onward o (λ a us. climb m n sub l (line_at (ts ++ rest)) (suc (length us)) operand_level a us)) read
          ∙ ap (λ f. climb m n sub l f (suc (length rest)) operand_level e rest) first;
    }

pub infix_climbs : (m n : ℕ) (sub : Reader) (inside : Read Exp) → WholeReader n sub → (l j k : ℕ) (ts us : List Tok) (a b : Exp)
    → (x : Mark) (o : Infix) (s : Place) → infix_of x ≡ Some o → j ≤ left o → k ≤ right o → Reads m k us b
    → level o ≤ l → depth a ≤ n → depth b ≤ n → line_at (ts ++ word s x ∷ us) ≡ line_at ts
    → (rest : List Tok) → CalmCall rest → behind mark.Match rest ≡ None → Behind l (level o) rest
    → Climbs m n sub inside l j ts a (word s x ∷ (us ++ rest))
    → Climbs m n sub inside l (level o) (ts ++ word s x ∷ us) (between (line_at ts) o a b) rest
infix_climbs m n sub inside whole l j k ts us a b x o s h jl kr r i da db first rest call no_match after c = by c.turns c.enough c.reads
  where
    operand : sub m (right o) (us ++ rest) ≡ Some (b, rest)
    operand = whole m k (right o) us b r db kr (right_two o) (bounds o).right_most rest
        (record { call = call; no_match = no_match; looser = λ p e. stops_right o p l i (after p e) })

    by : (turns : ℕ) → length (word s x ∷ (us ++ rest)) ≤ turns
        → read_operators m n sub inside l (ts ++ word s x ∷ (us ++ rest))
        ≡ climb m n sub l (line_at ts) (suc turns) c.reached a (word s x ∷ (us ++ rest))
        → Climbs m n sub inside l (level o) (ts ++ word s x ∷ us) (between (line_at ts) o a b) rest
    by zero e f = absurd (omega (arith, e))
    by (suc turns) e f =
        record {
          turns = turns;
          reached = level o;
          enough = let g = length-append us rest in omega (arith, e, g);
          tight = omega arith;
          reads =
              ap (read_operators m n sub inside l) (append_assoc ts (word s x ∷ us) rest)
              ∙ (f
              ∙ (climb_turn m n sub l (line_at ts) (suc turns) c.reached a b x o s (us ++ rest) rest h i
              (let t = c.tight in let two = (bounds o).left_least in omega (arith, t, two, jl)) da operand
              ∙ ap (λ g. climb m n sub l g (suc turns) (level o) (between (line_at ts) o a b) rest) (sym first)));
        }

pub climbs_read : (m n : ℕ) (sub : Reader) (inside : Read Exp) (l k : ℕ) (ts : List Tok) (e : Exp) (rest : List Tok)
    → Climbs m n sub inside l k ts e rest → Calm l rest → read_operators m n sub inside l (ts ++ rest) ≡ Some (e, rest)
climbs_read m n sub inside l k ts e rest c calm = c.reads ∙ climb_stop m n sub l (line_at ts) c.turns c.reached e rest calm.looser
