-- The loop over operators: what has been read so far, and what is still to be read, are the whole.

use Rattle.std.proofs.Common.{◌≡◌, ℕ, suc, ◌-◌, ◌<◌, List, length, Option, Some, None, true, false, if◌then◌else◌, refl, sym, ◌∙◌, ap, arith}
use Rattle.std.specs.Prelude.{nat_le}
use Rattle.edb_syntax.specs.Syntax.{Exp}
use Rattle.edb_syntax.specs.Depths.{depth}
use Rattle.edb_grammar.specs.Toks.{Tok, line_at}
use Rattle.edb_grammar.specs.Operators.{Infix, between, level, right}
use Rattle.edb_grammar.specs.Reading.{Read, onward, provided}
use Rattle.edb_grammar.specs.ExpressionReading.{read_expression, climb, climb_at, infix_at, read_operand, read_operators, takes, tail}
use Rattle.edb_parse.specs.Descent.{inside}
use Rattle.edb_parse.specs.Operating.{Stops}

-- In what follows the parts are at most n deep, m round brackets may be open, nothing looser than l is read, and the
-- first token is on this line.

-- the operators behind an operand e of level k, so many at most
abbrev climbing : (n m l line turns k : ℕ) → Exp → Read Exp
climbing n m l line turns k e ts = climb m n (read_expression n) l line turns k e ts

-- the operators behind an operand that was read by itself
abbrev whole : (n m l line : ℕ) → Exp → Read Exp
whole n m l line d ts = climbing n m l line (suc (length ts)) 2 d ts

-- the right operand of an operator, and then `further` with both
abbrev right_of : (n m line : ℕ) → Exp → Infix → (ℕ → Exp → Read Exp) → Read Exp
right_of n m line e o further ts = onward (read_expression n m (right o) ts) (λ b us. further (level o) (between line o e b) us)

-- the operand e of level k has been read, and with the operators in `rest` it is what the operand d with those in ts is
pub record Climbs (n m l line : ℕ) (d : Exp) (ts : List Tok) (k : ℕ) (e : Exp) (rest : List Tok) : Type 0 where
  pub turns : ℕ
  pub enough : length rest < turns
  pub so_far : whole n m l line d ts ≡ climbing n m l line turns k e rest

-- what the whole is, where a turn is left
opened : (n m l line : ℕ) (d : Exp) (ts : List Tok) (k : ℕ) (e : Exp) (rest : List Tok) (c : Climbs n m l line d ts k e rest)
    → whole n m l line d ts ≡ climb_at m n (read_expression n) l line (climbing n m l line (c.turns - 1)) k e rest (infix_at rest)
opened n m l line d ts k e rest c =
    let some : c.turns ≡ suc (c.turns - 1) = omega (arith, c.enough) in c.so_far ∙ ap (λ t. climbing n m l line t k e rest) some

-- what an operator that takes the operand gives
taking : (n m l line : ℕ) (further : ℕ → Exp → Read Exp) (k : ℕ) (e : Exp) (rest : List Tok) (o : Infix)
    → infix_at rest ≡ Some o → takes l k o ≡ true
    → climb_at m n (read_expression n) l line further k e rest (infix_at rest)
    ≡ provided (nat_le (depth e) n) (right_of n m line e o further) (tail rest)
taking n m l line further k e rest o here takes_it =
    ap (climb_at m n (read_expression n) l line further k e rest) here
    ∙ ap (λ b. if b then provided (nat_le (depth e) n) (right_of n m line e o further) (tail rest) else Some (e, rest)) takes_it

stopping : (n m l line : ℕ) (further : ℕ → Exp → Read Exp) (k : ℕ) (e : Exp) (rest : List Tok) (o : Option Infix) → Stops l k o
    → climb_at m n (read_expression n) l line further k e rest o ≡ Some (e, rest)
stopping n m l line further k e rest None h = refl
stopping n m l line further k e rest (Some o) h =
    ap (λ b. if b then provided (nat_le (depth e) n) (right_of n m line e o further) (tail rest) else Some (e, rest)) h

pub climb_ends : (n m l line : ℕ) (d : Exp) (ts : List Tok) (k : ℕ) (e : Exp) (rest : List Tok) → Climbs n m l line d ts k e rest
    → Stops l k (infix_at rest) → whole n m l line d ts ≡ Some (e, rest)
climb_ends n m l line d ts k e rest c h =
    opened n m l line d ts k e rest c ∙ stopping n m l line (climbing n m l line (c.turns - 1)) k e rest (infix_at rest) h

pub climb_too_deep : (n m l line : ℕ) (d : Exp) (ts : List Tok) (k : ℕ) (e : Exp) (rest : List Tok) → Climbs n m l line d ts k e rest
    → (o : Infix) → infix_at rest ≡ Some o → takes l k o ≡ true → nat_le (depth e) n ≡ false → whole n m l line d ts ≡ None
climb_too_deep n m l line d ts k e rest c o here takes_it deep =
    let further : ℕ → Exp → Read Exp = climbing n m l line (c.turns - 1) in
    opened n m l line d ts k e rest c
    ∙ (taking n m l line further k e rest o here takes_it ∙ ap (λ b. provided b (right_of n m line e o further) (tail rest)) deep)

-- what the whole is, where the operand isn't too deep
going_on : (n m l line : ℕ) (d : Exp) (ts : List Tok) (k : ℕ) (e : Exp) (rest : List Tok) (c : Climbs n m l line d ts k e rest)
    (o : Infix) → infix_at rest ≡ Some o → takes l k o ≡ true → nat_le (depth e) n ≡ true
    → whole n m l line d ts ≡ right_of n m line e o (climbing n m l line (c.turns - 1)) (tail rest)
going_on n m l line d ts k e rest c o here takes_it fits =
    let further : ℕ → Exp → Read Exp = climbing n m l line (c.turns - 1) in
    opened n m l line d ts k e rest c
    ∙ (taking n m l line further k e rest o here takes_it ∙ ap (λ b. provided b (right_of n m line e o further) (tail rest)) fits)

pub climb_fails : (n m l line : ℕ) (d : Exp) (ts : List Tok) (k : ℕ) (e : Exp) (rest : List Tok) → Climbs n m l line d ts k e rest
    → (o : Infix) → infix_at rest ≡ Some o → takes l k o ≡ true → nat_le (depth e) n ≡ true
    → read_expression n m (right o) (tail rest) ≡ None → whole n m l line d ts ≡ None
climb_fails n m l line d ts k e rest c o here takes_it fits none_there =
    going_on n m l line d ts k e rest c o here takes_it fits
    ∙ ap (λ r. onward r (λ b vs. climbing n m l line (c.turns - 1) (level o) (between line o e b) vs)) none_there

pub climb_next : (n m l line : ℕ) (d : Exp) (ts : List Tok) (k : ℕ) (e : Exp) (rest : List Tok) → Climbs n m l line d ts k e rest
    → (o : Infix) → infix_at rest ≡ Some o → takes l k o ≡ true → nat_le (depth e) n ≡ true
    → (b : Exp) (next : List Tok) → read_expression n m (right o) (tail rest) ≡ Some (b, next) → length next < length rest
    → (j : ℕ) (f : Exp) → j ≡ level o → f ≡ between line o e b → Climbs n m l line d ts j f next
climb_next n m l line d ts k e rest c o here takes_it fits b next there shorter j f loose tree =
    record {
      turns = c.turns - 1;
      enough = omega (arith, c.enough, shorter);
      so_far = going_on n m l line d ts k e rest c o here takes_it fits
          ∙ (ap (λ r. onward r (λ b vs. climbing n m l line (c.turns - 1) (level o) (between line o e b) vs)) there
          ∙ (ap (λ i. climbing n m l line (c.turns - 1) i (between line o e b) next) (sym loose)
          ∙ ap (λ g. climbing n m l line (c.turns - 1) j g next) (sym tree)));
    }

-- operators behind an operand that was read
pub operators_behind : (n m l line : ℕ) (ts us : List Tok) (e : Exp) → line ≡ line_at ts
    → read_operand m n (read_expression n) (inside n m) ts ≡ Some (e, us)
    → read_operators m n (read_expression n) (inside n m) l ts ≡ climb m n (read_expression n) l line (suc (length us)) 2 e us
operators_behind n m l line ts us e at there =
    ap (λ r. onward r (λ d vs. climbing n m l (line_at ts) (suc (length vs)) 2 d vs)) there
    ∙ ap (λ k. climbing n m l k (suc (length us)) 2 e us) (sym at)
