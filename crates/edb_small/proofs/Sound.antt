-- What is read agrees with its spelling, and stands where it may.

use Rattle.std.proofs.Common.{◌≡◌, ℕ, true, List, [], ◌∷◌, ◌++◌, None, Some, refl, sym, ap, ◌∙◌, subst, append_assoc}
use Rattle.std.proofs.lemmas.Option.{cond_some}
use denote.Enum.Bare.{same_true}
use Rattle.edb_scan.specs.contracts.lexeme.Mark.{the_type}
use Rattle.edb_scan.specs.declared.lexeme.Mark.{Mark}
use Rattle.edb_scan.specs.declared.lexeme.Token.{Token}
use Rattle.edb_scan.specs.declared.lexeme.Token.TheVariants as token
use Rattle.edb_scan.specs.declared.lexeme.Placed.{Placed}
use Rattle.edb_small.specs.Grammar.{Written, sign, word, dot, Agrees, IsOnLine}
use Rattle.edb_small.specs.Descent.{Found, same_mark, is_mark, is_dot, behind, behind_dot, atom_in, atom_at, variable_in, variable_at, arity_in, arity_at}
use Rattle.edb_small.specs.Conditions.{is_capital}

-- the tokens that were taken agree with what is written
pub record Took (ts rest : List Placed) (ws : List Written) : Type 0 where
  pub agrees : (tail : List Written) → Agrees rest tail → Agrees ts (ws ++ tail)

pub took_one : (ts rest : List Placed) (p : Placed) (w : Written) → ts ≡ p ∷ rest → p.token ≡ w.1 → IsOnLine w.0 p.line → Took ts rest (w ∷ [])
took_one ts rest p w e t l = record { agrees = λ tail h. subst (λ us. Agrees us (w ∷ tail)) (sym e) (t, l, h) }

pub took_then : (ts us rest : List Placed) (vs ws : List Written) → Took ts us vs → Took us rest ws → Took ts rest (vs ++ ws)
took_then ts us rest vs ws a b =
    record { agrees = λ tail h. subst (λ xs. Agrees ts xs) (sym (append_assoc vs ws tail)) (a.agrees (ws ++ tail) (b.agrees tail h)) }

pub took_as : (ts rest : List Placed) (vs ws : List Written) → vs ≡ ws → Took ts rest vs → Took ts rest ws
took_as ts rest vs ws e t = subst (λ xs. Took ts rest xs) e t

-- Single tokens.

same_is : (x y : Mark) → same_mark x y ≡ true → x ≡ y
unfolding same_mark
same_is x y e = same_true the_type tt x y e

mark_is : (x : Mark) (t : Token) → is_mark x t ≡ true → t ≡ token.Mark x
mark_is x (token.Mark y) e = ap token.Mark (sym (same_is x y e))
mark_is x (token.Int n) e = absurd (cc)
mark_is x token.Float e = absurd (cc)
mark_is x (token.Char n) e = absurd (cc)
mark_is x (token.Atom a) e = absurd (cc)
mark_is x (token.Var a) e = absurd (cc)
mark_is x (token.Str s) e = absurd (cc)
mark_is x token.Dot e = absurd (cc)

dot_is : (t : Token) → is_dot t ≡ true → t ≡ token.Dot
dot_is (token.Mark y) e = absurd (cc)
dot_is (token.Int n) e = absurd (cc)
dot_is token.Float e = absurd (cc)
dot_is (token.Char n) e = absurd (cc)
dot_is (token.Atom a) e = absurd (cc)
dot_is (token.Var a) e = absurd (cc)
dot_is (token.Str s) e = absurd (cc)
dot_is token.Dot e = refl

pub behind_took : (x : Mark) (ts rest : List Placed) → behind x ts ≡ Some rest → Took ts rest (sign x ∷ [])
unfolding behind
behind_took x [] rest e = absurd (cc)
behind_took x (p ∷ ps) rest e =
    let h = cond_some (is_mark x p.token) ps rest e in
    took_one (p ∷ ps) rest p (sign x) (ap (λ us. p ∷ us) h.1) (mark_is x p.token h.0) tt

pub dot_took : (ts rest : List Placed) → behind_dot ts ≡ Some rest → Took ts rest (dot ∷ [])
unfolding behind_dot
dot_took [] rest e = absurd (cc)
dot_took (p ∷ ps) rest e =
    let h = cond_some (is_dot p.token) ps rest e in
    took_one (p ∷ ps) rest p dot (ap (λ us. p ∷ us) h.1) (dot_is p.token h.0) tt

-- the token that was found, with its line
pub record IsFirst (ts : List Placed) (t : Token) (line : ℕ) (rest : List Placed) : Type 0 where
  pub first : Placed
  pub parts : ts ≡ first ∷ rest
  pub token_is : first.token ≡ t
  pub line_is : first.line ≡ line

pub took_lined : (ts rest : List Placed) (t : Token) (line : ℕ) → IsFirst ts t line rest → Took ts rest ((Some line, t) ∷ [])
took_lined ts rest t line h = took_one ts rest h.first (Some line, t) h.parts h.token_is (sym h.line_is)

pub took_unlined : (ts rest : List Placed) (t : Token) (line : ℕ) → IsFirst ts t line rest → Took ts rest ((None, t) ∷ [])
took_unlined ts rest t line h = took_one ts rest h.first (None, t) h.parts h.token_is tt

is_first : (p : Placed) (ps rest : List Placed) (t : Token) (line : ℕ) → ps ≡ rest → p.token ≡ t → p.line ≡ line → IsFirst (p ∷ ps) t line rest
is_first p ps rest t line e k l = record { first = p; parts = ap (λ us. p ∷ us) e; token_is = k; line_is = l }

atom_in_is : (l : ℕ) (t : Token) (ps : List Placed) (q : Found × List Placed) → atom_in l t ps ≡ Some q → (t ≡ token.Atom q.0.1) × (l ≡ q.0.0) × (ps ≡ q.1)
atom_in_is l (token.Atom a) ps q e = let is : ((l, a), ps) ≡ q = cc in (ap (λ x. token.Atom x.0.1) is, ap (λ x. x.0.0) is, ap (λ x. x.1) is)
atom_in_is l (token.Mark y) ps q e = absurd (cc)
atom_in_is l (token.Int n) ps q e = absurd (cc)
atom_in_is l token.Float ps q e = absurd (cc)
atom_in_is l (token.Char n) ps q e = absurd (cc)
atom_in_is l (token.Var a) ps q e = absurd (cc)
atom_in_is l (token.Str s) ps q e = absurd (cc)
atom_in_is l token.Dot ps q e = absurd (cc)

pub atom_is : (ts : List Placed) (q : Found × List Placed) → atom_at ts ≡ Some q → IsFirst ts (token.Atom q.0.1) q.0.0 q.1
unfolding atom_at
atom_is [] q e = absurd (cc)
atom_is (p ∷ ps) q e = let h = atom_in_is p.line p.token ps q e in is_first p ps q.1 (token.Atom q.0.1) q.0.0 h.2 h.0 h.1

variable_in_is : (l : ℕ) (t : Token) (ps : List Placed) (q : Found × List Placed) → variable_in l t ps ≡ Some q
    → (t ≡ token.Var q.0.1) × (l ≡ q.0.0) × (ps ≡ q.1) × (is_capital q.0.1 ≡ true)
variable_in_is l (token.Var x) ps q e =
    let h = cond_some (is_capital x) ((l, x), ps) q e in
    (ap (λ z. token.Var z.0.1) h.1, ap (λ z. z.0.0) h.1, ap (λ z. z.1) h.1, ap (λ z. is_capital z.0.1) (sym h.1) ∙ h.0)
variable_in_is l (token.Atom a) ps q e = absurd (cc)
variable_in_is l (token.Mark y) ps q e = absurd (cc)
variable_in_is l (token.Int n) ps q e = absurd (cc)
variable_in_is l token.Float ps q e = absurd (cc)
variable_in_is l (token.Char n) ps q e = absurd (cc)
variable_in_is l (token.Str s) ps q e = absurd (cc)
variable_in_is l token.Dot ps q e = absurd (cc)

pub variable_is : (ts : List Placed) (q : Found × List Placed) → variable_at ts ≡ Some q → IsFirst ts (token.Var q.0.1) q.0.0 q.1 × (is_capital q.0.1 ≡ true)
unfolding variable_at
variable_is [] q e = absurd (cc)
variable_is (p ∷ ps) q e = let h = variable_in_is p.line p.token ps q e in (is_first p ps q.1 (token.Var q.0.1) q.0.0 h.2 h.0 h.1, h.3)

arity_in_is : (t : Token) (ps : List Placed) (q : ℕ × List Placed) → arity_in t ps ≡ Some q → (t ≡ token.Int q.0) × (ps ≡ q.1)
arity_in_is (token.Int n) ps q e = let h = cond_some _ (n, ps) q e in (ap (λ z. token.Int z.0) h.1, ap (λ z. z.1) h.1)
arity_in_is (token.Atom a) ps q e = absurd (cc)
arity_in_is (token.Mark y) ps q e = absurd (cc)
arity_in_is (token.Var x) ps q e = absurd (cc)
arity_in_is token.Float ps q e = absurd (cc)
arity_in_is (token.Char n) ps q e = absurd (cc)
arity_in_is (token.Str s) ps q e = absurd (cc)
arity_in_is token.Dot ps q e = absurd (cc)

pub arity_took : (ts : List Placed) (q : ℕ × List Placed) → arity_at ts ≡ Some q → Took ts q.1 ((None, token.Int q.0) ∷ [])
unfolding arity_at
arity_took [] q e = absurd (cc)
arity_took (p ∷ ps) q e = let h = arity_in_is p.token ps q e in took_one (p ∷ ps) q.1 p (None, token.Int q.0) (ap (λ us. p ∷ us) h.1) h.0 tt

pub atom_took : (ts : List Placed) (q : Found × List Placed) → atom_at ts ≡ Some q → Took ts q.1 (word q.0.1 ∷ [])
atom_took ts q e = took_unlined ts q.1 (token.Atom q.0.1) q.0.0 (atom_is ts q e)
