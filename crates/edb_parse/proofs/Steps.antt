-- How the readers go down: one level of depth, or one round bracket, at a time.

use Rattle.std.proofs.Common.{◌≡◌, ℕ, zero, suc, ◌-◌, ◌<◌, List, None, refl, ap, ◌∙◌, arith}
use Rattle.edb_scan.specs.declared.lexeme.Mark.TheVariants as mark
use Rattle.edb_grammar.specs.Toks.{Tok}
use Rattle.edb_grammar.specs.ExpressionReading.{read_expression, read_arguments, read_until, within}
use Rattle.edb_parse.specs.Descent.{part, inside, node}

one_less : (n : ℕ) → 0 < n → n ≡ suc (n - 1)
one_less n some = omega (arith, some)

within_is : (n m l : ℕ) (ts : List Tok) → within n (read_expression n) m l ts ≡ node n m l ts
within_is n zero l ts = refl
within_is n (suc m) l ts = refl

pub read_expression_some : (n m l : ℕ) (ts : List Tok) → 0 < n → read_expression n m l ts ≡ node (n - 1) m l ts
read_expression_some n m l ts some = ap (λ k. read_expression k m l ts) (one_less n some) ∙ within_is (n - 1) m l ts

pub read_expression_none : (n m l : ℕ) (ts : List Tok) → n ≡ 0 → read_expression n m l ts ≡ None
read_expression_none n m l ts e = ap (λ k. read_expression k m l ts) e

pub inside_some : (n m : ℕ) (ts : List Tok) → 0 < m → inside n m ts ≡ node n (m - 1) 10 ts
inside_some n m ts some = ap (λ k. inside n k ts) (one_less m some) ∙ within_is n (m - 1) 10 ts

pub inside_none : (n m : ℕ) (ts : List Tok) → m ≡ 0 → inside n m ts ≡ None
inside_none n m ts e = ap (λ k. inside n k ts) e

pub read_arguments_some : (n m : ℕ) (ts : List Tok) → 0 < m → read_arguments m (read_expression n) ts ≡ read_until mark.ParenClose (part n (m - 1)) ts
read_arguments_some n m ts some = ap (λ k. read_arguments k (read_expression n) ts) (one_less m some)

pub read_arguments_none : (n m : ℕ) (ts : List Tok) → m ≡ 0 → read_arguments m (read_expression n) ts ≡ None
read_arguments_none n m ts e = ap (λ k. read_arguments k (read_expression n) ts) e
