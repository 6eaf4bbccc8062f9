-- Patterns: one level of the descent, and lists of patterns.

use Rattle.std.proofs.Common.{◌≡◌, ℕ, suc, ◌-◌, arith, List, [], ◌∷◌, refl, ap}
use Rattle.edb_syntax.specs.Patterns.{Pat, pats_of, none, more}
use Rattle.edb_grammar.specs.Toks.{Tok}
use Rattle.edb_grammar.specs.PatternReading.{joined_pats, single_pat, read_pat, read_single}
use Rattle.edb_parse.specs.Lists.{gather}

pub above : (n : ℕ) → (n ≡ 0 → ⊥) → n ≡ suc (n - 1)
above n some = omega (arith, some)

pub pattern_level : (n m : ℕ) (ts : List Tok) → n ≡ suc m → read_pat n ts ≡ joined_pats m (read_pat m) (single_pat (read_pat m) ts)
pattern_level n m ts e = ap (λ k. read_pat k ts) e

pub single_level : (n m : ℕ) (ts : List Tok) → n ≡ suc m → read_single n ts ≡ single_pat (read_pat m) ts
single_level n m ts e = ap (λ k. read_single k ts) e

pub pats_gathered : (ps : List Pat) → gather more none ps ≡ pats_of ps
pats_gathered [] = refl
pats_gathered (p ∷ ps) = ap (more p) (pats_gathered ps)
