-- Literal terms: one level of the descent, lists, and the limits.

use Rattle.std.proofs.Common.{◌≡◌, ℕ, suc, pos, ◌+◌, ◌≤◌, ◌<◌, false, ◌&&◌, if◌then◌else◌, nat_le, arith, List, [], ◌∷◌, ◌++◌, length, map, Option, Some, None, Err, refl, ap, subst}
use Rattle.std.proofs.lemmas.Bool.Decides.{nat_tests}
use Rattle.edb_lang.specs.Terms.{Datum, int, nil, cons, none, more, of_list, height, size, most_high, most_large}
use Rattle.edb_grammar.specs.Toks.{Tok}
use Rattle.edb_grammar.specs.Literals.{text_term, list_term}
use Rattle.edb_grammar.specs.LiteralReading.{kept, term_at, read_term}
use Rattle.edb_parse.specs.declared.unread.Unread.{Unread}
use Rattle.edb_parse.specs.declared.unread.Unread.TheVariants.{Refused}
use Rattle.edb_parse.specs.LiteralGives.{GivesAll}
use Rattle.edb_parse.specs.Lists.{gather}

pub term_level : (n m : ℕ) (ts : List Tok) → n ≡ suc m → read_term n ts ≡ term_at (read_term m) ts
term_level n m ts e = ap (λ k. read_term k ts) e

pub terms_gathered : (ds : List Datum) → gather more none ds ≡ of_list ds
terms_gathered [] = refl
terms_gathered (d ∷ ds) = ap (more d) (terms_gathered ds)

-- the last element becomes a cell
pub list_push : (ds : List Datum) (d t : Datum) → list_term (of_list (ds ++ d ∷ [])) t ≡ list_term (of_list ds) (cons d t)
list_push [] d t = refl
list_push (c ∷ ds) d t = ap (cons c) (list_push ds d t)

pub text_list : (cs : List ℕ) → list_term (of_list (map (λ c. int (pos c)) cs)) nil ≡ text_term cs
text_list [] = refl
text_list (c ∷ cs) = ap (cons (int (pos c))) (text_list cs)

-- a list is as high as it has elements, and its tail besides
list_high : (ds : List Datum) (t : Datum) → length ds + height t ≤ height (list_term (of_list ds) t)
list_high [] t = omega arith
list_high (d ∷ ds) t = omega (arith, list_high ds t)

text_high : (cs : List ℕ) → length cs ≤ height (text_term cs)
text_high [] = omega arith
text_high (c ∷ cs) = omega (arith, text_high cs)

le_not : (m n : ℕ) → n < m → nat_le m n ≡ false
le_not m n above = grind (arith, nat_tests, above)

too_high : (d : Datum) (rest : List Tok) → most_high < height d → kept (Some (d, rest)) ≡ None
too_high d rest h = ap (λ b. if b && nat_le (size d) most_large then Some (d, rest) else None) (le_not (height d) most_high h)

pub list_refused : (ds : List Datum) (t : Datum) (rest : List Tok) → most_high < length ds + height t → kept (Some (list_term (of_list ds) t, rest)) ≡ None
list_refused ds t rest h = too_high (list_term (of_list ds) t) rest (omega (arith, h, list_high ds t))

pub text_refused : (cs : List ℕ) (rest : List Tok) → most_high < length cs → kept (Some (text_term cs, rest)) ≡ None
text_refused cs rest h = too_high (text_term cs) rest (omega (arith, h, text_high cs))

-- where it is refused, there is nothing to be read
pub refused : {A : Type 0} (e : Unread) (whole : Option A) → e ≡ Refused → GivesAll (Err e) whole → whole ≡ None
refused {A} e whole is h = let P : Unread → Type 0 = λ f. GivesAll {A = A} (Err f) whole in subst P is h
