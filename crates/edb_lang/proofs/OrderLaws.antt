-- The order of terms: its Equal is equality, and it answers the reverse of the reversed question.

use Rattle.std.proofs.Common.{◌≡◌, ◌⊎◌, ◌↔◌, IsTrue, is_eq, inl, inr, ℕ, ◌+◌, List, [], ◌∷◌, length, ap, sym, ◌∙◌, refl, arith}
use Rattle.std.specs.declared.cmp.Ordering.{Ordering}
use Rattle.std.specs.declared.cmp.Ordering.TheVariants.{Less, Equal, Greater}
use Rattle.std.specs.Ordering.{nat_cmp, ordering_then, ordering_reverse}
use Rattle.std.specs.Cmp.Lexicographic.{slice_cmp}
use Rattle.std.specs.Cmp.{IsTotalOrder, then_flip, nat_cmp_is}
use Rattle.std.specs.FinMap.{nat_cmp-IsAntisymmetric, int_cmp-IsAntisymmetric, slice_cmp-IsAntisymmetric}
use Rattle.std.proofs.lemmas.Cmp.{nat_cmp_total, int_cmp_total, nat_list_cmp_total}
use Rattle.edb_lang.specs.Terms.{Datum, int, atom, reference, made, named, pid, tuple, nil, cons, Datums, none, more, Captures, uncaptured, captured}
use Rattle.edb_lang.specs.declared.term.Captured.{Captured}
use Rattle.edb_lang.specs.TermViews.{captures_in}
use Rattle.edb_lang.specs.Order.{count, term_cmp, terms_cmp, captures_cmp}

pub then_first : (a b : Ordering) → ordering_then a b ≡ Equal → a ≡ Equal
then_first Equal b e = refl
then_first Less b e = absurd (cc)
then_first Greater b e = absurd (cc)

pub then_second : (a b : Ordering) → ordering_then a b ≡ Equal → b ≡ Equal
then_second Equal b e = e
then_second Less b e = absurd (cc)
then_second Greater b e = absurd (cc)

same_nat : (m n : ℕ) → nat_cmp m n ≡ Equal → m ≡ n
same_nat m n e = nat_cmp-IsAntisymmetric m n e

same_name : (m n : List ℕ) → slice_cmp nat_cmp m n ≡ Equal → m ≡ n
same_name m n e = slice_cmp-IsAntisymmetric nat_cmp-IsAntisymmetric m n e

mutual
  pub same_term : (x y : Datum) → term_cmp x y ≡ Equal → x ≡ y
  same_term (int i) (int j) e = ap int (int_cmp-IsAntisymmetric i j e)
  same_term (atom a) (atom b) e = ap atom (same_name a b e)
  same_term (reference r) (reference s) e = ap reference (same_nat r s e)
  same_term (made m v i a cs) (made n w j b ds) e =
      let by_arity : Ordering = ordering_then (nat_cmp a b) (captures_cmp cs ds) in
      let by_place : Ordering = ordering_then (nat_cmp i j) by_arity in
      let by_version : Ordering = ordering_then (nat_cmp v w) by_place in
      let e1 : by_version ≡ Equal = then_second (slice_cmp nat_cmp m n) by_version e in
      let e2 : by_place ≡ Equal = then_second (nat_cmp v w) by_place e1 in
      let e3 : by_arity ≡ Equal = then_second (nat_cmp i j) by_arity e2 in
      λ k. made
      (same_name m n (then_first (slice_cmp nat_cmp m n) by_version e) k)
      (same_nat v w (then_first (nat_cmp v w) by_place e1) k)
      (same_nat i j (then_first (nat_cmp i j) by_arity e2) k)
      (same_nat a b (then_first (nat_cmp a b) (captures_cmp cs ds) e3) k)
      (same_captures cs ds (then_second (nat_cmp a b) (captures_cmp cs ds) e3) k)
  same_term (named m f a) (named n g b) e =
      let by_name : Ordering = ordering_then (slice_cmp nat_cmp f g) (nat_cmp a b) in
      let e1 : by_name ≡ Equal = then_second (slice_cmp nat_cmp m n) by_name e in
      λ k. named
      (same_name m n (then_first (slice_cmp nat_cmp m n) by_name e) k)
      (same_name f g (then_first (slice_cmp nat_cmp f g) (nat_cmp a b) e1) k)
      (same_nat a b (then_second (slice_cmp nat_cmp f g) (nat_cmp a b) e1) k)
  same_term (pid p) (pid q) e = ap pid (same_nat p q e)
  same_term (tuple xs) (tuple ys) e =
      let e1 : nat_cmp (count xs) (count ys) ≡ Equal = then_first (nat_cmp (count xs) (count ys)) (terms_cmp xs ys) e in
      ap tuple (same_terms xs ys (same_nat (count xs) (count ys) e1) (then_second (nat_cmp (count xs) (count ys)) (terms_cmp xs ys) e))
  same_term nil nil e = refl
  same_term (cons h t) (cons g u) e =
      λ k. cons (same_term h g (then_first (term_cmp h g) (term_cmp t u) e) k) (same_term t u (then_second (term_cmp h g) (term_cmp t u) e) k)
  same_term _ _ e = absurd (cc)

  pub same_terms : (xs ys : Datums) → count xs ≡ count ys → terms_cmp xs ys ≡ Equal → xs ≡ ys
  same_terms none none n e = refl
  same_terms none (more y ys) n e = absurd (omega arith)
  same_terms (more x xs) none n e = absurd (omega arith)
  same_terms (more x xs) (more y ys) n e =
      let m : count xs ≡ count ys = omega arith in
      λ k. more (same_term x y (then_first (term_cmp x y) (terms_cmp xs ys) e) k) (same_terms xs ys m (then_second (term_cmp x y) (terms_cmp xs ys) e) k)

  pub same_captures : (cs ds : Captures) → captures_cmp cs ds ≡ Equal → cs ≡ ds
  same_captures uncaptured uncaptured e = refl
  same_captures uncaptured (captured y u ds) e = absurd (cc)
  same_captures (captured x t cs) uncaptured e = absurd (cc)
  same_captures (captured x t cs) (captured y u ds) e =
      let by_value : Ordering = ordering_then (term_cmp t u) (captures_cmp cs ds) in
      let e1 : by_value ≡ Equal = then_second (slice_cmp nat_cmp x y) by_value e in
      λ k. captured
      (same_name x y (then_first (slice_cmp nat_cmp x y) by_value e) k)
      (same_term t u (then_first (term_cmp t u) (captures_cmp cs ds) e1) k)
      (same_captures cs ds (then_second (term_cmp t u) (captures_cmp cs ds) e1) k)

nat_back : (m n : ℕ) → nat_cmp n m ≡ ordering_reverse (nat_cmp m n)
nat_back m n = nat_cmp_total.antisymm n m

name_back : (m n : List ℕ) → slice_cmp nat_cmp n m ≡ ordering_reverse (slice_cmp nat_cmp m n)
name_back m n = nat_list_cmp_total.antisymm n m

-- two comparisons in a row, each reversed
then_back : (a b c d : Ordering) → c ≡ ordering_reverse a → d ≡ ordering_reverse b → ordering_then c d ≡ ordering_reverse (ordering_then a b)
then_back a b c d p q = (λ k. ordering_then (p k) (q k)) ∙ then_flip a b

mutual
  pub term_back : (x y : Datum) → term_cmp y x ≡ ordering_reverse (term_cmp x y)
  term_back (int i) (int j) = int_cmp_total.antisymm j i
  term_back (atom a) (atom b) = name_back a b
  term_back (reference r) (reference s) = nat_back r s
  term_back (made m v i a cs) (made n w j b ds) =
      then_back _ _ _ _ (name_back m n) (then_back _ _ _ _ (nat_back v w) (then_back _ _ _ _ (nat_back i j) (then_back _ _ _ _ (nat_back a b) (captures_back cs ds))))
  term_back (named m f a) (named n g b) = then_back _ _ _ _ (name_back m n) (then_back _ _ _ _ (name_back f g) (nat_back a b))
  term_back (pid p) (pid q) = nat_back p q
  term_back (tuple xs) (tuple ys) = then_back _ _ _ _ (nat_back (count xs) (count ys)) (terms_back xs ys)
  term_back nil nil = refl
  term_back (cons h t) (cons g u) = then_back _ _ _ _ (term_back h g) (term_back t u)
  term_back _ _ = refl

  pub terms_back : (xs ys : Datums) → terms_cmp ys xs ≡ ordering_reverse (terms_cmp xs ys)
  terms_back none none = refl
  terms_back none (more y ys) = refl
  terms_back (more x xs) none = refl
  terms_back (more x xs) (more y ys) = then_back _ _ _ _ (term_back x y) (terms_back xs ys)

  pub captures_back : (cs ds : Captures) → captures_cmp ds cs ≡ ordering_reverse (captures_cmp cs ds)
  captures_back uncaptured uncaptured = refl
  captures_back uncaptured (captured y u ds) = refl
  captures_back (captured x t cs) uncaptured = refl
  captures_back (captured x t cs) (captured y u ds) = then_back _ _ _ _ (name_back x y) (then_back _ _ _ _ (term_back t u) (captures_back cs ds))

its_own_reverse : (o : Ordering) → o ≡ ordering_reverse o → o ≡ Equal
its_own_reverse Equal e = refl
its_own_reverse Less e = absurd (cc)
its_own_reverse Greater e = absurd (cc)

pub term_itself : (x : Datum) → term_cmp x x ≡ Equal
term_itself x = its_own_reverse (term_cmp x x) (term_back x x)

pub equal_term : (x y : Datum) → x ≡ y → term_cmp x y ≡ Equal
equal_term x y e = sym (ap (term_cmp x) e) ∙ term_itself x

-- where one list of variables is at its end, their numbers decide
pub captures_ended : (xs ys : List Captured) (n : ℕ) → (length xs ≡ 0) ⊎ (length ys ≡ 0) → captures_cmp (captures_in xs) (captures_in ys) ≡ nat_cmp (length xs + n) (length ys + n)
captures_ended [] [] n e = nat_cmp_is (0 + n) (0 + n) Equal refl
captures_ended [] (y ∷ ys) n e = nat_cmp_is (0 + n) (length (y ∷ ys) + n) Less (omega arith)
captures_ended (x ∷ xs) [] n e = nat_cmp_is (length (x ∷ xs) + n) (0 + n) Greater (omega arith)
captures_ended (x ∷ xs) (y ∷ ys) n (inl e) = absurd (omega arith)
captures_ended (x ∷ xs) (y ∷ ys) n (inr e) = absurd (omega arith)

equal_from_is_eq : (o : Ordering) → IsTrue (is_eq o) → o ≡ Equal
equal_from_is_eq Equal h = refl
equal_from_is_eq Less h = absurd (cc)
equal_from_is_eq Greater h = absurd (cc)

pub is_eq_term : (x y : Datum) → IsTrue (is_eq (term_cmp x y)) ↔ (x ≡ y)
is_eq_term x y = (λ h. same_term x y (equal_from_is_eq (term_cmp x y) h), λ e. rw (equal_term x y e) refl)

-- How the answers to three questions, of x and y, of y and z, and of x and z, fit together.
abbrev pub Chain : Ordering → Ordering → Ordering → Type 0
Chain Less Less c = c ≡ Less
Chain Less Equal c = c ≡ Less
Chain Less Greater c = Unit {0}
Chain Equal b c = c ≡ b
Chain Greater Less c = Unit {0}
Chain Greater Equal c = c ≡ Greater
Chain Greater Greater c = c ≡ Greater

pub chain_then : (a b c d e f : Ordering) → Chain a b c → (a ≡ Equal → b ≡ Equal → Chain d e f) → Chain (ordering_then a d) (ordering_then b e) (ordering_then c f)
chain_then Less Less c d e f p q = rw p refl
chain_then Less Equal c d Less f p q = rw p refl
chain_then Less Equal c d Equal f p q = rw p refl
chain_then Less Equal c d Greater f p q = tt
chain_then Less Greater c d e f p q = tt
chain_then Equal Less c Less e f p q = rw p refl
chain_then Equal Less c Equal e f p q = rw p refl
chain_then Equal Less c Greater e f p q = tt
chain_then Equal Equal c d e f p q = rw p (q refl refl)
chain_then Equal Greater c Less e f p q = tt
chain_then Equal Greater c Equal e f p q = rw p refl
chain_then Equal Greater c Greater e f p q = rw p refl
chain_then Greater Less c d e f p q = tt
chain_then Greater Equal c d Less f p q = tt
chain_then Greater Equal c d Equal f p q = rw p refl
chain_then Greater Equal c d Greater f p q = rw p refl
chain_then Greater Greater c d e f p q = rw p refl

module _ {K : Type 0} {R : K → K → Ordering} (total : IsTotalOrder R) where
  chain_case : (x y z : K) (a b : Ordering) → R x y ≡ a → R y z ≡ b → Chain a b (R x z)
  chain_case x y z Less Less p q = total.trans x y z p q
  chain_case x y z Less Equal p q =
      total.antisymm x z ∙ ap ordering_reverse (sym (total.congr y z x q)) ∙ sym (total.antisymm x y) ∙ p
  chain_case x y z Less Greater p q = tt
  chain_case x y z Equal b p q = total.congr x y z p ∙ q
  chain_case x y z Greater Less p q = tt
  chain_case x y z Greater Equal p q =
      total.antisymm x z ∙ ap ordering_reverse (sym (total.congr y z x q)) ∙ sym (total.antisymm x y) ∙ p
  chain_case x y z Greater Greater p q =
      total.antisymm x z ∙ ap ordering_reverse (total.trans z y x (total.antisymm z y ∙ ap ordering_reverse q) (total.antisymm y x ∙ ap ordering_reverse p))

  pub chain_total : (x y z : K) → Chain (R x y) (R y z) (R x z)
  chain_total x y z = chain_case x y z (R x y) (R y z) refl refl
