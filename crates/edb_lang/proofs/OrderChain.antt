-- The order of terms is transitive.

use Rattle.std.proofs.Common.{◌≡◌, ℕ, List, refl, arith}
use Rattle.std.specs.declared.cmp.Ordering.{Ordering}
use Rattle.std.specs.declared.cmp.Ordering.TheVariants.{Less, Equal, Greater}
use Rattle.std.specs.Ordering.{nat_cmp, ordering_then}
use Rattle.std.specs.Cmp.Lexicographic.{slice_cmp}
use Rattle.std.specs.FinMap.{nat_cmp-IsAntisymmetric}
use Rattle.std.proofs.lemmas.Cmp.{nat_cmp_total, int_cmp_total, nat_list_cmp_total}
use Rattle.edb_lang.specs.Terms.{Datum, int, atom, reference, made, named, pid, tuple, nil, cons, Datums, none, more, Captures, uncaptured, captured}
use Rattle.edb_lang.specs.Order.{rank, count, term_cmp, terms_cmp, captures_cmp}
use Rattle.edb_lang.proofs.OrderLaws.{Chain, chain_then, chain_total}

-- the kinds decide first
by_rank : (x y : Datum) → term_cmp x y ≡ ordering_then (nat_cmp (rank x) (rank y)) (term_cmp x y)
by_rank (int i) (int j) = refl
by_rank (atom a) (atom b) = refl
by_rank (reference r) (reference s) = refl
by_rank (made m v i a cs) (made n w j b ds) = refl
by_rank (named m f a) (named n g b) = refl
by_rank (pid p) (pid q) = refl
by_rank (tuple xs) (tuple ys) = refl
by_rank nil nil = refl
by_rank (cons h t) (cons g u) = refl
by_rank _ _ = refl

same_nat : (m n : ℕ) → nat_cmp m n ≡ Equal → m ≡ n
same_nat m n e = nat_cmp-IsAntisymmetric m n e

pub chain_kinds : (x y z : Datum) → (rank x ≡ rank y → rank y ≡ rank z → Chain (term_cmp x y) (term_cmp y z) (term_cmp x z)) → Chain (term_cmp x y) (term_cmp y z) (term_cmp x z)
chain_kinds x y z same =
    rw (by_rank x y, by_rank y z, by_rank x z)
    (chain_then (nat_cmp (rank x) (rank y)) (nat_cmp (rank y) (rank z)) (nat_cmp (rank x) (rank z)) (term_cmp x y) (term_cmp y z) (term_cmp x z)
    (chain_total nat_cmp_total (rank x) (rank y) (rank z))
    (λ p q. same (same_nat (rank x) (rank y) p) (same_nat (rank y) (rank z) q)))

chain_less : (o : Ordering) → Chain Less o Less
chain_less Less = refl
chain_less Equal = refl
chain_less Greater = tt

chain_greater : (o : Ordering) → Chain o Greater Greater
chain_greater Less = tt
chain_greater Equal = refl
chain_greater Greater = refl

chain_nat : (m n o : ℕ) → Chain (nat_cmp m n) (nat_cmp n o) (nat_cmp m o)
chain_nat m n o = chain_total nat_cmp_total m n o

chain_name : (m n o : List ℕ) → Chain (slice_cmp nat_cmp m n) (slice_cmp nat_cmp n o) (slice_cmp nat_cmp m o)
chain_name m n o = chain_total nat_list_cmp_total m n o

mutual
  chain_same : (x y z : Datum) → rank x ≡ rank y → rank y ≡ rank z → Chain (term_cmp x y) (term_cmp y z) (term_cmp x z)
  chain_same (int i) (int j) (int k) r s = chain_total int_cmp_total i j k
  chain_same (atom a) (atom b) (atom c) r s = chain_name a b c
  chain_same (reference a) (reference b) (reference c) r s = chain_nat a b c
  chain_same (made m v i a cs) (made n w j b ds) (made o x k c es) r s =
      chain_then _ _ _ _ _ _ (chain_name m n o) (λ _ _. chain_then _ _ _ _ _ _ (chain_nat v w x) (λ _ _.
      chain_then _ _ _ _ _ _ (chain_nat i j k) (λ _ _. chain_then _ _ _ _ _ _ (chain_nat a b c) (λ _ _. chain_captures cs ds es))))
  chain_same (named m f a) (named n g b) (named o h c) r s =
      chain_then _ _ _ _ _ _ (chain_name m n o) (λ _ _. chain_then _ _ _ _ _ _ (chain_name f g h) (λ _ _. chain_nat a b c))
  chain_same (pid a) (pid b) (pid c) r s = chain_nat a b c
  chain_same (tuple xs) (tuple ys) (tuple zs) r s =
      chain_then _ _ _ _ _ _ (chain_nat (count xs) (count ys) (count zs)) (λ p q. chain_terms xs ys zs (same_nat (count xs) (count ys) p) (same_nat (count ys) (count zs) q))
  chain_same nil nil nil r s = refl
  chain_same (cons h t) (cons g u) (cons k v) r s =
      chain_then _ _ _ _ _ _ (chain_kinds h g k (λ p q. chain_same h g k p q)) (λ _ _. chain_kinds t u v (λ p q. chain_same t u v p q))
  chain_same _ _ _ r s = absurd (omega arith)

  chain_terms : (xs ys zs : Datums) → count xs ≡ count ys → count ys ≡ count zs → Chain (terms_cmp xs ys) (terms_cmp ys zs) (terms_cmp xs zs)
  chain_terms none none none p q = refl
  chain_terms (more x xs) (more y ys) (more z zs) p q =
      chain_then _ _ _ _ _ _ (chain_kinds x y z (λ r s. chain_same x y z r s)) (λ _ _. chain_terms xs ys zs (omega arith) (omega arith))
  chain_terms _ _ _ p q = absurd (omega arith)

  chain_captures : (cs ds es : Captures) → Chain (captures_cmp cs ds) (captures_cmp ds es) (captures_cmp cs es)
  chain_captures uncaptured uncaptured uncaptured = refl
  chain_captures uncaptured uncaptured (captured z v es) = refl
  chain_captures uncaptured (captured y u ds) uncaptured = tt
  chain_captures uncaptured (captured y u ds) (captured z v es) = chain_less (captures_cmp (captured y u ds) (captured z v es))
  chain_captures (captured x t cs) uncaptured uncaptured = refl
  chain_captures (captured x t cs) uncaptured (captured z v es) = tt
  chain_captures (captured x t cs) (captured y u ds) uncaptured = chain_greater (captures_cmp (captured x t cs) (captured y u ds))
  chain_captures (captured x t cs) (captured y u ds) (captured z v es) =
      chain_then _ _ _ _ _ _ (chain_name x y z) (λ _ _. chain_then _ _ _ _ _ _ (chain_kinds t u v (λ r s. chain_same t u v r s)) (λ _ _. chain_captures cs ds es))

pub chain_term : (x y z : Datum) → Chain (term_cmp x y) (term_cmp y z) (term_cmp x z)
chain_term x y z = chain_kinds x y z (λ r s. chain_same x y z r s)

below_chain : (a b c : Ordering) → a ≡ Less → b ≡ Less → Chain a b c → c ≡ Less
below_chain Less Less c p q h = h
below_chain Less Equal c p q h = absurd (cc)
below_chain Less Greater c p q h = absurd (cc)
below_chain Equal b c p q h = absurd (cc)
below_chain Greater b c p q h = absurd (cc)

pub below_trans : (x y z : Datum) → term_cmp x y ≡ Less → term_cmp y z ≡ Less → term_cmp x z ≡ Less
below_trans x y z p q = below_chain (term_cmp x y) (term_cmp y z) (term_cmp x z) p q (chain_term x y z)
