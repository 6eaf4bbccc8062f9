-- An item of a list is no larger than all of the list, which measures recursions.

use Rattle.std.specs.Prelude.{◌≡◌, ℕ, zero, suc, ◌<◌, ◌≤◌, List, [], ◌∷◌, length}
use Rattle.std.proofs.Common.{ap, get_or, arith}
use Rattle.edb_syntax.specs.Syntax.{Exp, ClauseTree, CatchTree, QualifierTree, exps_of, clauses_of, catches_of, qualifiers_of}
use Rattle.edb_syntax.specs.Sizes.{size, sizes, clause_size, clauses_size, catch_size, catches_size, qualifier_size, qualifiers_size}

pub exp_within : (es : List Exp) (i : ℕ) (e : Exp) → i < length es → e ≡ get_or es i e → size e ≤ sizes (exps_of es)
exp_within [] i e lt is = absurd (omega arith)
exp_within (d ∷ es) zero e lt is = omega (arith, ap size is)
exp_within (d ∷ es) (suc i) e lt is = omega (arith, exp_within es i e (omega arith) is)

pub clause_within : (cs : List ClauseTree) (i : ℕ) (c : ClauseTree) → i < length cs → c ≡ get_or cs i c → clause_size c ≤ clauses_size (clauses_of cs)
clause_within [] i c lt is = absurd (omega arith)
clause_within (d ∷ cs) zero c lt is = omega (arith, ap clause_size is)
clause_within (d ∷ cs) (suc i) c lt is = omega (arith, clause_within cs i c (omega arith) is)

pub catch_within : (cs : List CatchTree) (i : ℕ) (c : CatchTree) → i < length cs → c ≡ get_or cs i c → catch_size c ≤ catches_size (catches_of cs)
catch_within [] i c lt is = absurd (omega arith)
catch_within (d ∷ cs) zero c lt is = omega (arith, ap catch_size is)
catch_within (d ∷ cs) (suc i) c lt is = omega (arith, catch_within cs i c (omega arith) is)

pub qualifier_within : (qs : List QualifierTree) (i : ℕ) (q : QualifierTree) → i < length qs → q ≡ get_or qs i q → qualifier_size q ≤ qualifiers_size (qualifiers_of qs)
qualifier_within [] i q lt is = absurd (omega arith)
qualifier_within (d ∷ qs) zero q lt is = omega (arith, ap qualifier_size is)
qualifier_within (d ∷ qs) (suc i) q lt is = omega (arith, qualifier_within qs i q (omega arith) is)
