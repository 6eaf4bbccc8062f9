-- The first text with a fault.

use Rattle.std.proofs.Common.{◌≡◌, ℕ, zero, suc, ◌+◌, ◌<◌, List, [], ◌∷◌, take, get_or, length, subst, add-one, arith}
use Rattle.edb_verdict.specs.declared.fault.ModuleFault.{ModuleFault}
use Rattle.edb_verdict.specs.Verdicts.{HasFault}
use Rattle.edb_tools.specs.Verdicts.{IsSomeModule, AreAccepted, FirstFault}

accepted_suc : (texts : List (List ℕ)) (i : ℕ) (text : List ℕ) → i < length texts → text ≡ get_or texts i text
    → AreAccepted (take i texts) → IsSomeModule text → AreAccepted (take (suc i) texts)
accepted_suc [] i text lt is so_far one = absurd (omega arith)
accepted_suc (t ∷ ts) zero text lt is so_far one = (subst IsSomeModule is one, tt)
accepted_suc (t ∷ ts) (suc i) text lt is so_far one = (so_far.0, accepted_suc ts i text (omega arith) is so_far.1 one)

-- one accepted text more
pub accepted_more : (texts : List (List ℕ)) (i : ℕ) (text : List ℕ) → i < length texts → text ≡ get_or texts i text
    → AreAccepted (take i texts) → IsSomeModule text → AreAccepted (take (i + 1) texts)
accepted_more texts i text lt is so_far one = rw (add-one i) (accepted_suc texts i text lt is so_far one)

-- a text with a fault behind accepted ones
pub first_at : (texts : List (List ℕ)) (i : ℕ) (text : List ℕ) (fault : ModuleFault) → i < length texts → text ≡ get_or texts i text
    → AreAccepted (take i texts) → HasFault text fault → FirstFault texts i fault
first_at [] i text fault lt is so_far one = absurd (omega arith)
first_at (t ∷ ts) zero text fault lt is so_far one = subst (λ (bytes : List ℕ). HasFault bytes fault) is one
first_at (t ∷ ts) (suc i) text fault lt is so_far one = (so_far.0, first_at ts i text fault (omega arith) is so_far.1 one)
