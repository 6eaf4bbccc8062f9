-- The causes of the ends exclude each other, so each end comes where its cause holds.

use Rattle.std.proofs.Common.{◌≡◌, inl, inr, ℕ, zero, suc, Bool, List, [], ◌∷◌, Option, Some, IsSomeAnd, ap, refl, subst}
use Rattle.edb_io.specs.OneRead.{Read}
use Rattle.edb_verdict.specs.declared.fault.ModuleFault.{ModuleFault}
use Rattle.edb_verdict.proofs.OneVerdict.{accepted_or_fault, fault_one}
use Rattle.edb_files.specs.InOrder.{Asked, FailsAt}
use Rattle.edb_files.proofs.ReadLaws.{texts_one, read_or_failed}
use Rattle.edb_tools.specs.declared.ending.ToolEnd.{ToolEnd}
use Rattle.edb_tools.specs.declared.ending.ToolEnd.TheVariants.{Done, Words, FileFault, ModuleRefused, WriteFault, NoMemory}
use Rattle.edb_tools.specs.Requests.{Request}
use Rattle.edb_tools.specs.Verdicts.{AreAccepted, FirstFault, Accepts, Refuses}
use Rattle.edb_tools.specs.Ends.{HasCause, IsWritten}
use Rattle.edb_tools.specs.Causes.{RefusalComes, DoneComes}

-- accepted texts have no fault
no_fault : (texts : List (List ℕ)) (k : ℕ) (fault : ModuleFault) → AreAccepted texts → FirstFault texts k fault → ⊥
no_fault [] k fault a f = f
no_fault (t ∷ ts) zero fault a f = accepted_or_fault t a.0.0 fault a.0.1 f
no_fault (t ∷ ts) (suc k) fault a f = no_fault ts k fault a.1 f.1

-- texts have one first fault
first_one : (texts : List (List ℕ)) (j k : ℕ) (f g : ModuleFault) → FirstFault texts j f → FirstFault texts k g → (j ≡ k) × (f ≡ g)
first_one [] j k f g h i = absurd h
first_one (t ∷ ts) zero zero f g h i = (refl, fault_one t f g h i)
first_one (t ∷ ts) zero (suc k) f g h i = absurd (accepted_or_fault t i.0.0 f i.0.1 h)
first_one (t ∷ ts) (suc j) zero f g h i = absurd (accepted_or_fault t h.0.0 g h.0.1 i)
first_one (t ∷ ts) (suc j) (suc k) f g h i = let both = first_one ts j k f g h.1 i.1 in (ap suc both.0, both.1)

-- what holds of a request that there is
of_some : (P : Request → Type 0) (request : Option Request) (r : Request) → request ≡ Some r → IsSomeAnd request P → P r
of_some P request r is holds = subst (λ (o : Option Request). IsSomeAnd o P) is holds

accepts_or_refuses : (files : List Asked) (old new : List Read) (k : ℕ) (fault : ModuleFault) → Accepts files old new → Refuses files old new k fault → ⊥
accepts_or_refuses files old new k fault a r =
    no_fault r.texts k fault (subst AreAccepted (texts_one files a.texts r.texts old new a.read r.read) a.accepted) r.first

refuses_one : (files : List Asked) (old new : List Read) (j k : ℕ) (f g : ModuleFault) → Refuses files old new j f → Refuses files old new k g → ModuleRefused j f ≡ ModuleRefused k g
refuses_one files old new j k f g r s =
    let both = first_one s.texts j k f g (subst (λ (ts : List (List ℕ)). FirstFault ts j f) (texts_one files r.texts s.texts old new r.read s.read) r.first) s.first in
    let place : j ≡ k = both.0 in
    let fault : f ≡ g = both.1 in
    cc

pub refusal_comes : (request : Option Request) (old new : List Read) (before now : ℕ) (end : ToolEnd) → HasCause request old new before now end → RefusalComes request old new end
refusal_comes request old new before now Done c p k fault is r =
    absurd (accepts_or_refuses _ old new k fault (of_some (λ (q : Request). Accepts q.files old new) request p is c) r)
refusal_comes request old new before now Words c p k fault is r = absurd (cc)
refusal_comes request old new before now (FileFault j) c p k fault is r =
    absurd (read_or_failed _ r.texts old new j r.read (of_some (λ (q : Request). FailsAt q.files old new j) request p is c.1))
refusal_comes request old new before now (ModuleRefused j f) c p k fault is r =
    inl (refuses_one _ old new j k f fault (of_some (λ (q : Request). Refuses q.files old new j f) request p is c) r)
refusal_comes request old new before now WriteFault c p k fault is r =
    absurd (accepts_or_refuses _ old new k fault (of_some (λ (q : Request). Accepts q.files old new) request p is c) r)
refusal_comes request old new before now NoMemory c p k fault is r = inr refl

pub done_comes : (request : Option Request) (old new : List Read) (before now : ℕ) (written_old written_new : Option (List ℕ)) (sink_before sink_now : ℕ) (was flag : Bool) (end : ToolEnd)
    → HasCause request old new before now end → IsWritten request old new written_old written_new sink_before sink_now was flag end
    → DoneComes request old new before now sink_before sink_now end
done_comes request old new before now wo wn sb sn was flag Done c w p is files sink accepted = inl refl
done_comes request old new before now wo wn sb sn was flag Words c w p is files sink accepted = absurd (cc)
done_comes request old new before now wo wn sb sn was flag (FileFault k) c w p is files sink accepted = absurd (files c.0)
done_comes request old new before now wo wn sb sn was flag (ModuleRefused k fault) c w p is files sink accepted =
    let r : Refuses p.files old new k fault = of_some (λ (q : Request). Refuses q.files old new k fault) request p is c in
    absurd (no_fault r.texts k fault (accepted r.texts r.read) r.first)
done_comes request old new before now wo wn sb sn was flag WriteFault c w p is files sink accepted = absurd (sink w.1)
done_comes request old new before now wo wn sb sn was flag NoMemory c w p is files sink accepted = inr refl
