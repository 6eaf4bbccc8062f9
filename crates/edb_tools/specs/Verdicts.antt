-- Which texts are accepted, and which is the first that isn't.

use Rattle.std.specs.Prelude.{ℕ, zero, suc, List, [], ◌∷◌}
use Rattle.edb_syntax.specs.Syntax.{ModuleTree}
use Rattle.edb_io.specs.OneRead.{Read}
use Rattle.edb_verdict.specs.declared.fault.ModuleFault.{ModuleFault}
use Rattle.edb_verdict.specs.Verdicts.{IsAccepted, HasFault}
use Rattle.edb_files.specs.InOrder.{Asked, AreRead}

-- the text is a module without faults
abbrev pub IsSomeModule : List ℕ → Type 0
IsSomeModule text = (m : ModuleTree) × IsAccepted text m

-- each text is one
abbrev pub AreAccepted : List (List ℕ) → Type 0
AreAccepted [] = Unit {0}
AreAccepted (text ∷ texts) = IsSomeModule text × AreAccepted texts

-- the texts before text k are accepted, and it has this fault
abbrev pub FirstFault : List (List ℕ) → ℕ → ModuleFault → Type 0
FirstFault [] k fault = ⊥
FirstFault (text ∷ texts) zero fault = HasFault text fault
FirstFault (text ∷ texts) (suc k) fault = IsSomeModule text × FirstFault texts k fault

-- all files were read and accepted
pub record Accepts (files : List Asked) (old new : List Read) : Type 0 where
  pub texts : List (List ℕ)
  pub read : AreRead files old new texts
  pub accepted : AreAccepted texts

-- all files were read, and file k is the first with a fault
pub record Refuses (files : List Asked) (old new : List Read) (k : ℕ) (fault : ModuleFault) : Type 0 where
  pub texts : List (List ℕ)
  pub read : AreRead files old new texts
  pub first : FirstFault texts k fault
