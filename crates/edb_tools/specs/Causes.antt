-- Which end comes, given its cause: Words, the refusal of a file and Done come wherever their cause holds, unless it is
-- out of memory.

use Rattle.std.specs.Prelude.{◌≡◌, ℕ, List, Option, None, Some}
use Rattle.edb_io.specs.OneRead.{Read}
use Rattle.edb_io.specs.Faults.{Rose}
use Rattle.edb_verdict.specs.declared.fault.ModuleFault.{ModuleFault}
use Rattle.edb_files.specs.InOrder.{AreRead}
use Rattle.edb_files.specs.Ends.{IsOneOf}
use Rattle.edb_tools.specs.declared.ending.ToolEnd.{ToolEnd}
use Rattle.edb_tools.specs.declared.ending.ToolEnd.TheVariants.{Done, Words, ModuleRefused, NoMemory}
use Rattle.edb_tools.specs.Requests.{Request}
use Rattle.edb_tools.specs.Verdicts.{AreAccepted, Refuses}

-- the end is this one, or it is out of memory
abbrev pub IsOnly : ToolEnd → ToolEnd → Type 0
IsOnly = IsOneOf NoMemory

-- words that ask for nothing end so
abbrev pub WordsComes : Option Request → ToolEnd → Type 0
WordsComes request end = request ≡ None → IsOnly Words end

-- if all files were read, the first with a fault is refused
abbrev pub RefusalComes : Option Request → List Read → List Read → ToolEnd → Type 0
RefusalComes request old new end =
    (r : Request) (k : ℕ) (fault : ModuleFault) → request ≡ Some r → Refuses r.files old new k fault → IsOnly (ModuleRefused k fault) end

-- if the words ask for something, no count of faults rose and what was read is accepted, all is done
abbrev pub DoneComes : Option Request → List Read → List Read → ℕ → ℕ → ℕ → ℕ → ToolEnd → Type 0
DoneComes request old new files_before files_now sink_before sink_now end =
    (r : Request) → request ≡ Some r
    → (Rose files_before files_now → ⊥)
    → (Rose sink_before sink_now → ⊥)
    → ((texts : List (List ℕ)) → AreRead r.files old new texts → AreAccepted texts)
    → IsOnly Done end
