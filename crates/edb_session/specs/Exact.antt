-- Where an end comes exactly: wherever its cause holds, the end is that one, or it is out of memory.

use Rattle.std.specs.Prelude.{◌≡◌, ◌⊎◌, ℕ, Bool, false, List, ◌∷◌, Option, None, Some}
use Rattle.edb_lang.specs.Syntax.{ModuleTree}
use Rattle.edb_io.specs.OneRead.{Read}
use Rattle.edb_io.specs.Faults.{Rose}
use Rattle.edb_event.specs.declared.call.Command.{Command}
use Rattle.edb_event.specs.declared.entry.Entry.{Entry}
use Rattle.edb_cmds.specs.Listing.{IsScriptOf}
use Rattle.edb_rules.specs.Plans.{Plan}
use Rattle.edb_rules.specs.Facts.{Facts}
use Rattle.edb_rules.specs.Notes.{facts}
use Rattle.edb_rules.specs.Legal.{IsDone, IsLimit}
use Rattle.edb_session.specs.declared.ending.End.{End}
use Rattle.edb_session.specs.declared.ending.End.TheVariants.{Done, Words, ModuleRefused, ScriptRefused, Limit, NoMemory}
use Rattle.edb_verdict.specs.declared.fault.ModuleFault.{ModuleFault}
use Rattle.edb_files.specs.InOrder.{AreRead}
use Rattle.edb_files.specs.Ends.{IsOneOf}
use Rattle.edb_options.specs.Options.{Wanted}
use Rattle.edb_session.specs.Reading.{files_of, AreModules, RefusesModule, RefusesScript, IsAccepted}

-- the end is this one, or it is out of memory
abbrev pub IsOnly : End → End → Type 0
IsOnly = IsOneOf NoMemory

-- words that aren't of the form
abbrev pub WordsExactly : Option Wanted → End → Type 0
WordsExactly wanted end = wanted ≡ None → IsOnly Words end

-- the first FILE that is no module, with its fault
abbrev pub ModuleExactly : Option Wanted → List Read → List Read → End → Type 0
ModuleExactly wanted old new end =
    (w : Wanted) (k : ℕ) (fault : ModuleFault) → wanted ≡ Some w → RefusesModule w old new k fault
    → IsOnly (ModuleRefused k fault) end

-- modules, and a script that is refused at this line
abbrev pub ScriptExactly : Option Wanted → List Read → List Read → End → Type 0
ScriptExactly wanted old new end =
    (w : Wanted) (line : ℕ) → wanted ≡ Some w → RefusesScript w old new line → IsOnly (ScriptRefused line) end

-- What was accepted ran to this cause, and every write was Ok: the sink's flag, which was not set before,
-- isn't set.
abbrev pub EndsExactly : (Plan → Facts → Type 0) → End → Option Wanted → List Read → List Read → List Entry → Bool → Bool → End → Type 0
EndsExactly IsCause e wanted old new journal was is end =
    (w : Wanted) (plan : Plan) → wanted ≡ Some w → IsAccepted w old new plan → was ≡ false → is ≡ false
    → IsCause plan (facts plan journal) → IsOnly e end

abbrev pub DoneExactly : Option Wanted → List Read → List Read → List Entry → Bool → Bool → End → Type 0
DoneExactly = EndsExactly IsDone Done

abbrev pub LimitExactly : Option Wanted → List Read → List Read → List Entry → Bool → Bool → End → Type 0
LimitExactly = EndsExactly IsLimit Limit

-- whatever was read is a script and modules
abbrev pub IsAllAccepted : Wanted → List Read → List Read → Type 0
IsAllAccepted w old new =
    (script : List ℕ) (texts : List (List ℕ)) → AreRead (files_of w) old new (script ∷ texts)
    → ((trees : List ModuleTree) × AreModules texts trees) × ((commands : List Command) × IsScriptOf script commands)

-- Right words, no fault of the files and of the sink, and accepted modules and an accepted script lead to Done or
-- Limit, unless it is out of memory.
abbrev pub IsComplete : Option Wanted → List Read → List Read → ℕ → ℕ → ℕ → ℕ → End → Type 0
IsComplete wanted old new files_before files_now sink_before sink_now end =
    (w : Wanted) → wanted ≡ Some w → (Rose files_before files_now → ⊥) → (Rose sink_before sink_now → ⊥)
    → IsAllAccepted w old new → (end ≡ Done) ⊎ ((end ≡ Limit) ⊎ (end ≡ NoMemory))
