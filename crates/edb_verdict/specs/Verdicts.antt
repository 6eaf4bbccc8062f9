-- What a text is: a module without faults, or one that is refused for its first fault.

use Rattle.std.specs.Prelude.{◌≡◌, ℕ, List, []}
use Rattle.edb_scan.specs.declared.lexeme.Placed.{Placed}
use Rattle.edb_scan.specs.Parting.{AreTokens, IsFault}
use Rattle.edb_syntax.specs.Syntax.{ModuleTree}
use Rattle.edb_grammar.specs.Files.{ReadsFile}
use Rattle.edb_grammar.specs.Faults as forms
use Rattle.edb_check.specs.Faults.{IsFirst}
use Rattle.edb_check.specs.Modules.{module_faults}
use Rattle.edb_verdict.specs.declared.fault.ModuleFault.{ModuleFault}
use Rattle.edb_verdict.specs.declared.fault.ModuleFault.TheVariants.{Scan, Form, Check, NotYet}

-- the text is this module by the grammar
abbrev pub IsModule : List ℕ → ModuleTree → Type 0
IsModule text m = (tokens : List Placed) × AreTokens text tokens × ReadsFile tokens m

-- the text is this module, and the module has no fault
abbrev pub IsAccepted : List ℕ → ModuleTree → Type 0
IsAccepted text m = IsModule text m × (module_faults m ≡ [])

-- the text has no tokens; or a form among its tokens is none; or it is a module with this fault before all others
abbrev pub HasFault : List ℕ → ModuleFault → Type 0
HasFault text (Scan fault) = IsFault text fault.at
HasFault text (Form fault) = (tokens : List Placed) × AreTokens text tokens × forms.IsFault tokens fault.form fault.line
HasFault text (Check fault) = (m : ModuleTree) × IsModule text m × IsFirst fault (module_faults m)
HasFault text NotYet = ⊥
