-- What a session reads: a script, and then FILEs that are modules.

use Rattle.std.specs.Prelude.{◌≡◌, ℕ, zero, suc, List, [], ◌∷◌, map, Option, None, Some}
use Rattle.edb_lang.specs.Syntax.{ModuleTree}
use Rattle.edb_io.specs.OneRead.{Read}
use Rattle.edb_files.specs.InOrder.{Asked, AreRead, ReadsUp, text_file}
use Rattle.edb_small.specs.SmallModule.{IsModule}
use Rattle.edb_syntax.specs.Syntax as syntax
use Rattle.edb_verdict.specs.Verdicts as verdicts
use Rattle.edb_verdict.specs.Verdicts.{HasFault}
use Rattle.edb_verdict.specs.declared.fault.ModuleFault.{ModuleFault}
use Rattle.edb_verdict.specs.declared.fault.ModuleFault.TheVariants.{Scan, Form, Check, NotYet}
use Rattle.edb_cmds.specs.Listing.{IsScriptOf, IsScriptFault}
use Rattle.edb_event.specs.Books.{commands_of}
use Rattle.edb_options.specs.Options.{Wanted}
use Rattle.edb_rules.specs.Plans.{Plan}
use Rattle.edb_session.specs.Runs.{plan_with}

-- the files that are read: the script first, and then the FILEs
abbrev pub files_of : Wanted → List Asked
files_of w = map text_file w.names

-- the text is no module
abbrev pub IsNoModule : List ℕ → Type 0
IsNoModule text = (m : ModuleTree) → IsModule text m → ⊥

-- each text is a module, in order
abbrev pub AreModules : List (List ℕ) → List ModuleTree → Type 0
AreModules [] [] = Unit {0}
AreModules (text ∷ texts) (m ∷ ms) = IsModule text m × AreModules texts ms
AreModules [] (m ∷ ms) = ⊥
AreModules (text ∷ texts) [] = ⊥

-- The fault of a text: the first one that it has as a text of the whole language; where it has none, the debugger doesn't run
-- such a module yet.
abbrev pub IsFaultOf : List ℕ → ModuleFault → Type 0
IsFaultOf text NotYet = (m : syntax.ModuleTree) × verdicts.IsAccepted text m
IsFaultOf text (Scan f) = HasFault text (Scan f)
IsFaultOf text (Form f) = HasFault text (Form f)
IsFaultOf text (Check f) = HasFault text (Check f)

-- text k, counted from 0, is no module and has this fault, and each before it is one
abbrev pub IsFirstRefused : List (List ℕ) → ℕ → ModuleFault → Type 0
IsFirstRefused [] k fault = ⊥
IsFirstRefused (text ∷ texts) zero fault = IsNoModule text × IsFaultOf text fault
IsFirstRefused (text ∷ texts) (suc k) fault = ((m : ModuleTree) × IsModule text m) × IsFirstRefused texts k fault

-- file k, counted from the script, which is 0, is the first FILE that is no module, and has this fault
abbrev pub IsModuleRefused : List (List ℕ) → ℕ → ModuleFault → Type 0
IsModuleRefused texts zero fault = ⊥
IsModuleRefused texts (suc k) fault = IsFirstRefused texts k fault

-- all was read, and file k is the first FILE that is no module, for this fault
pub record RefusesModule (w : Wanted) (old new : List Read) (k : ℕ) (fault : ModuleFault) : Type 0 where
  pub script : List ℕ
  pub texts : List (List ℕ)
  pub read : AreRead (files_of w) old new (script ∷ texts)
  pub refused : IsModuleRefused texts k fault

-- all was read, the FILEs are modules, and the script is bad at this line
pub record RefusesScript (w : Wanted) (old new : List Read) (line : ℕ) : Type 0 where
  pub script : List ℕ
  pub texts : List (List ℕ)
  pub read : AreRead (files_of w) old new (script ∷ texts)
  pub trees : List ModuleTree
  pub are_modules : AreModules texts trees
  pub refused : IsScriptFault script line

-- all was read, the FILEs are modules and the script is one, and this is the plan of both under the options
pub record IsAccepted (w : Wanted) (old new : List Read) (plan : Plan) : Type 0 where
  pub script : List ℕ
  pub texts : List (List ℕ)
  pub read : AreRead (files_of w) old new (script ∷ texts)
  pub trees : List ModuleTree
  pub are_modules : AreModules texts trees
  pub is_script : IsScriptOf script (commands_of 1 plan.commands)
  pub is_plan : plan ≡ plan_with w.options trees (commands_of 1 plan.commands)

-- the files were read in order, up to one whose read failed or up to any place; without names, none was
abbrev pub ReadsSome : Option Wanted → List Read → List Read → Type 0
ReadsSome None old new = new ≡ old
ReadsSome (Some w) old new = ReadsUp (files_of w) old new
