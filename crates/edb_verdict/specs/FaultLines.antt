-- The line that a fault is told by.

use Rattle.std.specs.Prelude.{ℕ, List, ◌++◌, codes}
use Rattle.std.specs.Fmt.{decimal}
use Rattle.edb_check.specs.declared.fault.CheckKind.{CheckKind}
use Rattle.edb_check.specs.declared.fault.CheckKind.TheVariants as kind
use Rattle.edb_verdict.specs.declared.fault.ModuleFault.{ModuleFault}
use Rattle.edb_verdict.specs.declared.fault.ModuleFault.TheVariants as fault

-- the words of the kinds of faults
abbrev pub kind_text : CheckKind → List ℕ
kind_text kind.Unbound = codes "unbound"
kind_text kind.Unsafe = codes "unsafe"
kind_text kind.Sibling = codes "sibling"
kind_text kind.Float = codes "float"
kind_text kind.Undefined = codes "undefined"
kind_text kind.Duplicate = codes "duplicate"
kind_text kind.NotExported = codes "not_exported"
kind_text kind.BadGuard = codes "bad_guard"

-- the line of a fault of the file with this name
abbrev pub fault_line : List ℕ → ModuleFault → List ℕ
fault_line name (fault.Scan f) = ((name ++ codes ": scan fault at byte ") ++ decimal f.at) ++ codes "\n"
fault_line name (fault.Form f) = ((((name ++ codes ": form ") ++ decimal f.form) ++ codes " line ") ++ decimal f.line) ++ codes "\n"
fault_line name (fault.Check f) = ((((name ++ codes ": line ") ++ decimal f.line) ++ codes " ") ++ kind_text f.kind) ++ codes "\n"
fault_line name fault.NotYet = name ++ codes ": not yet\n"
