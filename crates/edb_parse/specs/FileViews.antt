-- What the answers of the code's functions on files say.

use Rattle.std.specs.Prelude.{◌≡◌, ℕ, List, Some, Result, Ok, Err}
use Rattle.edb_scan.specs.declared.lexeme.Placed.{Placed}
use Rattle.edb_syntax.specs.Syntax.{ModuleTree}
use Rattle.edb_grammar.specs.Toks.{places}
use Rattle.edb_grammar.specs.Forms.{names}
use Rattle.edb_grammar.specs.FormReading.{read_form}
use Rattle.edb_grammar.specs.FileReading.{Verdict, accepted, refused, behind_form, behind_first}
use Rattle.edb_parse.specs.declared.files.NoModule.{NoModule}
use Rattle.edb_parse.specs.declared.files.NoModule.TheVariants.{Memory, Fault}

-- the module or the fault; for want of memory nothing is said
abbrev pub GivesModule : Result ModuleTree NoModule → Verdict → Type 0
GivesModule (Ok m) verdict = verdict ≡ accepted m
GivesModule (Err Memory) verdict = Unit {0}
GivesModule (Err (Fault f)) verdict = verdict ≡ refused f.form f.line

-- the first form names the module, with its line; or the file has its fault there, whatever stands behind
abbrev pub GivesFirst : Result (ℕ × List ℕ) NoModule → List Placed → Type 0
GivesFirst (Ok x) form = read_form (places 0 form) ≡ Some (names x.0 x.1)
GivesFirst (Err Memory) form = Unit {0}
GivesFirst (Err (Fault f)) form = (forms : List (List Placed)) → behind_first form forms (read_form (places 0 form)) ≡ refused f.form f.line

-- The n-th form makes of a module `new`, and reading goes on with the count of `fun`s that is answered; or the file has
-- its fault there.
abbrev pub GoesOn : Result ℕ NoModule → ℕ → ℕ → List Placed → ModuleTree → ModuleTree → Type 0
GoesOn (Ok k) n funs form old new =
    (further : ℕ → ModuleTree → Verdict) → behind_form n funs old form further (read_form (places funs form)) ≡ further k new
GoesOn (Err Memory) n funs form old new = Unit {0}
GoesOn (Err (Fault f)) n funs form old new =
    (further : ℕ → ModuleTree → Verdict) → behind_form n funs old form further (read_form (places funs form)) ≡ refused f.form f.line
