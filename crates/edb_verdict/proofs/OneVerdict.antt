-- A text has one verdict at most.

use Rattle.std.proofs.Common.{◌≡◌, ℕ, List, ap, subst}
use Rattle.std.specs.Prelude.{Result, Ok, Err, IfOk, MatchResult}
use Rattle.edb_scan.proofs.OneParting.{faults_one, tokens_one, tokens_or_fault}
use Rattle.edb_scan.specs.declared.lexeme.Placed.{Placed}
use Rattle.edb_scan.specs.Parting.{AreTokens}
use Rattle.edb_syntax.specs.Syntax.{ModuleTree}
use Rattle.edb_grammar.specs.Files.{ReadsFile}
use Rattle.edb_grammar.specs.Faults as forms
use Rattle.edb_grammar.proofs.FileComplete.{one_fault, one_module, never_both}
use Rattle.edb_check.proofs.Least.{none_first, one_first}
use Rattle.edb_check.specs.declared.checked.Checked.{Checked}
use Rattle.edb_check.specs.Faults.{IsFirst}
use Rattle.edb_check.specs.Modules.{module_faults}
use Rattle.edb_verdict.specs.declared.fault.ModuleFault.{ModuleFault}
use Rattle.edb_verdict.specs.declared.fault.ModuleFault.TheVariants.{Scan, Form, Check, NotYet}
use Rattle.edb_verdict.specs.Verdicts.{IsModule, IsAccepted, HasFault}

-- a text is one module by the grammar
pub module_one : (text : List ℕ) (m w : ModuleTree) → IsModule text m → IsModule text w → m ≡ w
module_one text m w h i =
    one_module i.0 m w (subst (λ (ts : List Placed). ReadsFile ts m) (tokens_one text h.0 i.0 h.1 i.1) h.2) i.2

pub accepted_one : (text : List ℕ) (m w : ModuleTree) → IsAccepted text m → IsAccepted text w → m ≡ w
accepted_one text m w h i = module_one text m w h.0 i.0

-- a module by the grammar has no fault of its scan or of its forms
module_or_fault : (text : List ℕ) (m : ModuleTree) (k l : ℕ) → IsModule text m
    → ((tokens : List Placed) × AreTokens text tokens × forms.IsFault tokens k l) → ⊥
module_or_fault text m k l h i =
    never_both i.0 m k l (subst (λ (ts : List Placed). ReadsFile ts m) (tokens_one text h.0 i.0 h.1 i.1) h.2) i.2

pub accepted_or_fault : (text : List ℕ) (m : ModuleTree) (fault : ModuleFault) → IsAccepted text m → HasFault text fault → ⊥
accepted_or_fault text m (Scan fault) a h = tokens_or_fault text a.0.0 fault.at a.0.1 h
accepted_or_fault text m (Form fault) a h = module_or_fault text m fault.form fault.line a.0 h
accepted_or_fault text m (Check fault) a h =
    none_first (module_faults m) fault a.1 (subst (λ (w : ModuleTree). IsFirst fault (module_faults w)) (module_one text h.0 m h.1 a.0) h.2)
accepted_or_fault text m NotYet a h = h

-- a text has one fault
pub fault_one : (text : List ℕ) (f g : ModuleFault) → HasFault text f → HasFault text g → f ≡ g
fault_one text (Scan f) (Scan g) h i = ap (λ (at : ℕ). Scan (record { at = at })) (faults_one text f.at g.at h i)
fault_one text (Scan f) (Form g) h i = absurd (tokens_or_fault text i.0 f.at i.1 h)
fault_one text (Scan f) (Check g) h i = absurd (tokens_or_fault text i.1.0 f.at i.1.1 h)
fault_one text (Form f) (Scan g) h i = absurd (tokens_or_fault text h.0 g.at h.1 i)
fault_one text (Form f) (Form g) h i =
    let both = one_fault i.0 f.form f.line g.form g.line (subst (λ (ts : List Placed). forms.IsFault ts f.form f.line) (tokens_one text h.0 i.0 h.1 i.1) h.2) i.2 in
    λ j. Form (record { form = both.0 j; line = both.1 j })
fault_one text (Form f) (Check g) h i = absurd (module_or_fault text i.0 f.form f.line i.1 h)
fault_one text (Check f) (Scan g) h i = absurd (tokens_or_fault text h.1.0 g.at h.1.1 i)
fault_one text (Check f) (Form g) h i = absurd (module_or_fault text h.0 g.form g.line h.1 i)
fault_one text (Check f) (Check g) h i =
    ap Check (one_first (module_faults i.0) f g (subst (λ (w : ModuleTree). IsFirst f (module_faults w)) (module_one text h.0 i.0 h.1 i.1) h.2) i.2)
fault_one text NotYet g h i = absurd h
fault_one text f NotYet h i = absurd i

-- what is answered is the one module, or the one fault, of the text
pub each_module : {E : Type 0} (text : List ℕ) (answer : Result (Result Checked ModuleFault) E)
    → IfOk answer (λ r. MatchResult r (λ c. IsAccepted text c.«module») (λ fault. HasFault text fault))
    → (m : ModuleTree) → IsAccepted text m → IfOk answer (λ r. MatchResult r (λ c. c.«module» ≡ m) (λ _. ⊥))
each_module text (Ok (Ok c)) is m a = accepted_one text c.«module» m is a
each_module text (Ok (Err fault)) is m a = accepted_or_fault text m fault a is
each_module text (Err e) is m a = tt

pub each_fault : {E : Type 0} (text : List ℕ) (answer : Result (Result Checked ModuleFault) E)
    → IfOk answer (λ r. MatchResult r (λ c. IsAccepted text c.«module») (λ fault. HasFault text fault))
    → (fault : ModuleFault) → HasFault text fault → IfOk answer (λ r. MatchResult r (λ _. ⊥) (λ found. found ≡ fault))
each_fault text (Ok (Ok c)) is fault h = accepted_or_fault text c.«module» fault is h
each_fault text (Ok (Err found)) is fault h = fault_one text found fault is h
each_fault text (Err e) is fault h = tt
