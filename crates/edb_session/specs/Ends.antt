-- How a session ends: the cause of each end, what it leaves, and what it wrote.

use Rattle.std.specs.Prelude.{◌≡◌, ℕ, ◌⊎◌, Bool, true, List, [], ◌++◌, Option, None, Some, IsSomeAnd, codes, slice_index_or}
use Rattle.std.specs.Fmt.{decimal}
use Rattle.edb_cmds.specs.Listing.{IsScriptFault}
use Rattle.edb_lang.specs.Syntax.{ModuleTree}
use Rattle.edb_io.specs.OneRead.{Read}
use Rattle.edb_io.specs.Faults.{Rose}
use Rattle.edb_io.specs.Writes.{Appended, AppendedPart}
use Rattle.edb_model.specs.declared.tables.Tables.{Tables}
use Rattle.edb_model.specs.Plain.{no_tables}
use Rattle.edb_session.specs.declared.ending.End.{End}
use Rattle.edb_session.specs.declared.ending.End.TheVariants.{Done, Words, FileFault, ModuleRefused, ScriptRefused, Limit, WriteFault, NoMemory}
use Rattle.edb_verdict.specs.FaultLines.{fault_line}
use Rattle.edb_event.specs.declared.entry.Entry.{Entry}
use Rattle.edb_files.specs.InOrder.{FailsAt}
use Rattle.edb_files.specs.Lines.{IsKeptOrSet, IsLineWritten}
use Rattle.edb_rules.specs.Plans.{Plan}
use Rattle.edb_rules.specs.Facts.{Facts}
use Rattle.edb_rules.specs.Notes.{facts}
use Rattle.edb_rules.specs.Legal.{IsDone, IsLimit, IsOver}
use Rattle.edb_session.specs.Runs.{IsRun}
use Rattle.edb_options.specs.Options.{Wanted}
use Rattle.edb_session.specs.Reading.{files_of, AreModules, IsFaultOf, IsModuleRefused, RefusesModule, RefusesScript, IsAccepted}
use Rattle.edb_session.specs.Texts.{rendering}

-- The cause of an end, by what the words want, the lists of reads and the counts of the files' faults.
abbrev pub HasCause : Option Wanted → List Read → List Read → ℕ → ℕ → End → Type 0
HasCause wanted old new before now Done = Unit {0}
HasCause wanted old new before now Words = (wanted ≡ None) × (new ≡ old)
HasCause wanted old new before now (FileFault k) = Rose before now × IsSomeAnd wanted (λ w. FailsAt (files_of w) old new k)
HasCause wanted old new before now (ModuleRefused k fault) = IsSomeAnd wanted (λ w. RefusesModule w old new k fault)
HasCause wanted old new before now (ScriptRefused line) = IsSomeAnd wanted (λ w. RefusesScript w old new line)
HasCause wanted old new before now Limit = Unit {0}
HasCause wanted old new before now WriteFault = Unit {0}
HasCause wanted old new before now NoMemory = Unit {0}

-- What a session that ran leaves: the run of the plan that was read, over for this cause.
pub record HasRun (IsCause : Plan → Facts → Type 0) (wanted : Option Wanted) (old new : List Read) (journal : List Entry) (left : Tables) : Type 0 where
  pub plan : Plan
  pub accepted : IsSomeAnd wanted (λ w. IsAccepted w old new plan)
  pub run : IsRun plan journal left
  pub over : IsCause plan (facts plan journal)

-- nothing was run
abbrev pub IsEmpty : List Entry → Tables → Type 0
IsEmpty journal left = (journal ≡ []) × (left ≡ no_tables)

-- The journal and the tables at an end.
abbrev pub Leaves : Option Wanted → List Read → List Read → List Entry → Tables → End → Type 0
Leaves wanted old new journal left Done = HasRun IsDone wanted old new journal left
Leaves wanted old new journal left Words = IsEmpty journal left
Leaves wanted old new journal left (FileFault k) = IsEmpty journal left
Leaves wanted old new journal left (ModuleRefused k fault) = IsEmpty journal left
Leaves wanted old new journal left (ScriptRefused line) = IsEmpty journal left
Leaves wanted old new journal left Limit = HasRun IsLimit wanted old new journal left
Leaves wanted old new journal left WriteFault = HasRun IsOver wanted old new journal left
Leaves wanted old new journal left NoMemory = IsEmpty journal left ⊎ HasRun IsOver wanted old new journal left

-- the names that the words give: none where they are refused
abbrev pub names_in : Option Wanted → List (List ℕ)
names_in None = []
names_in (Some w) = w.names

-- the name of file k, counted from the script
abbrev pub name_at : List (List ℕ) → ℕ → List ℕ
name_at names k = slice_index_or names k []

-- The line of a refusal.
abbrev pub refusal_line : List (List ℕ) → End → List ℕ
refusal_line names Words = codes "edb: words\n"
refusal_line names (FileFault k) = (codes "edb: cannot read " ++ name_at names k) ++ codes "\n"
refusal_line names (ModuleRefused k fault) = fault_line (name_at names k) fault
refusal_line names (ScriptRefused line) = ((name_at names 0 ++ codes ": line ") ++ decimal line) ++ codes "\n"
refusal_line names Done = []
refusal_line names Limit = []
refusal_line names WriteFault = []
refusal_line names NoMemory = []

-- What was written, by what the sink had and has, by the counts of its faults and by its flag.
abbrev pub IsWritten : Option Wanted → List Entry → Option (List ℕ) → Option (List ℕ) → ℕ → ℕ → Bool → Bool → End → Type 0
IsWritten wanted journal old new before now was is Done = Appended old new (rendering wanted journal)
IsWritten wanted journal old new before now was is Words = IsLineWritten (refusal_line (names_in wanted) Words) old new before now was is
IsWritten wanted journal old new before now was is (FileFault k) = IsLineWritten (refusal_line (names_in wanted) (FileFault k)) old new before now was is
IsWritten wanted journal old new before now was is (ModuleRefused k fault) = IsLineWritten (refusal_line (names_in wanted) (ModuleRefused k fault)) old new before now was is
IsWritten wanted journal old new before now was is (ScriptRefused line) = IsLineWritten (refusal_line (names_in wanted) (ScriptRefused line)) old new before now was is
IsWritten wanted journal old new before now was is Limit = Appended old new (rendering wanted journal)
IsWritten wanted journal old new before now was is WriteFault = AppendedPart old new (rendering wanted journal) × Rose before now
IsWritten wanted journal old new before now was is NoMemory = AppendedPart old new (rendering wanted journal)

-- What a refusal writes: its line, a part of it after a fault, or nothing where it is out of memory.
abbrev pub IsRefusalWritten : List (List ℕ) → Option (List ℕ) → Option (List ℕ) → ℕ → ℕ → Bool → Bool → End → Type 0
IsRefusalWritten names old new before now was is NoMemory = AppendedPart old new []
IsRefusalWritten names old new before now was is end = IsLineWritten (refusal_line names end) old new before now was is

-- The sink's flag: as it was where every write was Ok, and set after a fault.
abbrev pub KeepsFlag : Bool → Bool → End → Type 0
KeepsFlag was is Done = is ≡ was
KeepsFlag was is Words = IsKeptOrSet was is
KeepsFlag was is (FileFault k) = IsKeptOrSet was is
KeepsFlag was is (ModuleRefused k fault) = IsKeptOrSet was is
KeepsFlag was is (ScriptRefused line) = IsKeptOrSet was is
KeepsFlag was is Limit = is ≡ was
KeepsFlag was is WriteFault = is ≡ true
KeepsFlag was is NoMemory = IsKeptOrSet was is

-- The program's status.
abbrev pub status_of : End → ℕ
status_of Done = 0
status_of Words = 2
status_of (FileFault k) = 3
status_of (ModuleRefused k fault) = 4
status_of (ScriptRefused line) = 5
status_of Limit = 6
status_of WriteFault = 7
status_of NoMemory = 8

-- an end at which nothing is run
abbrev pub IsRefusal : End → Type 0
IsRefusal Done = ⊥
IsRefusal Words = Unit {0}
IsRefusal (FileFault k) = Unit {0}
IsRefusal (ModuleRefused k fault) = Unit {0}
IsRefusal (ScriptRefused line) = Unit {0}
IsRefusal Limit = ⊥
IsRefusal WriteFault = ⊥
IsRefusal NoMemory = Unit {0}

-- why a session ends for file k, which has this text and is no module
abbrev pub IsRefusedFor : List ℕ → ℕ → End → Type 0
IsRefusedFor text k (ModuleRefused j fault) = (j ≡ k) × IsFaultOf text fault
IsRefusedFor text k NoMemory = Unit {0}
IsRefusedFor text k _ = ⊥

-- why these texts aren't all modules
abbrev pub RefusesTexts : List (List ℕ) → End → Type 0
RefusesTexts texts (ModuleRefused k fault) = IsModuleRefused texts k fault
RefusesTexts texts NoMemory = Unit {0}
RefusesTexts texts _ = ⊥

-- why these texts aren't all modules, or the script isn't one
abbrev pub RefusesAll : List ℕ → List (List ℕ) → End → Type 0
RefusesAll script texts (ModuleRefused k fault) = IsModuleRefused texts k fault
RefusesAll script texts (ScriptRefused line) = ((trees : List ModuleTree) × AreModules texts trees) × IsScriptFault script line
RefusesAll script texts NoMemory = Unit {0}
RefusesAll script texts _ = ⊥

-- What running a plan leaves, and what it writes.
abbrev pub Performed : Plan → List Entry → Tables → End → Type 0
Performed plan journal left Done = IsRun plan journal left × IsDone plan (facts plan journal)
Performed plan journal left Limit = IsRun plan journal left × IsLimit plan (facts plan journal)
Performed plan journal left WriteFault = IsRun plan journal left × IsOver plan (facts plan journal)
Performed plan journal left NoMemory = IsEmpty journal left ⊎ (IsRun plan journal left × IsOver plan (facts plan journal))
Performed plan journal left _ = ⊥

abbrev pub IsText : List ℕ → Option (List ℕ) → Option (List ℕ) → ℕ → ℕ → End → Type 0
IsText text old new before now Done = Appended old new text
IsText text old new before now Limit = Appended old new text
IsText text old new before now WriteFault = AppendedPart old new text × Rose before now
IsText text old new before now NoMemory = AppendedPart old new text
IsText text old new before now _ = ⊥
