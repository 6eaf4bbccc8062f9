-- How the tool ends: the cause of each end, what it read, and what it wrote.

use Rattle.std.specs.Prelude.{◌≡◌, ℕ, ◌⊎◌, Bool, true, List, [], ◌∷◌, ◌++◌, Option, None, Some, IsSomeAnd, codes}
use Rattle.std.specs.List.{flat_map}
use Rattle.edb_io.specs.OneRead.{Read}
use Rattle.edb_io.specs.Faults.{Rose}
use Rattle.edb_io.specs.Writes.{Appended, AppendedPart}
use Rattle.edb_syntax.specs.Syntax.{ModuleTree}
use Rattle.edb_gen.specs.Generated.{module_text, script_text}
use Rattle.edb_print.specs.Layout.{text_of}
use Rattle.edb_verdict.specs.FaultLines.{fault_line}
use Rattle.edb_verdict.specs.Verdicts.{IsAccepted}
use Rattle.edb_files.specs.InOrder.{Asked, AreRead, FailsAt, ReadsUp, name_at}
use Rattle.edb_files.specs.Lines.{IsKeptOrSet, IsLineWritten}
use Rattle.edb_tools.specs.declared.ending.ToolEnd.{ToolEnd}
use Rattle.edb_tools.specs.declared.ending.ToolEnd.TheVariants.{Done, Words, FileFault, ModuleRefused, WriteFault, NoMemory}
use Rattle.edb_tools.specs.declared.words.Tool.{Tool}
use Rattle.edb_tools.specs.declared.words.Tool.TheVariants.{Check, Format, Generate}
use Rattle.edb_tools.specs.Requests.{Request}
use Rattle.edb_tools.specs.Verdicts.{AreAccepted, Accepts, FirstFault, Refuses}

-- The cause of an end, by the request, the lists of reads and the counts of the files' faults.
abbrev pub HasCause : Option Request → List Read → List Read → ℕ → ℕ → ToolEnd → Type 0
HasCause request old new before now Done = IsSomeAnd request (λ r. Accepts r.files old new)
HasCause request old new before now Words = request ≡ None
HasCause request old new before now (FileFault k) = Rose before now × IsSomeAnd request (λ r. FailsAt r.files old new k)
HasCause request old new before now (ModuleRefused k fault) = IsSomeAnd request (λ r. Refuses r.files old new k fault)
HasCause request old new before now WriteFault = IsSomeAnd request (λ r. Accepts r.files old new)
HasCause request old new before now NoMemory = Unit {0}

-- all files were read
abbrev pub AllRead : List Asked → List Read → List Read → Type 0
AllRead files old new = (texts : List (List ℕ)) × AreRead files old new texts

-- the files of a request were read up to some place; without a request, none was
abbrev pub ReadsSome : Option Request → List Read → List Read → Type 0
ReadsSome None old new = new ≡ old
ReadsSome (Some r) old new = ReadsUp r.files old new

-- How the list of reads grew.
abbrev pub HasReads : Option Request → List Read → List Read → ToolEnd → Type 0
HasReads request old new Done = IsSomeAnd request (λ r. AllRead r.files old new)
HasReads request old new Words = new ≡ old
HasReads request old new (FileFault k) = IsSomeAnd request (λ r. FailsAt r.files old new k)
HasReads request old new (ModuleRefused k fault) = IsSomeAnd request (λ r. AllRead r.files old new)
HasReads request old new WriteFault = IsSomeAnd request (λ r. AllRead r.files old new)
HasReads request old new NoMemory = ReadsSome request old new

-- the line of an accepted file
abbrev pub ok_line : List ℕ → List ℕ
ok_line name = name ++ codes ": ok\n"

-- pieces, one after another
abbrev pub joined : List (List ℕ) → List ℕ
joined pieces = flat_map (λ piece. piece) pieces

-- the text is a module without faults, and this is the text of its layout
pub record HasLayout (text out : List ℕ) : Type 0 where
  pub tree : ModuleTree
  pub accepted : IsAccepted text tree
  pub laid : out ≡ text_of tree

-- the generated module, a line, and the script of a run with so many workers
abbrev pub generated_text : ℕ → List ℕ
generated_text workers = (module_text ++ codes "%% script\n") ++ script_text workers

-- What a command writes of its files' texts: `check` the line of each file, `fmt` the layout of the one file's module, and
-- `gen` what is generated.
abbrev pub Prints : Tool → List Asked → List (List ℕ) → List ℕ → Type 0
Prints Check files texts out = out ≡ flat_map (λ file. ok_line file.name) files
Prints Format files texts out = (text : List ℕ) × (texts ≡ text ∷ []) × HasLayout text out
Prints (Generate workers) files texts out = out ≡ generated_text workers

-- all files were read and accepted, and this is what the command writes of them
pub record IsOutput (request : Request) (old new : List Read) (out : List ℕ) : Type 0 where
  pub texts : List (List ℕ)
  pub read : AreRead request.files old new texts
  pub accepted : AreAccepted texts
  pub prints : Prints request.command request.files texts out

-- the line of a refusal, the end's file having this name
abbrev pub refusal_line : List ℕ → ToolEnd → List ℕ
refusal_line name Done = []
refusal_line name Words = codes "edbtool: words\n"
refusal_line name (FileFault k) = (codes "edbtool: cannot read " ++ name) ++ codes "\n"
refusal_line name (ModuleRefused k fault) = fault_line name fault
refusal_line name WriteFault = []
refusal_line name NoMemory = []

-- the files of a request
abbrev pub files_of : Option Request → List Asked
files_of None = []
files_of (Some r) = r.files

-- the place of the file of an end, which is the first if it is about none
abbrev pub file_of : ToolEnd → ℕ
file_of Done = 0
file_of Words = 0
file_of (FileFault k) = k
file_of (ModuleRefused k fault) = k
file_of WriteFault = 0
file_of NoMemory = 0

-- the name of that file
abbrev pub name_in : Option Request → ToolEnd → List ℕ
name_in request end = name_at (files_of request) (file_of end)

-- all of what Done writes was written, by the lists of reads and by what the sink had and has
abbrev pub WritesAll : Option Request → List Read → List Read → Option (List ℕ) → Option (List ℕ) → Type 0
WritesAll request reads_old reads_new old new = IsSomeAnd request (λ r. (out : List ℕ) × IsOutput r reads_old reads_new out × Appended old new out)

-- a part of it
abbrev pub WritesPart : Option Request → List Read → List Read → Option (List ℕ) → Option (List ℕ) → Type 0
WritesPart request reads_old reads_new old new = IsSomeAnd request (λ r. (out : List ℕ) × IsOutput r reads_old reads_new out × AppendedPart old new out)

-- What was written, by the lists of reads, by what the sink had and has, by the counts of its faults and by its flag.
abbrev pub IsWritten : Option Request → List Read → List Read → Option (List ℕ) → Option (List ℕ) → ℕ → ℕ → Bool → Bool → ToolEnd → Type 0
IsWritten request reads_old reads_new old new before now was is Done = WritesAll request reads_old reads_new old new
IsWritten request reads_old reads_new old new before now was is Words = IsLineWritten (refusal_line (name_in request Words) Words) old new before now was is
IsWritten request reads_old reads_new old new before now was is (FileFault k) =
    IsLineWritten (refusal_line (name_in request (FileFault k)) (FileFault k)) old new before now was is
IsWritten request reads_old reads_new old new before now was is (ModuleRefused k fault) =
    IsLineWritten (refusal_line (name_in request (ModuleRefused k fault)) (ModuleRefused k fault)) old new before now was is
IsWritten request reads_old reads_new old new before now was is WriteFault = WritesPart request reads_old reads_new old new × Rose before now
IsWritten request reads_old reads_new old new before now was is NoMemory = Appended old new [] ⊎ WritesPart request reads_old reads_new old new

-- The sink's flag.
abbrev pub KeepsFlag : Bool → Bool → ToolEnd → Type 0
KeepsFlag was is Done = is ≡ was
KeepsFlag was is Words = IsKeptOrSet was is
KeepsFlag was is (FileFault k) = IsKeptOrSet was is
KeepsFlag was is (ModuleRefused k fault) = IsKeptOrSet was is
KeepsFlag was is WriteFault = is ≡ true
KeepsFlag was is NoMemory = IsKeptOrSet was is

-- The program's status.
abbrev pub status_of : ToolEnd → ℕ
status_of Done = 0
status_of Words = 2
status_of (FileFault k) = 3
status_of (ModuleRefused k fault) = 4
status_of WriteFault = 7
status_of NoMemory = 8

-- an end that comes before anything of what Done writes is written
abbrev pub IsEarly : ToolEnd → Type 0
IsEarly Done = ⊥
IsEarly Words = Unit {0}
IsEarly (FileFault k) = Unit {0}
IsEarly (ModuleRefused k fault) = Unit {0}
IsEarly WriteFault = ⊥
IsEarly NoMemory = Unit {0}

-- the first of these texts with a fault is refused so, or it is out of memory
abbrev pub IsVerdict : List (List ℕ) → ToolEnd → Type 0
IsVerdict texts Done = ⊥
IsVerdict texts Words = ⊥
IsVerdict texts (FileFault k) = ⊥
IsVerdict texts (ModuleRefused k fault) = FirstFault texts k fault
IsVerdict texts WriteFault = ⊥
IsVerdict texts NoMemory = Unit {0}
