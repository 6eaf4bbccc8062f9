-- Why a session is refused, and what it then writes.

use Rattle.std.proofs.Common.{◌≡◌, ◌⊎◌, inl, inr, ℕ, Bool, List, [], ◌∷◌, Option, Some, sym, subst}
use Rattle.edb_io.specs.OneRead.{Read}
use Rattle.edb_files.specs.InOrder.{AreRead}
use Rattle.edb_files.specs.Lines.{IsLineWritten}
use Rattle.edb_files.proofs.LineLaws.{nothing_written, part_of_all}
use Rattle.edb_options.specs.Options.{Wanted}
use Rattle.edb_event.specs.declared.entry.Entry.{Entry}
use Rattle.edb_session.specs.declared.ending.End.{End}
use Rattle.edb_session.specs.declared.ending.End.TheVariants.{Done, Words, FileFault, ModuleRefused, ScriptRefused, Limit, WriteFault, NoMemory}
use Rattle.edb_session.specs.Reading.{files_of}
use Rattle.edb_session.specs.Ends.{HasCause, IsRefusal, IsRefusalWritten, IsWritten, RefusesAll, names_in, refusal_line}
use Rattle.edb_session.specs.Texts.{rendering}
use Rattle.edb_session.proofs.Pieces.{part_of_front}

-- texts that were read and are refused are the cause of the end
pub caused : (w : Wanted) (old new : List Read) (before now : ℕ) (script : List ℕ) (texts : List (List ℕ)) (e : End)
    → AreRead (files_of w) old new (script ∷ texts) → RefusesAll script texts e → HasCause (Some w) old new before now e
caused w old new before now script texts Done read r = tt
caused w old new before now script texts Words read r = absurd r
caused w old new before now script texts (FileFault k) read r = absurd r
caused w old new before now script texts (ModuleRefused k fault) read r = record { script = script; texts = texts; read = read; refused = r }
caused w old new before now script texts (ScriptRefused line) read r =
    record { script = script; texts = texts; read = read; trees = r.0.0; are_modules = r.0.1; refused = r.1 }
caused w old new before now script texts Limit read r = tt
caused w old new before now script texts WriteFault read r = tt
caused w old new before now script texts NoMemory read r = tt

pub refusal_of : (script : List ℕ) (texts : List (List ℕ)) (e : End) → RefusesAll script texts e → IsRefusal e
refusal_of script texts Done r = r
refusal_of script texts Words r = tt
refusal_of script texts (FileFault k) r = tt
refusal_of script texts (ModuleRefused k fault) r = tt
refusal_of script texts (ScriptRefused line) r = tt
refusal_of script texts Limit r = r
refusal_of script texts WriteFault r = r
refusal_of script texts NoMemory r = tt

-- the line of a refusal is what is written
pub line_written : (names : List (List ℕ)) (e : End) (old new : Option (List ℕ)) (before now : ℕ) (was is : Bool) → IsRefusal e
    → IsLineWritten (refusal_line names e) old new before now was is → IsRefusalWritten names old new before now was is e
line_written names Done old new before now was is r w = absurd r
line_written names Words old new before now was is r w = w
line_written names (FileFault k) old new before now was is r w = w
line_written names (ModuleRefused k fault) old new before now was is r w = w
line_written names (ScriptRefused line) old new before now was is r w = w
line_written names Limit old new before now was is r w = absurd r
line_written names WriteFault old new before now was is r w = absurd r
line_written names NoMemory old new before now was is r w = part_of_all old new [] (nothing_written old new before now was is w)

pub refusal_kept : (e f : End) → (e ≡ f) ⊎ (e ≡ NoMemory) → IsRefusal f → IsRefusal e
refusal_kept e f (inl same) r = subst IsRefusal (sym same) r
refusal_kept e f (inr none) r = subst IsRefusal (sym none) tt

-- what a refusal writes is what a session with these words has to write
pub refusal_written : (wanted : Option Wanted) (names : List (List ℕ)) (journal : List Entry) (e : End) (old new : Option (List ℕ)) (before now : ℕ) (was is : Bool)
    → names ≡ names_in wanted → IsRefusal e → IsRefusalWritten names old new before now was is e → IsWritten wanted journal old new before now was is e
refusal_written wanted names journal Done old new before now was is same r w = absurd r
refusal_written wanted names journal Words old new before now was is same r w = w
refusal_written wanted names journal (FileFault k) old new before now was is same r w =
    subst (λ (ns : List (List ℕ)). IsLineWritten (refusal_line ns (FileFault k)) old new before now was is) same w
refusal_written wanted names journal (ModuleRefused k fault) old new before now was is same r w =
    subst (λ (ns : List (List ℕ)). IsLineWritten (refusal_line ns (ModuleRefused k fault)) old new before now was is) same w
refusal_written wanted names journal (ScriptRefused line) old new before now was is same r w =
    subst (λ (ns : List (List ℕ)). IsLineWritten (refusal_line ns (ScriptRefused line)) old new before now was is) same w
refusal_written wanted names journal Limit old new before now was is same r w = absurd r
refusal_written wanted names journal WriteFault old new before now was is same r w = absurd r
refusal_written wanted names journal NoMemory old new before now was is same r w = part_of_front old new [] (rendering wanted journal) w
