-- The line of a refusal is what was to be written.

use Rattle.std.proofs.Common.{◌≡◌, inl, ℕ, Bool, List, [], Option, None, Some, refl, subst, sym, append-nil, arith}
use Rattle.edb_io.specs.OneRead.{Read}
use Rattle.edb_files.specs.Lines.{IsLineWritten}
use Rattle.edb_files.proofs.LineLaws.{nothing_written}
use Rattle.edb_tools.specs.declared.ending.ToolEnd.{ToolEnd}
use Rattle.edb_tools.specs.declared.ending.ToolEnd.TheVariants.{Done, Words, FileFault, ModuleRefused, WriteFault, NoMemory}
use Rattle.edb_tools.specs.Requests.{Request}
use Rattle.edb_tools.specs.Ends.{IsEarly, IsWritten, ReadsSome, name_in, refusal_line}

pub refused_written : (request : Option Request) (name : List ℕ) (e : ToolEnd) (reads_old reads_new : List Read) (old new : Option (List ℕ)) (before now : ℕ) (was flag : Bool)
    → IsEarly e → name_in request e ≡ name → IsLineWritten (refusal_line name e) old new before now was flag
    → IsWritten request reads_old reads_new old new before now was flag e
refused_written request name Done ro rn old new before now was flag early is w = absurd early
refused_written request name Words ro rn old new before now was flag early is w =
    subst (λ (n : List ℕ). IsLineWritten (refusal_line n Words) old new before now was flag) (sym is) w
refused_written request name (FileFault k) ro rn old new before now was flag early is w =
    subst (λ (n : List ℕ). IsLineWritten (refusal_line n (FileFault k)) old new before now was flag) (sym is) w
refused_written request name (ModuleRefused k fault) ro rn old new before now was flag early is w =
    subst (λ (n : List ℕ). IsLineWritten (refusal_line n (ModuleRefused k fault)) old new before now was flag) (sym is) w
refused_written request name WriteFault ro rn old new before now was flag early is w = absurd early
refused_written request name NoMemory ro rn old new before now was flag early is w = inl (nothing_written old new before now was flag w)

-- what is written for one request is written for the same request
pub written_as : (request other : Option Request) (reads_old reads_new : List Read) (old new : Option (List ℕ)) (before now : ℕ) (was flag : Bool) (e : ToolEnd)
    → request ≡ other → IsWritten request reads_old reads_new old new before now was flag e → IsWritten other reads_old reads_new old new before now was flag e
written_as request other ro rn old new before now was flag e is w = subst (λ (r : Option Request). IsWritten r ro rn old new before now was flag e) is w

-- without a request there is no file
pub no_name : (request : Option Request) → None ≡ request → name_in request Words ≡ []
no_name request is = subst (λ (r : Option Request). name_in r Words ≡ []) is refl

-- where nothing is read, some of the files were read: none
pub read_nothing : (request : Option Request) (old : List Read) → ReadsSome request old old
read_nothing None old = refl
read_nothing (Some r) old = inl (record { texts = []; few = omega arith; listed = sym (append-nil old) })
