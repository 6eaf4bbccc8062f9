-- Files that the code asks for, and why they weren't all read.

use Rattle.std.specs.Prelude.{ℕ, List}
use Rattle.edb_io.specs.OneRead.{Read}
use Rattle.edb_io.specs.Faults.{Rose}
use Rattle.edb_files.specs.InOrder.{Asked, FailsAt, StopsAfter}
use Rattle.edb_files.specs.declared.reading.AskedFile.{AskedFile}
use Rattle.edb_files.specs.declared.reading.ReadsFault.{ReadsFault}
use Rattle.edb_files.specs.declared.reading.ReadsFault.TheVariants.{Failed, NoMemory}

-- a file that the code asks for
abbrev pub asked_of : AskedFile → Asked
asked_of file = record { name = file.name.now; most = file.most }

-- A read failed, and the count of the files' faults rose; or some were read before it was out of memory.
abbrev pub StopsBy : List Asked → List Read → List Read → ℕ → ℕ → ReadsFault → Type 0
StopsBy files old new before now (Failed k) = Rose before now × FailsAt files old new k
StopsBy files old new before now NoMemory = StopsAfter files old new
