-- Requests of the code, as contracts see them.

use Rattle.std.specs.Prelude.{◌≡◌, ℕ, ◌≤◌, ◌<◌, ◌^◌, length, map}
use Rattle.edb_files.specs.Asking.{asked_of}
use Rattle.edb_tools.specs.declared.words.AskedFor.{AskedFor}
use Rattle.edb_tools.specs.declared.words.Tool.{Tool}
use Rattle.edb_tools.specs.declared.words.Tool.TheVariants.{Check, Format, Generate}
use Rattle.edb_tools.specs.Requests.{Request}

-- the request that it is
abbrev pub seen : AskedFor → Request
seen asked = record { command = asked.command; files = map asked_of asked.files.items }

-- a command takes so many files, and a generated run has 1 to 200 workers
abbrev pub Takes : Tool → ℕ → Type 0
Takes Check count = Unit {0}
Takes Format count = count ≡ 1
Takes (Generate workers) count = (count ≡ 0) × (1 ≤ workers) × (workers ≤ 200)

-- the command takes its files, and each has a number below 2^32
abbrev pub IsAsked : AskedFor → Type 0
IsAsked asked = (length asked.files.items < 2 ^ 32) × Takes asked.command (length asked.files.items)
