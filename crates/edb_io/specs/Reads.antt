-- The list of the reads of files.
use Rattle.std.specs.Prelude.{◌≡◌, ℕ, List, [], ◌∷◌, ◌++◌, Some, None, Ok, Err}
use Rattle.std.specs.declared.option.Option.{Option}
use Rattle.std.specs.declared.result.Result.{Result}
use Rattle.edb_io.specs.OneRead.{Read}
use Rattle.edb_io.specs.declared.reading.ReadFault.{ReadFault}
use Rattle.edb_io.specs.declared.reading.ReadFault.TheVariants.{Failed, NoMemory}

-- The entry of one read: the name, the most bytes that were asked for, and the bytes that were answered, or none.
abbrev pub file_read : List ℕ → ℕ → Option (List ℕ) → Read
file_read name most bytes = record { name = name; most = most; bytes = bytes }

-- A read that answers bytes or Failed is put at the end of the list; one that answers NoMemory isn't listed.
abbrev pub Lists : List Read → List Read → List ℕ → ℕ → Result (List ℕ) ReadFault → Type 0
Lists old new name most (Ok bytes) = new ≡ old ++ file_read name most (Some bytes) ∷ []
Lists old new name most (Err Failed) = new ≡ old ++ file_read name most None ∷ []
Lists old new name most (Err NoMemory) = new ≡ old
