-- What is told of a `MemFiles` beyond what every implementation of `Files` tells.
use Rattle.std.specs.Prelude.{ℕ, List}
use Rattle.std.specs.List.{Contains}
use Rattle.edb_io.specs.Calls.{next_call}
use Rattle.edb_io.specs.declared.mem_files.MemFiles.{MemFiles}

-- The numbers of the reads that are to fail.
abbrev pub failing_reads : MemFiles → List ℕ
failing_reads files = files.failing.items

-- How many reads there were.
abbrev pub read_count : MemFiles → ℕ
read_count files = files.calls

-- The next read is one that is to fail.
abbrev pub IsToFail : MemFiles → Type 0
IsToFail files = Contains (failing_reads files) (next_call (read_count files))
