-- What is told of a `MemSink` beyond what every implementation of `Sink` tells.
use Rattle.std.specs.Prelude.{ℕ, List}
use Rattle.std.specs.List.{Contains}
use Rattle.edb_io.specs.Calls.{next_call}
use Rattle.edb_io.specs.declared.mem_sink.MemSink.{MemSink}

-- The numbers of the writes that are to fail.
abbrev pub failing_writes : MemSink → List ℕ
failing_writes sink = sink.failing.items

-- How many writes there were, without those of no bytes.
abbrev pub write_count : MemSink → ℕ
write_count sink = sink.calls

-- The next write of some bytes is one that is to fail.
abbrev pub IsToFail : MemSink → Type 0
IsToFail sink = Contains (failing_writes sink) (next_call (write_count sink))
