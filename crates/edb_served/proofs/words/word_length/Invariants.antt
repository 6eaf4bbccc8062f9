use Rattle.std.proofs.Common.{◌≡◌, ◌+◌, length}
use Rattle.edb_served.specs.Words as spec
use Rattle.edb_served.proofs.words.word_length.Given as goal

-- what was counted and what is left are all
abbrev pub invariant-loop-byte : goal.invariant-loop-byte
invariant-loop-byte l = record {
  counted : l.length + spec.word_length l.rest ≡ spec.word_length l.fn.bytes;
  bound : l.length + length l.rest ≡ length l.fn.bytes;
}

abbrev pub decreases-loop-byte : goal.decreases-loop-byte
decreases-loop-byte l = length l.rest
