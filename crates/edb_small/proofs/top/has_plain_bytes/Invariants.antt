use Rattle.std.proofs.Common.{◌≡◌, drop}
use Rattle.edb_small.specs.SmallModule.{is_plain}
use Rattle.edb_small.proofs.top.has_plain_bytes.Given as goal

-- the bytes that are left are plain where all are
abbrev pub invariant-loop-byte : goal.invariant-loop-byte
invariant-loop-byte l = is_plain (drop l.byte-index l.bytes) ≡ is_plain l.bytes
