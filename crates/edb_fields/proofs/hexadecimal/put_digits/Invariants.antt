use Rattle.std.proofs.Common.{◌≡◌, ◌++◌, drop}
use Rattle.std.specs.List.{flat_map}
use Rattle.edb_fields.specs.Hexadecimal.{byte_digits}
use Rattle.edb_fields.proofs.hexadecimal.put_digits.Given as goal

-- what was put and what is left are all
abbrev pub invariant-loop-byte : goal.invariant-loop-byte
invariant-loop-byte l = l.out.items ++ flat_map byte_digits (drop l.byte-index l.bytes) ≡ l.fn.out.items ++ flat_map byte_digits l.bytes
