use Rattle.std.proofs.Common.{◌≡◌, ◌<◌, ◌^◌, drop}
use Rattle.edb_scan.specs.Numerals.{number, number_after}
use Rattle.edb_scan.proofs.numerals.number.Given as goal

abbrev pub invariant-loop-byte : goal.invariant-loop-byte
invariant-loop-byte l = record {
  so_far : number l.base l.text ≡ number_after l.base l.number (drop l.byte-index l.text);
  below : l.number < 2 ^ 127;
}
