use Rattle.std.proofs.Common.{◌≡◌, drop, fold}
use Rattle.edb_values.specs.Decimals.{further, number}
use Rattle.edb_values.proofs.texts.number_of.Given as goal

-- the digits that are left go on from the number so far
abbrev pub invariant-loop-c : goal.invariant-loop-c
invariant-loop-c l = fold further l.number (drop l.c-index l.digits) ≡ number l.digits
