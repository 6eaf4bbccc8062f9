use Rattle.std.proofs.Common.{◌≡◌, drop}
use Rattle.std.specs.List.{list_all}
use Rattle.std.specs.Char.{is_ascii_digit}
use Rattle.edb_values.proofs.texts.are_digits.Given as goal

-- all are digits if all of those that are left are
abbrev pub invariant-loop-c : goal.invariant-loop-c
invariant-loop-c l = list_all is_ascii_digit (drop l.c-index l.points) ≡ list_all is_ascii_digit l.points
