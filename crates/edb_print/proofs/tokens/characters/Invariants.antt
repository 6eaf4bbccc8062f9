use Rattle.std.proofs.Common.{◌≡◌, ◌++◌, drop, map, string_bytes, encode_utf8_all}
use Rattle.edb_print.specs.Pieces.{shown}
use Rattle.edb_print.proofs.tokens.characters.Given as goal

-- what was put and what is left are all
abbrev pub invariant-loop-point : goal.invariant-loop-point
invariant-loop-point l =
    string_bytes l.text ++ encode_utf8_all (map shown (drop l.point-index l.points)) ≡ encode_utf8_all (map shown l.points)
