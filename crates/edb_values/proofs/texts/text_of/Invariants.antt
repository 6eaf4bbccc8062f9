use Rattle.std.proofs.Common.{◌≡◌, ◌++◌, drop, string_bytes, encode_utf8_all}
use Rattle.edb_values.proofs.texts.text_of.Given as goal

-- what was put and what is left are all
abbrev pub invariant-loop-c : goal.invariant-loop-c
invariant-loop-c l = string_bytes l.text ++ encode_utf8_all (drop l.c-index l.points) ≡ encode_utf8_all l.points
