use Rattle.std.proofs.Common.{◌≡◌}
use Rattle.edb_format.specs.Formats.{utf8_of, behind}
use Rattle.edb_format.proofs.strings.put_string.Given as goal

-- what was put and what is left are all
abbrev pub invariant-loop-rest : goal.invariant-loop-rest
invariant-loop-rest l = behind l.out.items (utf8_of l.rest) ≡ behind l.fn.out.items (utf8_of l.string)
