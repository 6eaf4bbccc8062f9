use Rattle.std.proofs.Common.{◌≡◌}
use Rattle.edb_format.specs.Formats.{format_text_of, behind}
use Rattle.edb_lang.specs.Terms.{size}
use Rattle.edb_format.proofs.formats.put_format.Given as goal

-- what was put and what is left are all
abbrev pub invariant-loop-rest : goal.invariant-loop-rest
invariant-loop-rest l = behind l.out.items (format_text_of l.rest l.left) ≡ behind l.fn.out.items (format_text_of l.format l.args)

abbrev pub decreases-loop-rest : goal.decreases-loop-rest
decreases-loop-rest l = size l.rest
