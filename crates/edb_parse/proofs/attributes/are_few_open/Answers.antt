use Rattle.std.proofs.Common.{sym, ◌∙◌}
use Rattle.edb_grammar.specs.Forms.{most_brackets}
use Rattle.edb_parse.specs.Cursors.{toks}
use Rattle.edb_parse.proofs.FormTies.{too_many}
use Rattle.edb_parse.proofs.attributes.are_few_open.Goals as goal

pub returns-then-count-gt-MOST_BRACKETS : goal.returns-then-count-gt-MOST_BRACKETS
returns-then-count-gt-MOST_BRACKETS c =
    sym (too_many c.loop-token.count most_brackets _ c.in-Some.token.now (toks c.in-Some.behind) (toks c.loop-token.rest) c.in-Some.ensures.first
    (rw (sym c.open_behind-count.ensures) c.if-count-gt-MOST_BRACKETS.true)) ∙ c.loop-token.invariant.1
