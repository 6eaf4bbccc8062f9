use Rattle.std.proofs.Common.{refl, sym, ◌∙◌}
use Rattle.edb_parse.specs.Cursors.{toks}
use Rattle.edb_parse.proofs.FormTies.{not_ended}
use Rattle.edb_parse.proofs.cursor.Cursor.expect_end.Goals as goal

pub returns-else-is_empty : goal.returns-else-is_empty
returns-else-is_empty c = (
  not_ended _ c.in_ok-token.rest.funs c.in_ok-token.token.now c.in_ok-token.rest.tokens.now (toks c.args.self) c.in_ok-token.ensures.first c.in-Dot.is
      (sym c.is_empty.ensures ∙ c.if-is_empty.false),
  refl,
)
