use Rattle.std.proofs.Common.{◌∙◌}
use Rattle.edb_parse.proofs.FormTies.{last_of}
use Rattle.edb_parse.proofs.attributes.ends_in_dot.Goals as goal

pub returns-in-Some : goal.returns-in-Some
returns-in-Some c =
    c.is_dot.ensures ∙ last_of c.args.tokens.funs c.args.tokens.tokens.now c.in-Some.field-0-1.now c.in-Some.placed.now c.in-Some.ensures.cases.0
