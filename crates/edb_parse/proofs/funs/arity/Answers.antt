use Rattle.std.proofs.Common.{◌∙◌, ap, length}
use Rattle.edb_grammar.specs.ExpressionReading.{clause_arity}
use Rattle.edb_parse.proofs.Gathering.{pats_counted}
use Rattle.edb_parse.proofs.funs.arity.Goals as goal

pub returns : goal.returns
returns c = ap length c.as_slice.ensures.value ∙ (pats_counted c.clause.inside.patterns.items ∙ ap clause_arity c.clause.view_is)
