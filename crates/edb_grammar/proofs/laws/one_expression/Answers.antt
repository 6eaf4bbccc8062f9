use Rattle.edb_grammar.proofs.ExpressionComplete.{one_expression_tree}
use Rattle.edb_grammar.proofs.laws.one_expression.Goals as goal

pub returns : goal.returns
returns c m j k ts d e r s = one_expression_tree r s
