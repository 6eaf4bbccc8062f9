use Rattle.edb_grammar.proofs.LiteralComplete as literals
use Rattle.edb_grammar.proofs.laws.one_literal.Goals as goal

pub returns : goal.returns
returns c = literals.one_literal
