-- How the clauses of the code begin, as the grammar reads them.

use Rattle.std.specs.Prelude.{ℕ}
use Rattle.edb_syntax.specs.Syntax.{ClauseTree}
use Rattle.edb_grammar.specs.Reading.{Read}
use Rattle.edb_grammar.specs.ExpressionReading.{read_pattern_clause, read_guard_clause, read_parameters_clause}
use Rattle.edb_grammar.specs.FormReading.{read_named_clause}
use Rattle.edb_parse.specs.declared.clauses.Head.{Head}
use Rattle.edb_parse.specs.declared.clauses.Head.TheVariants as head
use Rattle.edb_parse.specs.Descent.{part}

abbrev pub read_headed : ℕ → ℕ → Head → Read ClauseTree
read_headed n m head.Pattern ts = read_pattern_clause n (part n m) ts
read_headed n m head.Guard ts = read_guard_clause (part n m) ts
read_headed n m head.Parameters ts = read_parameters_clause n (part n m) ts
read_headed n m (head.Named f) ts = read_named_clause f.now n (part n m) ts
