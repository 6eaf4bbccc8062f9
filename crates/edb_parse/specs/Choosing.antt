-- `case` and `if`, behind their first words.

use Rattle.std.specs.Prelude.{ℕ}
use Rattle.edb_scan.specs.declared.lexeme.Mark.TheVariants as mark
use Rattle.edb_syntax.specs.Syntax.{Exp, case, if_clauses}
use Rattle.edb_grammar.specs.Toks.{Place}
use Rattle.edb_grammar.specs.Reading.{Read, closed, onward, made}
use Rattle.edb_grammar.specs.ExpressionReading.{read_clauses, read_pattern_clause, read_guard_clause}
use Rattle.edb_parse.specs.Descent.{part}

abbrev pub case_at : ℕ → ℕ → Place → Read Exp
case_at n m s ts =
    onward (closed mark.Of (part n m ts)) (λ e us. made (case s.line e) (closed mark.End (read_clauses (read_pattern_clause n (part n m)) us)))

abbrev pub if_at : ℕ → ℕ → Place → Read Exp
if_at n m s ts = made (if_clauses s.line) (closed mark.End (read_clauses (read_guard_clause (part n m)) ts))
