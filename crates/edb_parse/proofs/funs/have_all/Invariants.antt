use Rattle.std.proofs.Common.{◌≡◌, length}
use Rattle.edb_syntax.specs.Syntax.{clauses_of}
use Rattle.edb_grammar.specs.ExpressionReading.{all_have}
use Rattle.edb_parse.proofs.funs.have_all.Given as goal

-- what is left decides
abbrev pub invariant-loop-clause : goal.invariant-loop-clause
invariant-loop-clause l = all_have l.count (clauses_of l.rest) ≡ all_have l.count (clauses_of l.clauses)

abbrev pub decreases-loop-clause : goal.decreases-loop-clause
decreases-loop-clause l = length l.rest
