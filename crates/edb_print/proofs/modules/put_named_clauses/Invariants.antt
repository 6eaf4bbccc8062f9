use Rattle.std.proofs.Common.{◌≡◌, ◌++◌, true, drop}
use Rattle.edb_syntax.specs.Syntax.{clauses_of}
use Rattle.edb_print.specs.Pieces.{line, bytes_of}
use Rattle.edb_print.specs.Layout.{with_name}
use Rattle.edb_print.specs.Parts.{clauses_left}
use Rattle.edb_print.proofs.modules.put_named_clauses.Given as goal

-- what was put and what is left are all
abbrev pub invariant-loop-clause : goal.invariant-loop-clause
invariant-loop-clause l =
    l.out.items ++ bytes_of (clauses_left l.first (with_name l.name) (line 0) 0 0 (clauses_of (drop l.clause-index l.clauses)))
    ≡ l.fn.out.items ++ bytes_of (clauses_left true (with_name l.name) (line 0) 0 0 (clauses_of l.clauses))
