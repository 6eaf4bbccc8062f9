use Rattle.std.proofs.Common.{◌≡◌, [], drop}
use Rattle.edb_syntax.specs.Syntax.{catches_of}
use Rattle.edb_moves.specs.Clauses.{handler}
use Rattle.edb_match.specs.Newest.{newest_first}
use Rattle.edb_guards.proofs.catches.choose_catch.Given as goal

-- the first of those that are left is the first of all
abbrev pub invariant-loop-clause : goal.invariant-loop-clause
invariant-loop-clause l = handler l.me (newest_first l.kept []) (catches_of (drop l.clause-index l.catches)) l.class l.reason ≡ handler l.me (newest_first l.kept []) (catches_of l.catches) l.class l.reason
