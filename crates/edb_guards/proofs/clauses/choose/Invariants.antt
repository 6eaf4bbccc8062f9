use Rattle.std.proofs.Common.{◌≡◌, [], drop, map}
use Rattle.edb_syntax.specs.Syntax.{clauses_of}
use Rattle.edb_moves.specs.Clauses.{chosen}
use Rattle.edb_match.specs.Newest.{newest_first}
use Rattle.edb_guards.proofs.clauses.choose.Given as goal

-- the first of those that are left is the first of all
abbrev pub invariant-loop-clause : goal.invariant-loop-clause
invariant-loop-clause l = chosen l.me (newest_first l.sees []) (newest_first l.hidden []) (clauses_of (drop l.clause-index l.clauses)) (map (λ t. t.now) l.arguments) ≡ chosen l.me (newest_first l.sees []) (newest_first l.hidden []) (clauses_of l.clauses) (map (λ t. t.now) l.arguments)
