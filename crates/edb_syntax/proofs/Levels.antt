-- Each node has a depth of 1 at least.

use Rattle.std.specs.Prelude.{◌<◌}
use Rattle.std.proofs.Common.{arith}
use Rattle.edb_syntax.specs.Patterns as pattern
use Rattle.edb_syntax.specs.Patterns.{Pat}
use Rattle.edb_syntax.specs.Syntax.{Exp, int, atom, string, float, variable, apply, and_also, or_else, match, catch, begin, case, if_clauses, receive, receive_after, try, fun_clauses, fun_local, fun_remote, comprehension}
use Rattle.edb_syntax.specs.Depths.{pattern_depth, depth}

pub pattern_depth_some : (p : Pat) → 0 < pattern_depth p
pattern_depth_some (pattern.int l i) = omega arith
pattern_depth_some (pattern.atom l a) = omega arith
pattern_depth_some (pattern.string l s) = omega arith
pattern_depth_some (pattern.variable l x) = omega arith
pattern_depth_some (pattern.any l) = omega arith
pattern_depth_some (pattern.tuple l ps) = omega arith
pattern_depth_some (pattern.list l ps) = omega arith
pattern_depth_some (pattern.list_with_tail l ps t) = omega arith
pattern_depth_some (pattern.both l p q) = omega arith

pub depth_some : (e : Exp) → 0 < depth e
depth_some (int l i) = omega arith
depth_some (atom l a) = omega arith
depth_some (string l s) = omega arith
depth_some (float l) = omega arith
depth_some (variable l x) = omega arith
depth_some (apply l o es) = omega arith
depth_some (and_also l a b) = omega arith
depth_some (or_else l a b) = omega arith
depth_some (match l p e) = omega arith
depth_some (catch l e) = omega arith
depth_some (begin l s) = omega arith
depth_some (case l e cs) = omega arith
depth_some (if_clauses l cs) = omega arith
depth_some (receive l cs) = omega arith
depth_some (receive_after l cs e s) = omega arith
depth_some (try l s cs hs a) = omega arith
depth_some (fun_clauses l i cs) = omega arith
depth_some (fun_local l i f n) = omega arith
depth_some (fun_remote l m f n) = omega arith
depth_some (comprehension l e qs) = omega arith

pub ruleset levels = (pattern_depth_some, depth_some)
