-- Trees without their lines: each line is 0. Two texts have the same tree but for lines if their trees are equal
-- without them.

use Rattle.std.specs.Prelude.{Option, None, Some, map}
use Rattle.edb_syntax.specs.declared.modules.Export.{Export}
use Rattle.edb_syntax.specs.Patterns as pattern
use Rattle.edb_syntax.specs.Patterns.{Pat, Pats}
use Rattle.edb_syntax.specs.Syntax.{Exp, Exps, Seq, After, Guards, ClauseTree, Clauses, CatchTree, Catches, QualifierTree, Qualifiers, FunctionTree, ModuleTree, int, atom, string, float, variable, apply, and_also, or_else, match, catch, begin, case, if_clauses, receive, receive_after, try, fun_clauses, fun_local, fun_remote, comprehension, none, more, sequence, no_after, after, no_guard, alternative, clause, no_clauses, more_clauses, catch_clause, no_catches, more_catches, generator, filter, no_qualifiers, more_qualifiers}

abbrev mutual
  pub unlined_pattern : Pat → Pat
  unlined_pattern (pattern.int l i) = pattern.int 0 i
  unlined_pattern (pattern.atom l a) = pattern.atom 0 a
  unlined_pattern (pattern.string l s) = pattern.string 0 s
  unlined_pattern (pattern.variable l x) = pattern.variable 0 x
  unlined_pattern (pattern.any l) = pattern.any 0
  unlined_pattern (pattern.tuple l ps) = pattern.tuple 0 (unlined_patterns ps)
  unlined_pattern (pattern.list l ps) = pattern.list 0 (unlined_patterns ps)
  unlined_pattern (pattern.list_with_tail l ps t) = pattern.list_with_tail 0 (unlined_patterns ps) (unlined_pattern t)
  unlined_pattern (pattern.both l p q) = pattern.both 0 (unlined_pattern p) (unlined_pattern q)

  pub unlined_patterns : Pats → Pats
  unlined_patterns pattern.none = pattern.none
  unlined_patterns (pattern.more p ps) = pattern.more (unlined_pattern p) (unlined_patterns ps)

abbrev pub unlined_stack : Option Pat → Option Pat
unlined_stack None = None
unlined_stack (Some p) = Some (unlined_pattern p)

abbrev mutual
  pub unlined : Exp → Exp
  unlined (int l i) = int 0 i
  unlined (atom l a) = atom 0 a
  unlined (string l s) = string 0 s
  unlined (float l) = float 0
  unlined (variable l x) = variable 0 x
  unlined (apply l o es) = apply 0 o (unlined_all es)
  unlined (and_also l a b) = and_also 0 (unlined a) (unlined b)
  unlined (or_else l a b) = or_else 0 (unlined a) (unlined b)
  unlined (match l p e) = match 0 (unlined_pattern p) (unlined e)
  unlined (catch l e) = catch 0 (unlined e)
  unlined (begin l s) = begin 0 (unlined_body s)
  unlined (case l e cs) = case 0 (unlined e) (unlined_clauses cs)
  unlined (if_clauses l cs) = if_clauses 0 (unlined_clauses cs)
  unlined (receive l cs) = receive 0 (unlined_clauses cs)
  unlined (receive_after l cs e s) = receive_after 0 (unlined_clauses cs) (unlined e) (unlined_body s)
  unlined (try l s cs hs a) = try 0 (unlined_body s) (unlined_clauses cs) (unlined_catches hs) (unlined_after a)
  unlined (fun_clauses l i cs) = fun_clauses 0 i (unlined_clauses cs)
  unlined (fun_local l i f n) = fun_local 0 i f n
  unlined (fun_remote l m f n) = fun_remote 0 m f n
  unlined (comprehension l e qs) = comprehension 0 (unlined e) (unlined_qualifiers qs)

  pub unlined_all : Exps → Exps
  unlined_all none = none
  unlined_all (more e es) = more (unlined e) (unlined_all es)

  pub unlined_body : Seq → Seq
  unlined_body (sequence e es) = sequence (unlined e) (unlined_all es)

  pub unlined_after : After → After
  unlined_after no_after = no_after
  unlined_after (after s) = after (unlined_body s)

  pub unlined_guard : Guards → Guards
  unlined_guard no_guard = no_guard
  unlined_guard (alternative es gs) = alternative (unlined_all es) (unlined_guard gs)

  pub unlined_clause : ClauseTree → ClauseTree
  unlined_clause (clause ps gs s) = clause (unlined_patterns ps) (unlined_guard gs) (unlined_body s)

  pub unlined_clauses : Clauses → Clauses
  unlined_clauses no_clauses = no_clauses
  unlined_clauses (more_clauses c cs) = more_clauses (unlined_clause c) (unlined_clauses cs)

  pub unlined_handler : CatchTree → CatchTree
  unlined_handler (catch_clause c p v gs s) =
      catch_clause (unlined_pattern c) (unlined_pattern p) (unlined_stack v) (unlined_guard gs) (unlined_body s)

  pub unlined_catches : Catches → Catches
  unlined_catches no_catches = no_catches
  unlined_catches (more_catches h hs) = more_catches (unlined_handler h) (unlined_catches hs)

  pub unlined_qualifier : QualifierTree → QualifierTree
  unlined_qualifier (generator p e) = generator (unlined_pattern p) (unlined e)
  unlined_qualifier (filter e) = filter (unlined e)

  pub unlined_qualifiers : Qualifiers → Qualifiers
  unlined_qualifiers no_qualifiers = no_qualifiers
  unlined_qualifiers (more_qualifiers q qs) = more_qualifiers (unlined_qualifier q) (unlined_qualifiers qs)

abbrev pub unlined_entry : Export → Export
unlined_entry x = record { name = x.name; arity = x.arity; line = 0 }

abbrev pub unlined_function : FunctionTree → FunctionTree
unlined_function f = record { name = f.name; arity = f.arity; line = 0; clauses = unlined_clauses f.clauses }

abbrev pub unlined_module : ModuleTree → ModuleTree
unlined_module m =
    record { name = m.name; line = 0; exports = map unlined_entry m.exports; functions = map unlined_function m.functions }
