-- The lines of the places at which a process can be stopped: those of the expressions that stand in a sequence, each
-- before the places within it. Operands, patterns and tests of guards are no such places; what is in a test has none,
-- since no sequence may stand there.

use Rattle.std.specs.Prelude.{ℕ, List, [], ◌∷◌, ◌++◌}
use Rattle.edb_syntax.specs.Syntax.{Exp, Exps, Seq, After, ClauseTree, Clauses, CatchTree, Catches, QualifierTree, Qualifiers, int, atom, string, float, variable, apply, and_also, or_else, match, catch, begin, case, if_clauses, receive, receive_after, try, fun_clauses, fun_local, fun_remote, comprehension, none, more, sequence, no_after, after, clause, no_clauses, more_clauses, catch_clause, no_catches, more_catches, generator, filter, no_qualifiers, more_qualifiers}
use Rattle.edb_syntax.specs.Syntax.{FunctionTree, ModuleTree, line_of}

abbrev mutual
  pub stops : Exp → List ℕ
  stops (int l i) = []
  stops (atom l a) = []
  stops (string l s) = []
  stops (float l) = []
  stops (variable l x) = []
  stops (apply l o es) = operands_stops es
  stops (and_also l a b) = stops a ++ stops b
  stops (or_else l a b) = stops a ++ stops b
  stops (match l p e) = stops e
  stops (catch l e) = stops e
  stops (begin l s) = sequence_stops s
  stops (case l e cs) = stops e ++ clauses_stops cs
  stops (if_clauses l cs) = clauses_stops cs
  stops (receive l cs) = clauses_stops cs
  stops (receive_after l cs e s) = clauses_stops cs ++ (stops e ++ sequence_stops s)
  stops (try l s cs hs a) = sequence_stops s ++ (clauses_stops cs ++ (catches_stops hs ++ after_stops a))
  stops (fun_clauses l i cs) = clauses_stops cs
  stops (fun_local l i f n) = []
  stops (fun_remote l m f n) = []
  stops (comprehension l e qs) = stops e ++ qualifiers_stops qs

  pub operands_stops : Exps → List ℕ
  operands_stops none = []
  operands_stops (more e es) = stops e ++ operands_stops es

  -- a sequence: each of its expressions is a place
  pub sequence_stops : Seq → List ℕ
  sequence_stops (sequence e es) = line_of e ∷ (stops e ++ rest_stops es)

  pub rest_stops : Exps → List ℕ
  rest_stops none = []
  rest_stops (more e es) = line_of e ∷ (stops e ++ rest_stops es)

  pub after_stops : After → List ℕ
  after_stops no_after = []
  after_stops (after s) = sequence_stops s

  pub clause_stops : ClauseTree → List ℕ
  clause_stops (clause ps g s) = sequence_stops s

  pub clauses_stops : Clauses → List ℕ
  clauses_stops no_clauses = []
  clauses_stops (more_clauses c cs) = clause_stops c ++ clauses_stops cs

  pub catch_stops : CatchTree → List ℕ
  catch_stops (catch_clause c p v g s) = sequence_stops s

  pub catches_stops : Catches → List ℕ
  catches_stops no_catches = []
  catches_stops (more_catches c cs) = catch_stops c ++ catches_stops cs

  pub qualifier_stops : QualifierTree → List ℕ
  qualifier_stops (generator p e) = stops e
  qualifier_stops (filter e) = stops e

  pub qualifiers_stops : Qualifiers → List ℕ
  qualifiers_stops no_qualifiers = []
  qualifiers_stops (more_qualifiers q qs) = qualifier_stops q ++ qualifiers_stops qs

abbrev pub functions_stops : List FunctionTree → List ℕ
functions_stops [] = []
functions_stops (f ∷ fs) = clauses_stops f.clauses ++ functions_stops fs

-- of a module
abbrev pub module_stops : ModuleTree → List ℕ
module_stops m = functions_stops m.functions
