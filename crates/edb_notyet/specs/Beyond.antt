-- Whether a module writes anything that a machine doesn't run yet: a `receive`, a fun that names an act of specs/Calls, or
-- an operation of specs/Calls, anywhere in the bodies of its functions. What is written counts, also where no run comes to
-- it. The first parameter is the whole module, in which names without a module are looked up.
--
-- Patterns hold no expression. Guards aren't looked at: a test is judged by its value and makes no move, and what may
-- not stand in a guard has no value there.

use Rattle.std.specs.Prelude.{Bool, true, false, ◌||◌, List, [], ◌∷◌}
use Rattle.edb_syntax.specs.Syntax.{Exp, Exps, Seq, After, ClauseTree, Clauses, CatchTree, Catches, QualifierTree, Qualifiers, FunctionTree, ModuleTree, int, atom, string, float, variable, apply, and_also, or_else, match, catch, begin, case, if_clauses, receive, receive_after, try, fun_clauses, fun_local, fun_remote, comprehension, none, more, sequence, no_after, after, clause, no_clauses, more_clauses, catch_clause, no_catches, more_catches, generator, filter, no_qualifiers, more_qualifiers}
use Rattle.edb_notyet.specs.Calls.{operation_is_beyond, built_in_is_beyond}

abbrev mutual
  pub expression_is_beyond : ModuleTree → Exp → Bool
  expression_is_beyond x (int l i) = false
  expression_is_beyond x (atom l a) = false
  expression_is_beyond x (string l s) = false
  expression_is_beyond x (float l) = false
  expression_is_beyond x (variable l y) = false
  expression_is_beyond x (apply l o es) = operation_is_beyond x o es || some_expression_is_beyond x es
  expression_is_beyond x (and_also l a b) = expression_is_beyond x a || expression_is_beyond x b
  expression_is_beyond x (or_else l a b) = expression_is_beyond x a || expression_is_beyond x b
  expression_is_beyond x (match l p e) = expression_is_beyond x e
  expression_is_beyond x (catch l e) = expression_is_beyond x e
  expression_is_beyond x (begin l s) = sequence_is_beyond x s
  expression_is_beyond x (case l e cs) = expression_is_beyond x e || some_clause_is_beyond x cs
  expression_is_beyond x (if_clauses l cs) = some_clause_is_beyond x cs
  expression_is_beyond x (receive l cs) = true
  expression_is_beyond x (receive_after l cs e s) = true
  expression_is_beyond x (try l s cs hs a) =
      sequence_is_beyond x s || (some_clause_is_beyond x cs || (some_catch_is_beyond x hs || after_is_beyond x a))
  expression_is_beyond x (fun_clauses l i cs) = some_clause_is_beyond x cs
  expression_is_beyond x (fun_local l i f n) = false
  expression_is_beyond x (fun_remote l m f n) = built_in_is_beyond (m, (f, n))
  expression_is_beyond x (comprehension l e qs) = expression_is_beyond x e || some_qualifier_is_beyond x qs

  pub some_expression_is_beyond : ModuleTree → Exps → Bool
  some_expression_is_beyond x none = false
  some_expression_is_beyond x (more e es) = expression_is_beyond x e || some_expression_is_beyond x es

  pub sequence_is_beyond : ModuleTree → Seq → Bool
  sequence_is_beyond x (sequence e es) = expression_is_beyond x e || some_expression_is_beyond x es

  pub clause_is_beyond : ModuleTree → ClauseTree → Bool
  clause_is_beyond x (clause ps g s) = sequence_is_beyond x s

  pub some_clause_is_beyond : ModuleTree → Clauses → Bool
  some_clause_is_beyond x no_clauses = false
  some_clause_is_beyond x (more_clauses c cs) = clause_is_beyond x c || some_clause_is_beyond x cs

  pub catch_is_beyond : ModuleTree → CatchTree → Bool
  catch_is_beyond x (catch_clause c p v g s) = sequence_is_beyond x s

  pub some_catch_is_beyond : ModuleTree → Catches → Bool
  some_catch_is_beyond x no_catches = false
  some_catch_is_beyond x (more_catches c cs) = catch_is_beyond x c || some_catch_is_beyond x cs

  pub after_is_beyond : ModuleTree → After → Bool
  after_is_beyond x no_after = false
  after_is_beyond x (after s) = sequence_is_beyond x s

  pub qualifier_is_beyond : ModuleTree → QualifierTree → Bool
  qualifier_is_beyond x (generator p e) = expression_is_beyond x e
  qualifier_is_beyond x (filter e) = expression_is_beyond x e

  pub some_qualifier_is_beyond : ModuleTree → Qualifiers → Bool
  some_qualifier_is_beyond x no_qualifiers = false
  some_qualifier_is_beyond x (more_qualifiers q qs) = qualifier_is_beyond x q || some_qualifier_is_beyond x qs

abbrev pub some_function_is_beyond : ModuleTree → List FunctionTree → Bool
some_function_is_beyond x [] = false
some_function_is_beyond x (f ∷ fs) = some_clause_is_beyond x f.clauses || some_function_is_beyond x fs

abbrev pub is_beyond : ModuleTree → Bool
is_beyond x = some_function_is_beyond x x.functions
