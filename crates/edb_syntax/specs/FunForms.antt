-- The fun forms of a module, in the order of their `fun` tokens. Each has its place among them, counted from 0 over
-- all three kinds. A form that names another module's function counts, but nothing has to be found for it.

use Rattle.std.specs.Prelude.{ℕ, if◌then◌else◌, ◌==◌, List, [], ◌∷◌, ◌++◌, Option, None, Some}
use Rattle.edb_syntax.specs.Syntax.{Exp, Exps, Seq, After, Guards, ClauseTree, Clauses, CatchTree, Catches, QualifierTree, Qualifiers, int, atom, string, float, variable, apply, and_also, or_else, match, catch, begin, case, if_clauses, receive, receive_after, try, fun_clauses, fun_local, fun_remote, comprehension, none, more, sequence, no_after, after, no_guard, alternative, clause, no_clauses, more_clauses, catch_clause, no_catches, more_catches, generator, filter, no_qualifiers, more_qualifiers}
use Rattle.edb_syntax.specs.Syntax.{FunctionTree, ModuleTree}

pub data Form : Type 0 where
  -- `fun (..) -> .. end`: its place and its clauses
  with_clauses : ℕ → Clauses → Form
  -- `fun f/2`: its place, the name and the arity
  local : ℕ → List ℕ → ℕ → Form

-- A form comes before those inside it.
abbrev mutual
  pub expression_forms : Exp → List Form
  expression_forms (int l i) = []
  expression_forms (atom l a) = []
  expression_forms (string l s) = []
  expression_forms (float l) = []
  expression_forms (variable l x) = []
  expression_forms (apply l o es) = expressions_forms es
  expression_forms (and_also l a b) = expression_forms a ++ expression_forms b
  expression_forms (or_else l a b) = expression_forms a ++ expression_forms b
  expression_forms (match l p e) = expression_forms e
  expression_forms (catch l e) = expression_forms e
  expression_forms (begin l s) = sequence_forms s
  expression_forms (case l e cs) = expression_forms e ++ clauses_forms cs
  expression_forms (if_clauses l cs) = clauses_forms cs
  expression_forms (receive l cs) = clauses_forms cs
  expression_forms (receive_after l cs e s) = clauses_forms cs ++ (expression_forms e ++ sequence_forms s)
  expression_forms (try l s cs hs a) = sequence_forms s ++ (clauses_forms cs ++ (catches_forms hs ++ after_forms a))
  expression_forms (fun_clauses l i cs) = with_clauses i cs ∷ clauses_forms cs
  expression_forms (fun_local l i f n) = local i f n ∷ []
  expression_forms (fun_remote l m f n) = []
  expression_forms (comprehension l e qs) = expression_forms e ++ qualifiers_forms qs

  pub expressions_forms : Exps → List Form
  expressions_forms none = []
  expressions_forms (more e es) = expression_forms e ++ expressions_forms es

  pub sequence_forms : Seq → List Form
  sequence_forms (sequence e es) = expression_forms e ++ expressions_forms es

  pub after_forms : After → List Form
  after_forms no_after = []
  after_forms (after s) = sequence_forms s

  pub guards_forms : Guards → List Form
  guards_forms no_guard = []
  guards_forms (alternative es gs) = expressions_forms es ++ guards_forms gs

  pub clause_forms : ClauseTree → List Form
  clause_forms (clause ps g s) = guards_forms g ++ sequence_forms s

  pub clauses_forms : Clauses → List Form
  clauses_forms no_clauses = []
  clauses_forms (more_clauses c cs) = clause_forms c ++ clauses_forms cs

  pub catch_forms : CatchTree → List Form
  catch_forms (catch_clause c p v g s) = guards_forms g ++ sequence_forms s

  pub catches_forms : Catches → List Form
  catches_forms no_catches = []
  catches_forms (more_catches c cs) = catch_forms c ++ catches_forms cs

  pub qualifier_forms : QualifierTree → List Form
  qualifier_forms (generator p e) = expression_forms e
  qualifier_forms (filter e) = expression_forms e

  pub qualifiers_forms : Qualifiers → List Form
  qualifiers_forms no_qualifiers = []
  qualifiers_forms (more_qualifiers q qs) = qualifier_forms q ++ qualifiers_forms qs

abbrev pub functions_forms : List FunctionTree → List Form
functions_forms [] = []
functions_forms (f ∷ fs) = clauses_forms f.clauses ++ functions_forms fs

-- of a module
abbrev pub forms : ModuleTree → List Form
forms x = functions_forms x.functions

-- the place of a form
abbrev pub place_of : Form → ℕ
place_of (with_clauses i cs) = i
place_of (local i f n) = i

-- the first form with this place
abbrev pub first_at : List Form → ℕ → Option Form
first_at [] i = None
first_at (f ∷ fs) i = if place_of f == i then Some f else first_at fs i

-- of a module
abbrev pub form_at : ModuleTree → ℕ → Option Form
form_at x i = first_at (forms x) i
