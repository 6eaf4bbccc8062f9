-- How syntax trees are stored, as trees of numbers that give them back. A node's kind is told by a row of marks,
-- `gnil` or a number.

use Rattle.std.specs.Prelude.{◌≡◌, Option, None, Some, refl}
use Rattle.std.proofs.Common.{ap}
use Rattle.std.specs.Coded.{Coded, code_by}
use base.Stored.{Gv, gnil, gnum, gcons}
use Rattle.edb_lang.specs.Stored.{coded_gv, number, stored_int, int_in, int_back, stored_name, name_in, name_back}
use Rattle.edb_syntax.specs.OperationCodes.{stored_operation, operation_in, operation_back}
use Rattle.edb_syntax.specs.Patterns.{Pat}
use Rattle.edb_syntax.specs.PatternCodes.{stored_pat, pat_in, pat_back, stored_pats, pats_in, pats_back}
use Rattle.edb_syntax.specs.Syntax.{Exp, Exps, Seq, After, Guards, ClauseTree, Clauses, CatchTree, Catches, QualifierTree, Qualifiers, int, atom, string, float, variable, apply, and_also, or_else, match, catch, begin, case, if_clauses, receive, receive_after, try, fun_clauses, fun_local, fun_remote, comprehension, none, more, sequence, no_after, after, no_guard, alternative, clause, no_clauses, more_clauses, catch_clause, no_catches, more_catches, generator, filter, no_qualifiers, more_qualifiers}

abbrev pub stored_stack : Option Pat → Gv
stored_stack None = gnil
stored_stack (Some p) = gcons (stored_pat p) gnil

abbrev pub stack_in : Gv → Option Pat
stack_in (gcons p g) = Some (pat_in p)
stack_in _ = None

pub stack_back : (v : Option Pat) → stack_in (stored_stack v) ≡ v
stack_back None = refl
stack_back (Some p) = ap (λ q. Some q) (pat_back p)

abbrev mutual
  pub stored_exp : Exp → Gv
  stored_exp (int l i) = gcons gnil (gcons gnil (gcons gnil (gcons gnil (gcons gnil (gcons (gnum l) (stored_int i))))))
  stored_exp (atom l a) = gcons gnil (gcons gnil (gcons gnil (gcons gnil (gcons (gnum 0) (gcons (gnum l) (stored_name a))))))
  stored_exp (string l s) = gcons gnil (gcons gnil (gcons gnil (gcons (gnum 0) (gcons gnil (gcons (gnum l) (stored_name s))))))
  stored_exp (float l) = gcons gnil (gcons gnil (gcons gnil (gcons (gnum 0) (gcons (gnum 0) (gnum l)))))
  stored_exp (variable l x) = gcons gnil (gcons gnil (gcons (gnum 0) (gcons gnil (gcons gnil (gcons (gnum l) (stored_name x))))))
  stored_exp (apply l o es) = gcons gnil (gcons gnil (gcons (gnum 0) (gcons gnil (gcons (gnum 0) (gcons (gnum l) (gcons (stored_operation o) (stored_exps es)))))))
  stored_exp (and_also l a b) = gcons gnil (gcons gnil (gcons (gnum 0) (gcons (gnum 0) (gcons gnil (gcons (gnum l) (gcons (stored_exp a) (stored_exp b)))))))
  stored_exp (or_else l a b) = gcons gnil (gcons gnil (gcons (gnum 0) (gcons (gnum 0) (gcons (gnum 0) (gcons (gnum l) (gcons (stored_exp a) (stored_exp b)))))))
  stored_exp (match l p e) = gcons gnil (gcons (gnum 0) (gcons gnil (gcons gnil (gcons gnil (gcons (gnum l) (gcons (stored_pat p) (stored_exp e)))))))
  stored_exp (catch l e) = gcons gnil (gcons (gnum 0) (gcons gnil (gcons gnil (gcons (gnum 0) (gcons (gnum l) (stored_exp e))))))
  stored_exp (begin l s) = gcons gnil (gcons (gnum 0) (gcons gnil (gcons (gnum 0) (gcons gnil (gcons (gnum l) (stored_seq s))))))
  stored_exp (case l e cs) = gcons gnil (gcons (gnum 0) (gcons gnil (gcons (gnum 0) (gcons (gnum 0) (gcons (gnum l) (gcons (stored_exp e) (stored_clauses cs)))))))
  stored_exp (if_clauses l cs) = gcons gnil (gcons (gnum 0) (gcons (gnum 0) (gcons gnil (gcons gnil (gcons (gnum l) (stored_clauses cs))))))
  stored_exp (receive l cs) = gcons gnil (gcons (gnum 0) (gcons (gnum 0) (gcons gnil (gcons (gnum 0) (gcons (gnum l) (stored_clauses cs))))))
  stored_exp (receive_after l cs e s) = gcons gnil (gcons (gnum 0) (gcons (gnum 0) (gcons (gnum 0) (gcons gnil (gcons (gnum l) (gcons (stored_clauses cs) (gcons (stored_exp e) (stored_seq s))))))))
  stored_exp (try l s cs hs a) = gcons gnil (gcons (gnum 0) (gcons (gnum 0) (gcons (gnum 0) (gcons (gnum 0) (gcons (gnum l) (gcons (stored_seq s) (gcons (stored_clauses cs) (gcons (stored_catches hs) (stored_after a)))))))))
  stored_exp (fun_clauses l i cs) = gcons (gnum 0) (gcons gnil (gcons gnil (gcons gnil (gcons gnil (gcons (gnum l) (gcons (gnum i) (stored_clauses cs)))))))
  stored_exp (fun_local l i f n) = gcons (gnum 0) (gcons gnil (gcons gnil (gcons gnil (gcons (gnum 0) (gcons (gnum l) (gcons (gnum i) (gcons (stored_name f) (gnum n))))))))
  stored_exp (fun_remote l m f n) = gcons (gnum 0) (gcons gnil (gcons gnil (gcons (gnum 0) (gcons gnil (gcons (gnum l) (gcons (stored_name m) (gcons (stored_name f) (gnum n))))))))
  stored_exp (comprehension l e qs) = gcons (gnum 0) (gcons gnil (gcons gnil (gcons (gnum 0) (gcons (gnum 0) (gcons (gnum l) (gcons (stored_exp e) (stored_qualifiers qs)))))))

  pub stored_exps : Exps → Gv
  stored_exps none = gnil
  stored_exps (more e es) = gcons (stored_exp e) (stored_exps es)

  pub stored_seq : Seq → Gv
  stored_seq (sequence e es) = gcons (stored_exp e) (stored_exps es)

  pub stored_after : After → Gv
  stored_after no_after = gnil
  stored_after (after s) = gcons (stored_seq s) gnil

  pub stored_guards : Guards → Gv
  stored_guards no_guard = gnil
  stored_guards (alternative es gs) = gcons (stored_exps es) (stored_guards gs)

  pub stored_clause : ClauseTree → Gv
  stored_clause (clause ps g s) = gcons (stored_pats ps) (gcons (stored_guards g) (stored_seq s))

  pub stored_clauses : Clauses → Gv
  stored_clauses no_clauses = gnil
  stored_clauses (more_clauses c cs) = gcons (stored_clause c) (stored_clauses cs)

  pub stored_catch : CatchTree → Gv
  stored_catch (catch_clause c p v g s) = gcons (stored_pat c) (gcons (stored_pat p) (gcons (stored_stack v) (gcons (stored_guards g) (stored_seq s))))

  pub stored_catches : Catches → Gv
  stored_catches no_catches = gnil
  stored_catches (more_catches c cs) = gcons (stored_catch c) (stored_catches cs)

  pub stored_qualifier : QualifierTree → Gv
  stored_qualifier (generator p e) = gcons gnil (gcons (stored_pat p) (stored_exp e))
  stored_qualifier (filter e) = gcons (gnum 0) (stored_exp e)

  pub stored_qualifiers : Qualifiers → Gv
  stored_qualifiers no_qualifiers = gnil
  stored_qualifiers (more_qualifiers q qs) = gcons (stored_qualifier q) (stored_qualifiers qs)

-- Back from the numbers; what stores no tree gives some tree.
abbrev mutual
  pub exp_in : Gv → Exp
  exp_in (gcons gnil (gcons gnil (gcons gnil (gcons gnil (gcons gnil (gcons l i)))))) = int (number l) (int_in i)
  exp_in (gcons gnil (gcons gnil (gcons gnil (gcons gnil (gcons (gnum _) (gcons l a)))))) = atom (number l) (name_in a)
  exp_in (gcons gnil (gcons gnil (gcons gnil (gcons (gnum _) (gcons gnil (gcons l s)))))) = string (number l) (name_in s)
  exp_in (gcons gnil (gcons gnil (gcons gnil (gcons (gnum _) (gcons (gnum _) l))))) = float (number l)
  exp_in (gcons gnil (gcons gnil (gcons (gnum _) (gcons gnil (gcons gnil (gcons l x)))))) = variable (number l) (name_in x)
  exp_in (gcons gnil (gcons gnil (gcons (gnum _) (gcons gnil (gcons (gnum _) (gcons l (gcons o es))))))) = apply (number l) (operation_in o) (exps_in es)
  exp_in (gcons gnil (gcons gnil (gcons (gnum _) (gcons (gnum _) (gcons gnil (gcons l (gcons a b))))))) = and_also (number l) (exp_in a) (exp_in b)
  exp_in (gcons gnil (gcons gnil (gcons (gnum _) (gcons (gnum _) (gcons (gnum _) (gcons l (gcons a b))))))) = or_else (number l) (exp_in a) (exp_in b)
  exp_in (gcons gnil (gcons (gnum _) (gcons gnil (gcons gnil (gcons gnil (gcons l (gcons p e))))))) = match (number l) (pat_in p) (exp_in e)
  exp_in (gcons gnil (gcons (gnum _) (gcons gnil (gcons gnil (gcons (gnum _) (gcons l e)))))) = catch (number l) (exp_in e)
  exp_in (gcons gnil (gcons (gnum _) (gcons gnil (gcons (gnum _) (gcons gnil (gcons l s)))))) = begin (number l) (seq_in s)
  exp_in (gcons gnil (gcons (gnum _) (gcons gnil (gcons (gnum _) (gcons (gnum _) (gcons l (gcons e cs))))))) = case (number l) (exp_in e) (clauses_in cs)
  exp_in (gcons gnil (gcons (gnum _) (gcons (gnum _) (gcons gnil (gcons gnil (gcons l cs)))))) = if_clauses (number l) (clauses_in cs)
  exp_in (gcons gnil (gcons (gnum _) (gcons (gnum _) (gcons gnil (gcons (gnum _) (gcons l cs)))))) = receive (number l) (clauses_in cs)
  exp_in (gcons gnil (gcons (gnum _) (gcons (gnum _) (gcons (gnum _) (gcons gnil (gcons l (gcons cs (gcons e s)))))))) = receive_after (number l) (clauses_in cs) (exp_in e) (seq_in s)
  exp_in (gcons gnil (gcons (gnum _) (gcons (gnum _) (gcons (gnum _) (gcons (gnum _) (gcons l (gcons s (gcons cs (gcons hs a))))))))) = try (number l) (seq_in s) (clauses_in cs) (catches_in hs) (after_in a)
  exp_in (gcons (gnum _) (gcons gnil (gcons gnil (gcons gnil (gcons gnil (gcons l (gcons i cs))))))) = fun_clauses (number l) (number i) (clauses_in cs)
  exp_in (gcons (gnum _) (gcons gnil (gcons gnil (gcons gnil (gcons (gnum _) (gcons l (gcons i (gcons f n)))))))) = fun_local (number l) (number i) (name_in f) (number n)
  exp_in (gcons (gnum _) (gcons gnil (gcons gnil (gcons (gnum _) (gcons gnil (gcons l (gcons m (gcons f n)))))))) = fun_remote (number l) (name_in m) (name_in f) (number n)
  exp_in (gcons (gnum _) (gcons gnil (gcons gnil (gcons (gnum _) (gcons (gnum _) (gcons l (gcons e qs))))))) = comprehension (number l) (exp_in e) (qualifiers_in qs)
  exp_in _ = float 0

  pub exps_in : Gv → Exps
  exps_in (gcons e es) = more (exp_in e) (exps_in es)
  exps_in _ = none

  pub seq_in : Gv → Seq
  seq_in (gcons e es) = sequence (exp_in e) (exps_in es)
  seq_in _ = sequence (float 0) none

  pub after_in : Gv → After
  after_in (gcons s g) = after (seq_in s)
  after_in _ = no_after

  pub guards_in : Gv → Guards
  guards_in (gcons es gs) = alternative (exps_in es) (guards_in gs)
  guards_in _ = no_guard

  pub clause_in : Gv → ClauseTree
  clause_in (gcons ps (gcons g s)) = clause (pats_in ps) (guards_in g) (seq_in s)
  clause_in _ = clause (pats_in gnil) no_guard (sequence (float 0) none)

  pub clauses_in : Gv → Clauses
  clauses_in (gcons c cs) = more_clauses (clause_in c) (clauses_in cs)
  clauses_in _ = no_clauses

  pub catch_in : Gv → CatchTree
  catch_in (gcons c (gcons p (gcons v (gcons g s)))) = catch_clause (pat_in c) (pat_in p) (stack_in v) (guards_in g) (seq_in s)
  catch_in _ = catch_clause (pat_in gnil) (pat_in gnil) None no_guard (sequence (float 0) none)

  pub catches_in : Gv → Catches
  catches_in (gcons c cs) = more_catches (catch_in c) (catches_in cs)
  catches_in _ = no_catches

  pub qualifier_in : Gv → QualifierTree
  qualifier_in (gcons gnil (gcons p e)) = generator (pat_in p) (exp_in e)
  qualifier_in (gcons (gnum _) e) = filter (exp_in e)
  qualifier_in _ = filter (float 0)

  pub qualifiers_in : Gv → Qualifiers
  qualifiers_in (gcons q qs) = more_qualifiers (qualifier_in q) (qualifiers_in qs)
  qualifiers_in _ = no_qualifiers

mutual
  pub exp_back : (e : Exp) → exp_in (stored_exp e) ≡ e
  exp_back (int l i) = ap (int l) (int_back i)
  exp_back (atom l a) = ap (atom l) (name_back a)
  exp_back (string l s) = ap (string l) (name_back s)
  exp_back (float l) = refl
  exp_back (variable l x) = ap (variable l) (name_back x)
  exp_back (apply l o es) = λ i. apply l (operation_back o i) (exps_back es i)
  exp_back (and_also l a b) = λ i. and_also l (exp_back a i) (exp_back b i)
  exp_back (or_else l a b) = λ i. or_else l (exp_back a i) (exp_back b i)
  exp_back (match l p e) = λ i. match l (pat_back p i) (exp_back e i)
  exp_back (catch l e) = ap (catch l) (exp_back e)
  exp_back (begin l s) = ap (begin l) (seq_back s)
  exp_back (case l e cs) = λ i. case l (exp_back e i) (clauses_back cs i)
  exp_back (if_clauses l cs) = ap (if_clauses l) (clauses_back cs)
  exp_back (receive l cs) = ap (receive l) (clauses_back cs)
  exp_back (receive_after l cs e s) = λ i. receive_after l (clauses_back cs i) (exp_back e i) (seq_back s i)
  exp_back (try l s cs hs a) = λ i. try l (seq_back s i) (clauses_back cs i) (catches_back hs i) (after_back a i)
  exp_back (fun_clauses l k cs) = λ i. fun_clauses l k (clauses_back cs i)
  exp_back (fun_local l k f n) = λ i. fun_local l k (name_back f i) n
  exp_back (fun_remote l m f n) = λ i. fun_remote l (name_back m i) (name_back f i) n
  exp_back (comprehension l e qs) = λ i. comprehension l (exp_back e i) (qualifiers_back qs i)

  pub exps_back : (es : Exps) → exps_in (stored_exps es) ≡ es
  exps_back none = refl
  exps_back (more e es) = λ i. more (exp_back e i) (exps_back es i)

  pub seq_back : (s : Seq) → seq_in (stored_seq s) ≡ s
  seq_back (sequence e es) = λ i. sequence (exp_back e i) (exps_back es i)

  pub after_back : (a : After) → after_in (stored_after a) ≡ a
  after_back no_after = refl
  after_back (after s) = ap (λ t. after t) (seq_back s)

  pub guards_back : (g : Guards) → guards_in (stored_guards g) ≡ g
  guards_back no_guard = refl
  guards_back (alternative es gs) = λ i. alternative (exps_back es i) (guards_back gs i)

  pub clause_back : (c : ClauseTree) → clause_in (stored_clause c) ≡ c
  clause_back (clause ps g s) = λ i. clause (pats_back ps i) (guards_back g i) (seq_back s i)

  pub clauses_back : (cs : Clauses) → clauses_in (stored_clauses cs) ≡ cs
  clauses_back no_clauses = refl
  clauses_back (more_clauses c cs) = λ i. more_clauses (clause_back c i) (clauses_back cs i)

  pub catch_back : (c : CatchTree) → catch_in (stored_catch c) ≡ c
  catch_back (catch_clause c p v g s) = λ i. catch_clause (pat_back c i) (pat_back p i) (stack_back v i) (guards_back g i) (seq_back s i)

  pub catches_back : (cs : Catches) → catches_in (stored_catches cs) ≡ cs
  catches_back no_catches = refl
  catches_back (more_catches c cs) = λ i. more_catches (catch_back c i) (catches_back cs i)

  pub qualifier_back : (q : QualifierTree) → qualifier_in (stored_qualifier q) ≡ q
  qualifier_back (generator p e) = λ i. generator (pat_back p i) (exp_back e i)
  qualifier_back (filter e) = ap (λ d. filter d) (exp_back e)

  pub qualifiers_back : (qs : Qualifiers) → qualifiers_in (stored_qualifiers qs) ≡ qs
  qualifiers_back no_qualifiers = refl
  qualifiers_back (more_qualifiers q qs) = λ i. more_qualifiers (qualifier_back q i) (qualifiers_back qs i)

abbrev pub coded_exp : Coded Exp
coded_exp = code_by Gv coded_gv stored_exp exp_in exp_back

abbrev pub coded_exps : Coded Exps
coded_exps = code_by Gv coded_gv stored_exps exps_in exps_back

abbrev pub coded_seq : Coded Seq
coded_seq = code_by Gv coded_gv stored_seq seq_in seq_back

abbrev pub coded_guards : Coded Guards
coded_guards = code_by Gv coded_gv stored_guards guards_in guards_back

abbrev pub coded_clause : Coded ClauseTree
coded_clause = code_by Gv coded_gv stored_clause clause_in clause_back

abbrev pub coded_clauses : Coded Clauses
coded_clauses = code_by Gv coded_gv stored_clauses clauses_in clauses_back

abbrev pub coded_catch : Coded CatchTree
coded_catch = code_by Gv coded_gv stored_catch catch_in catch_back

abbrev pub coded_qualifier : Coded QualifierTree
coded_qualifier = code_by Gv coded_gv stored_qualifier qualifier_in qualifier_back
