-- Expressions are read again from their layout: by induction on how the grammar reads them.

use Rattle.std.proofs.Common.{◌≡◌, ℕ, zero, suc, ◌+◌, max, pos, true, List, [], ◌∷◌, ◌++◌, None, Some, refl, sym, ◌∙◌, ap, subst, append_assoc, arith, codes}
use Rattle.edb_scan.specs.declared.lexeme.Mark.TheVariants as mark
use Rattle.edb_syntax.specs.Depths.{depth, depths, sequence_depth, after_depth, guard_depth, clause_depth, clauses_depth, catch_depth, catches_depth, qualifier_depth, qualifiers_depth}
use Rattle.edb_syntax.specs.Forms.{tuple, list, list_with_tail, with_last, unary, remote_call, call}
use Rattle.edb_syntax.specs.declared.operation.Operation.TheVariants.{ListWithTail}
use Rattle.edb_syntax.specs.Patterns as pattern
use Rattle.edb_syntax.specs.Patterns.{Pat, Pats, pats_count}
use Rattle.edb_syntax.specs.Syntax.{Exp, Exps, Seq, After, Guards, ClauseTree, Clauses, CatchTree, Catches, QualifierTree, Qualifiers, int, atom, string, float, variable, apply, match, catch, begin, case, if_clauses, receive, receive_after, try, fun_clauses, fun_local, fun_remote, comprehension, none, more, sequence, no_after, after, no_guard, alternative, clause, no_clauses, more_clauses, catch_clause, no_catches, more_catches, generator, filter, no_qualifiers, more_qualifiers}
use Rattle.edb_grammar.specs.Toks.{Tok, line_at}
use Rattle.edb_grammar.specs.Operators.{strict, andalso, orelse, sends}
use Rattle.edb_grammar.specs.Expressions.{Head, one_pattern, guard_alone, parameters, named, handles, ReadsClass, atom_class, variable_class, Reads, r_variable, r_atom, r_integer, r_character, r_string, r_float, r_list, r_list_with_tail, r_tuple, r_parentheses, r_comprehension, r_begin, r_case, r_if, r_receive, r_receive_after, r_try, r_fun, r_fun_local, r_fun_remote, r_call, r_remote_call, r_prefix, r_infix, r_match, r_catch, ReadsAll, one_expression, more_expressions, ReadsAllOrNone, no_expressions, some_expressions, ReadsBody, a_body, ReadsGuard, last_alternative, next_alternative, ReadsRest, without_guard, ReadsClause, pattern_clause, guard_clause, parameters_clause, named_clause, ReadsClauses, last_clause, next_clause, ReadsClausesOrNone, without_clauses, some_clauses, ReadsOf, without_of, with_of, ReadsCatch, without_catch, with_catch, ReadsAfter, without_after, with_after, ReadsHandler, thrown, with_class, with_stack, ReadsHandlers, last_handler, next_handler, ReadsQualifier, a_generator, a_filter, ReadsQualifiers, last_qualifier, next_qualifier}
use Rattle.edb_grammar.specs.Expressions as rule
use Rattle.edb_print.specs.Pieces.{Gap, tight, blank, line, Piece, sign}
use Rattle.edb_print.specs.Layout.{prefix_mark, prefix_gap, infix_mark, Opening, with_pattern, with_guard, with_parameters, with_name, lay_pattern, lay_patterns, lay, lay_all, lay_more, lay_body, lay_guard, lay_alternatives, lay_when, lay_clause, lay_clauses, lay_more_clauses, lay_of, lay_catch, lay_after, lay_handler, lay_more_handlers, lay_qualifiers, lay_more_qualifiers, lay_qualifier}
use Rattle.edb_print.specs.Parts.{lay_handlers}
use Rattle.edb_print.specs.Unlined.{unlined_pattern, unlined_patterns, unlined, unlined_all, unlined_body, unlined_after, unlined_guard, unlined_clause, unlined_clauses, unlined_handler, unlined_catches, unlined_qualifier, unlined_qualifiers}
use Rattle.edb_print.proofs.SoundTokens.{sound_throw}
use Rattle.edb_print.proofs.Laid.{named_laid}
use Rattle.edb_print.proofs.Reread.{Reread, Twin, done, swap, mark_then, added, character, bared, join, mapped, relaid, alone}
use Rattle.edb_print.proofs.PatternsAgain.{string_again, variable_then, pattern_again, patterns_or_none_again, count_unlined}
use Rattle.edb_print.proofs.Outer.{outer, outer_call, depth_call, call_laid, with_tail_laid, depths_last, unlined_last, prefix_again, infix_again, prefix_no_fun}
use Rattle.edb_print.proofs.Operands.{Room, operand, called, infix_between, call_same}

-- what follows a first one is a separator and the others
more_laid : {m : ℕ} {ts : List Tok} {es : Exps} → ReadsAll m ts es → (h : Gap) (d : ℕ) → lay_more h d es ≡ sign tight mark.Comma ∷ lay_all h h d es
more_laid (one_expression r) h d = refl
more_laid (more_expressions s r rs) h d = refl

alternatives_laid : {m : ℕ} {ts : List Tok} {gs : Guards} → ReadsGuard m ts gs → (d : ℕ)
    → lay_alternatives d gs ≡ sign tight mark.Semicolon ∷ lay_guard blank d gs
alternatives_laid (last_alternative r) d = refl
alternatives_laid (next_alternative s r rs) d = refl

when_laid : {m : ℕ} {ts : List Tok} {gs : Guards} → ReadsGuard m ts gs → (d : ℕ) → lay_when d gs ≡ sign blank mark.When ∷ lay_guard blank d gs
when_laid (last_alternative r) d = refl
when_laid (next_alternative s r rs) d = refl

more_clauses_laid : {m : ℕ} {h : Head} {ts : List Tok} {cs : Clauses} → ReadsClauses m h ts cs → (o : Opening) (e : ℕ)
    → lay_more_clauses o e cs ≡ sign tight mark.Semicolon ∷ lay_clauses o (line e) e e cs
more_clauses_laid (last_clause r) o e = refl
more_clauses_laid (next_clause s r rs) o e = refl

of_laid : {m : ℕ} {h : Head} {ts : List Tok} {cs : Clauses} → ReadsClauses m h ts cs → (d : ℕ)
    → lay_of d cs ≡ sign (line d) mark.Of ∷ lay_clauses with_pattern (line (d + 4)) (d + 4) (d + 4) cs
of_laid (last_clause r) d = refl
of_laid (next_clause s r rs) d = refl

more_handlers_laid : {m : ℕ} {ts : List Tok} {hs : Catches} → ReadsHandlers m ts hs → (d : ℕ)
    → lay_more_handlers d hs ≡ sign tight mark.Semicolon ∷ lay_handlers d hs
more_handlers_laid (last_handler r) d = refl
more_handlers_laid (next_handler s r rs) d = refl

catch_laid : {m : ℕ} {ts : List Tok} {hs : Catches} → ReadsHandlers m ts hs → (d : ℕ)
    → lay_catch d hs ≡ sign (line d) mark.Catch ∷ lay_handlers (d + 4) hs
catch_laid (last_handler r) d = refl
catch_laid (next_handler s r rs) d = refl

more_qualifiers_laid : {m : ℕ} {ts : List Tok} {qs : Qualifiers} → ReadsQualifiers m ts qs → (d : ℕ)
    → lay_more_qualifiers d qs ≡ sign tight mark.Comma ∷ lay_qualifiers d qs
more_qualifiers_laid (last_qualifier r) d = refl
more_qualifiers_laid (next_qualifier s r rs) d = refl

-- how clauses with this head begin
abbrev pub opening : Head → Opening
opening one_pattern = with_pattern
opening guard_alone = with_guard
opening (parameters n) = with_parameters
opening (named f n) = with_name f

-- the class of a clause after `catch`, and what follows it
class_then : {P : List Tok → Type 0} {t : Tok} {p : Pat} (g : Gap) {ps : List Piece} {ts : List Tok} → ReadsClass t p
    → ((v : Tok) (q : Pat) → ReadsClass v q → unlined_pattern q ≡ unlined_pattern p → Reread (λ us. P (v ∷ us)) ps ts)
    → Reread P (lay_pattern g p ++ ps) (t ∷ ts)
class_then g atom_class k = swap refl (λ n. refl) (λ w. w) (λ q. k _ _ atom_class refl)
class_then g (variable_class r) k = variable_then g r (λ v q s e. k v q (variable_class s) e)

-- a body is expressions, one at least
abbrev as_body : Exps → Seq
as_body none = sequence (float 0) none
as_body (more e es) = sequence e es

bodied_by : {b : ℕ} {us : List Tok} {es : Exps} (x : Exp) (xs : Exps) → ReadsAll b us es → unlined_all es ≡ unlined_all (more x xs)
    → Twin (ReadsBody b) unlined_body (sequence x xs) us
bodied_by x xs (one_expression {e = e} r) h = record { tree = sequence e none; reads = a_body (one_expression r); same = ap as_body h }
bodied_by x xs (more_expressions {e = e} {es = es} s r rs) h =
    record { tree = sequence e es; reads = a_body (more_expressions s r rs); same = ap as_body h }

bodied : {b : ℕ} {us : List Tok} (x : Exp) (xs : Exps) → Twin (ReadsAll b) unlined_all (more x xs) us
    → Twin (ReadsBody b) unlined_body (sequence x xs) us
bodied x xs a = bodied_by x xs a.reads a.same

-- whether a `try` handles anything doesn't depend on lines
handles_unlined : (hs : Catches) (a : After) → handles (unlined_catches hs) (unlined_after a) ≡ handles hs a
handles_unlined no_catches no_after = refl
handles_unlined no_catches (after s) = refl
handles_unlined (more_catches h hs) no_after = refl
handles_unlined (more_catches h hs) (after s) = refl

handles_same : (hs is : Catches) (a c : After) → unlined_catches hs ≡ unlined_catches is → unlined_after a ≡ unlined_after c
    → handles is c ≡ true → handles hs a ≡ true
handles_same hs is a c h j e = sym (handles_unlined hs a) ∙ (λ i. handles (h i) (j i)) ∙ handles_unlined is c ∙ e

last_same : (k l : ℕ) (es fs : Exps) (t u : Exp) → unlined_all es ≡ unlined_all fs → unlined t ≡ unlined u
    → unlined (list_with_tail k es t) ≡ unlined (list_with_tail l fs u)
last_same k l es fs t u h j = ap (apply 0 ListWithTail) (unlined_last es t ∙ (λ i. with_last (h i) (j i)) ∙ sym (unlined_last fs u))

-- if the level of what stands outermost is known otherwise
leveled : {b k : ℕ} (e : Exp) {ps : List Piece} {ts : List Tok} → outer e ≡ k
    → Reread (Twin (Reads b k) unlined e) ps ts → Reread (Twin (Reads b (outer e)) unlined e) ps ts
leveled {b} e {ps} {ts} h r = subst (λ k. Reread (Twin (Reads b k) unlined e) ps ts) (sym h) r

-- what stands after the patterns of a clause
abbrev ReadsBehind : ℕ → List Tok → Guards × Seq → Type 0
ReadsBehind b us x = ReadsRest b us x.0 x.1

abbrev unlined_rest : Guards × Seq → Guards × Seq
unlined_rest x = (unlined_guard x.0, unlined_body x.1)

-- patterns in parentheses, as many as before
parameters_again : {b : ℕ} {us : List Tok} (ps : Pats) (qs : Pats) (c : ClauseTree) → unlined_patterns qs ≡ unlined_patterns ps
    → ReadsClause b (parameters (pats_count qs)) us c → ReadsClause b (parameters (pats_count ps)) us c
parameters_again {b} {us} ps qs c h r =
    subst (λ n. ReadsClause b (parameters n) us c) (sym (count_unlined qs) ∙ ap pats_count h ∙ count_unlined ps) r

mutual
  pub again : {m k : ℕ} {ts : List Tok} {e : Exp} → Reads m k ts e → (b : ℕ) (g : Gap) (d : ℕ) → Room (depth e) b
      → Reread (Twin (Reads b (outer e)) unlined e) (lay g d e) ts
  again (r_variable {x = x}) b g d h = swap refl (λ n. refl) (λ w. w) (λ q. done (record { tree = variable q.line x; reads = r_variable; same = refl }))
  again (r_atom {a = a}) b g d h = swap refl (λ n. refl) (λ w. w) (λ q. done (record { tree = atom q.line a; reads = r_atom; same = refl }))
  again (r_integer {n = n} w) b g d h =
      swap refl (λ n. refl) (λ w. w) (λ q. done (record { tree = int q.line (pos n); reads = r_integer w; same = refl }))
  again (r_character {c = c}) b g d h = character (λ w q. record { tree = int q.line (pos c); reads = r_integer w; same = refl })
  again (r_string {cs = cs} r) b g d h =
      mapped (λ us s. record { tree = string (line_at us) cs; reads = r_string s; same = refl }) (string_again r g)
  again r_float b g d h = swap refl (λ n. refl) (λ w. w) (λ q. done (record { tree = float q.line; reads = r_float; same = refl }))
  again (r_list o c r) b g d h = mark_then (λ q e. join (all_or_none_again r b tight blank d (omega (arith, h))) (λ us a. mark_then (λ z f.
      done (record { tree = list q.line a.tree; reads = r_list q z a.reads; same = λ i. list 0 (a.same i) }))))
  again (r_list_with_tail {es = es} {t = t} o w c rs r) b g d h =
      let j = depths_last es t in
      relaid (with_tail_laid rs g d o.line t) (mark_then (λ q e. join (all_again rs b tight blank d (omega (arith, h, j))) (λ us a. mark_then (λ y f.
      join (again r b blank d (omega (arith, h, j))) (λ vs v. mark_then (λ z p.
      done (record {
        tree = list_with_tail q.line a.tree v.tree;
        reads = r_list_with_tail q y z a.reads v.reads;
        same = last_same q.line o.line a.tree es v.tree t a.same v.same;
      })))))))
  again (r_tuple o c r) b g d h = mark_then (λ q e. join (all_or_none_again r b tight blank d (omega (arith, h))) (λ us a. mark_then (λ z f.
      done (record { tree = tuple q.line a.tree; reads = r_tuple q z a.reads; same = λ i. tuple 0 (a.same i) }))))
  again (r_parentheses o c r) b g d h = bared c (again r b g d h)
  again (r_comprehension o w c r rs) b g d h = mark_then (λ q e. join (again r b tight d (omega (arith, h))) (λ us a. mark_then (λ y f.
      join (qualifiers_again rs b d (omega (arith, h))) (λ vs v. mark_then (λ z p.
      done (record {
        tree = comprehension q.line a.tree v.tree;
        reads = r_comprehension q y z a.reads v.reads;
        same = λ i. comprehension 0 (a.same i) (v.same i);
      }))))))
  again (r_begin o c r) b g d h = mark_then (λ q e. join (body_again r b (d + 4) (omega (arith, h))) (λ us a. mark_then (λ z f.
      done (record { tree = begin q.line a.tree; reads = r_begin q z a.reads; same = λ i. begin 0 (a.same i) }))))
  again (r_case o w c r rs) b g d h = mark_then (λ q e. join (again r b blank d (omega (arith, h))) (λ us a. mark_then (λ y f.
      join (clauses_again rs b (line (d + 4)) (d + 4) (d + 4) (omega (arith, h))) (λ vs v. mark_then (λ z p.
      done (record { tree = case q.line a.tree v.tree; reads = r_case q y z a.reads v.reads; same = λ i. case 0 (a.same i) (v.same i) }))))))
  again (r_if o c rs) b g d h =
      mark_then (λ q e. join (clauses_again rs b (line (d + 4)) (d + 4) (d + 4) (omega (arith, h))) (λ us a. mark_then (λ z f.
      done (record { tree = if_clauses q.line a.tree; reads = r_if q z a.reads; same = λ i. if_clauses 0 (a.same i) }))))
  again (r_receive o c rs) b g d h =
      mark_then (λ q e. join (clauses_again rs b (line (d + 4)) (d + 4) (d + 4) (omega (arith, h))) (λ us a. mark_then (λ z f.
      done (record { tree = receive q.line a.tree; reads = r_receive q z a.reads; same = λ i. receive 0 (a.same i) }))))
  again (r_receive_after o x w c rs r s) b g d h =
      mark_then (λ q e. join (clauses_or_none_again rs b (line (d + 4)) (d + 4) (d + 4) (omega (arith, h))) (λ us a. mark_then (λ y f.
      join (again r b blank d (omega (arith, h))) (λ vs v. mark_then (λ t p.
      join (body_again s b (d + 4) (omega (arith, h))) (λ ws u. mark_then (λ z k.
      done (record {
        tree = receive_after q.line a.tree v.tree u.tree;
        reads = r_receive_after q y t z a.reads v.reads u.reads;
        same = λ i. receive_after 0 (a.same i) (v.same i) (u.same i);
      }))))))))
  again (r_try {hs = hs} {a = a} o c s cs js x w) b g d h = mark_then (λ q e. join (body_again s b (d + 4) (omega (arith, h))) (λ us u.
      join (of_again cs b d (omega (arith, h))) (λ vs v. join (catch_again js b d (omega (arith, h))) (λ ws k.
      join (after_again x b d (omega (arith, h))) (λ xs y. mark_then (λ z f.
      done (record {
        tree = try q.line u.tree v.tree k.tree y.tree;
        reads = r_try q z u.reads v.reads k.reads y.reads (handles_same k.tree hs y.tree a k.same y.same w);
        same = λ i. try 0 (u.same i) (v.same i) (k.same i) (y.same i);
      })))))))
  again (r_fun o c rs w) b g d h = mark_then (λ q e. join (clauses_again rs b tight d (d + 4) (omega (arith, h))) (λ us a. mark_then (λ z f.
      done (record { tree = fun_clauses q.line q.funs a.tree; reads = r_fun q z a.reads w; same = λ i. fun_clauses 0 (e i) (a.same i) }))))
  again (r_fun_local {n = n} {f = f} o s x a w) b g d h = mark_then (λ q e. swap refl (λ m. refl) (λ w. w) (λ r. mark_then (λ y k. swap refl (λ m. refl) (λ w. w) (λ z.
      done (record { tree = fun_local q.line q.funs f n; reads = r_fun_local q r y z w; same = λ i. fun_local 0 (e i) f n })))))
  again (r_fun_remote {n = n} {h = j} {f = f} o t c s x a w) b g d h =
      mark_then (λ q e. swap refl (λ m. refl) (λ w. w) (λ u. mark_then (λ v p. swap refl (λ m. refl) (λ w. w) (λ r. mark_then (λ y k. swap refl (λ m. refl) (λ w. w) (λ z.
      done (record { tree = fun_remote q.line j f n; reads = r_fun_remote q u v r y z w; same = refl })))))))
  again (r_call {f = f} {es = es} o c r rs) zero g d h = absurd (omega (arith, h))
  again (r_call {ts = ts} {f = f} {es = es} o c r rs) (suc b) g d h =
      let j = depth_call (line_at ts) f es in
      leveled (call (line_at ts) f es) (outer_call (line_at ts) f es) (relaid (call_laid g d (line_at ts) f es)
      (join (called f d ts (λ n p w. again r n p d w) (suc b) g (omega (arith, h, j))) (λ us a. mark_then (λ y e.
      join (all_or_none_again rs b tight blank d (omega (arith, h, j))) (λ vs v. mark_then (λ z k.
      done (record {
        tree = call (line_at us) a.tree v.tree;
        reads = r_call y z a.reads v.reads;
        same = call_same (line_at us) (line_at ts) a.tree f v.tree es a.same v.same;
      })))))))
  again (r_remote_call x o c r s rs) zero g d h = absurd (omega (arith, h))
  again (r_remote_call {ts = ts} {us = us} {h = j} {f = f} x o c r s rs) (suc b) g d h =
      join (called j d ts (λ n p w. again r n p d w) (suc b) g (omega (arith, h))) (λ ks k. mark_then (λ t i.
      join (called f d us (λ n p w. again s n p d w) (suc b) tight (omega (arith, h))) (λ ws a. mark_then (λ y e.
      join (all_or_none_again rs b tight blank d (omega (arith, h))) (λ vs v. mark_then (λ z l.
      done (record {
        tree = remote_call (line_at ks) k.tree a.tree v.tree;
        reads = r_remote_call t y z k.reads a.reads v.reads;
        same = λ i. remote_call 0 (k.same i) (a.same i) (v.same i);
      })))))))
  again (r_prefix {ts = ts} {e = e} x o s p w r) b g d h =
      swap refl (λ n. prefix_no_fun (prefix_mark o) o (prefix_again o) n ∙ sym (prefix_no_fun x o p n)) (λ w. tt) (λ q. mapped (λ us a.
      let t = a.tightly in
      record {
        tree = unary q.line o a.twin.tree;
        reads = r_prefix (prefix_mark o) o q (prefix_again o) (omega (arith, t)) a.twin.reads;
        same = λ i. unary 0 o (a.twin.same i);
      })
      (operand e d ts (λ n p w. again r n p d w) b (prefix_gap o) (omega (arith, h))))
  again (r_infix {ts = ts} {us = us} {a = a} {b = c} x (strict o) s p j k r t) b g d h =
      infix_between x (infix_mark o) (strict o) s (line_at ts) p (infix_again o)
      (operand a d ts (λ n q w. again r n q d w) b g (omega (arith, h))) (operand c d us (λ n q w. again t n q d w) b blank (omega (arith, h)))
  again (r_infix {ts = ts} {us = us} {a = a} {b = c} x andalso s p j k r t) b g d h =
      infix_between x mark.AndAlso andalso s (line_at ts) p refl
      (operand a d ts (λ n q w. again r n q d w) b g (omega (arith, h))) (operand c d us (λ n q w. again t n q d w) b blank (omega (arith, h)))
  again (r_infix {ts = ts} {us = us} {a = a} {b = c} x orelse s p j k r t) b g d h =
      infix_between x mark.OrElse orelse s (line_at ts) p refl
      (operand a d ts (λ n q w. again r n q d w) b g (omega (arith, h))) (operand c d us (λ n q w. again t n q d w) b blank (omega (arith, h)))
  again (r_infix {ts = ts} {us = us} {a = a} {b = c} x sends s p j k r t) b g d h =
      infix_between x mark.Bang sends s (line_at ts) p refl
      (operand a d ts (λ n q w. again r n q d w) b g (omega (arith, h))) (operand c d us (λ n q w. again t n q d w) b blank (omega (arith, h)))
  again (r_match s p r) b g d h = join (pattern_again p g) (λ us a. mark_then (λ y f. mapped (λ vs v.
      record { tree = match (line_at us) a.tree v.tree; reads = r_match y a.reads v.reads; same = λ i. match 0 (a.same i) (v.same i) })
      (again r b blank d (omega (arith, h)))))
  again (r_catch {ts = ts} {e = e} s r) b g d h = mark_then (λ q f. mapped (λ us a.
      record { tree = catch q.line a.twin.tree; reads = r_catch q a.twin.reads; same = λ i. catch 0 (a.twin.same i) })
      (operand e d ts (λ n p w. again r n p d w) b blank (omega (arith, h))))

  pub all_again : {m : ℕ} {ts : List Tok} {es : Exps} → ReadsAll m ts es → (b : ℕ) (g h : Gap) (d : ℕ) → Room (depths es) b
      → Reread (Twin (ReadsAll b) unlined_all es) (lay_all g h d es) ts
  all_again (one_expression r) b g h d room = alone (mapped (λ us a.
      record { tree = more a.tree none; reads = one_expression a.reads; same = λ i. more (a.same i) none }) (again r b g d (omega (arith, room))))
  all_again (more_expressions {e = e} s r rs) b g h d room = relaid (ap (λ v. lay g d e ++ v) (more_laid rs h d))
      (join (again r b g d (omega (arith, room))) (λ us a. mark_then (λ y f. mapped (λ vs v.
      record { tree = more a.tree v.tree; reads = more_expressions y a.reads v.reads; same = λ i. more (a.same i) (v.same i) })
      (all_again rs b h h d (omega (arith, room))))))

  pub all_or_none_again : {m : ℕ} {ts : List Tok} {es : Exps} → ReadsAllOrNone m ts es → (b : ℕ) (g h : Gap) (d : ℕ) → Room (depths es) b
      → Reread (Twin (ReadsAllOrNone b) unlined_all es) (lay_all g h d es) ts
  all_or_none_again no_expressions b g h d room = done (record { tree = none; reads = no_expressions; same = refl })
  all_or_none_again (some_expressions r) b g h d room =
      mapped (λ us a. record { tree = a.tree; reads = some_expressions a.reads; same = a.same }) (all_again r b g h d room)

  pub body_again : {m : ℕ} {ts : List Tok} {s : Seq} → ReadsBody m ts s → (b d : ℕ) → Room (sequence_depth s) b
      → Reread (Twin (ReadsBody b) unlined_body s) (lay_body d s) ts
  body_again (a_body {e = e} {es = es} r) b d room = mapped (λ us a. bodied e es a) (all_again r b (line d) (line d) d room)

  pub guard_again : {m : ℕ} {ts : List Tok} {gs : Guards} → ReadsGuard m ts gs → (b : ℕ) (g : Gap) (d : ℕ) → Room (guard_depth gs) b
      → Reread (Twin (ReadsGuard b) unlined_guard gs) (lay_guard g d gs) ts
  guard_again (last_alternative r) b g d room = alone (mapped (λ us a.
      record { tree = alternative a.tree no_guard; reads = last_alternative a.reads; same = λ i. alternative (a.same i) no_guard })
      (all_again r b g blank d (omega (arith, room))))
  guard_again (next_alternative {es = es} s r rs) b g d room = relaid (ap (λ v. lay_all g blank d es ++ v) (alternatives_laid rs d))
      (join (all_again r b g blank d (omega (arith, room))) (λ us a. mark_then (λ y f. mapped (λ vs v.
      record { tree = alternative a.tree v.tree; reads = next_alternative y a.reads v.reads; same = λ i. alternative (a.same i) (v.same i) })
      (guard_again rs b blank d (omega (arith, room))))))

  pub rest_again : {m : ℕ} {ts : List Tok} {gs : Guards} {s : Seq} → ReadsRest m ts gs s → (b d : ℕ)
      → Room (max (guard_depth gs) (sequence_depth s)) b
      → Reread (Twin (ReadsBehind b) unlined_rest (gs, s)) (lay_when d gs ++ sign blank mark.Arrow ∷ lay_body (d + 4) s) ts
  rest_again (without_guard w r) b d room = mark_then (λ q e. mapped (λ us a.
      record { tree = (no_guard, a.tree); reads = without_guard q a.reads; same = λ i. (no_guard, a.same i) })
      (body_again r b (d + 4) (omega (arith, room))))
  rest_again (rule.with_guard {s = s} h w r t) b d room =
      relaid (ap (λ v. v ++ sign blank mark.Arrow ∷ lay_body (d + 4) s) (when_laid r d))
      (mark_then (λ q e. join (guard_again r b blank d (omega (arith, room))) (λ us a. mark_then (λ y f. mapped (λ vs v.
      record { tree = (a.tree, v.tree); reads = rule.with_guard q y a.reads v.reads; same = λ i. (a.same i, v.same i) })
      (body_again t b (d + 4) (omega (arith, room)))))))

  pub clause_again : {m : ℕ} {h : Head} {ts : List Tok} {c : ClauseTree} → ReadsClause m h ts c → (b : ℕ) (g : Gap) (d : ℕ)
      → Room (clause_depth c) b → Reread (Twin (ReadsClause b h) unlined_clause c) (lay_clause (opening h) g d c) ts
  clause_again (pattern_clause p r) b g d room = join (alone (pattern_again p g)) (λ us a. mapped (λ vs v.
      record {
        tree = clause (pattern.more a.tree pattern.none) v.tree.0 v.tree.1;
        reads = pattern_clause a.reads v.reads;
        same = λ i. clause (pattern.more (a.same i) pattern.none) (v.same i).0 (v.same i).1;
      })
      (rest_again r b d (omega (arith, room))))
  clause_again (guard_clause w r t) b g d room = join (guard_again r b g d (omega (arith, room))) (λ us a. mark_then (λ y f. mapped (λ vs v.
      record {
        tree = clause pattern.none a.tree v.tree;
        reads = guard_clause y a.reads v.reads;
        same = λ i. clause pattern.none (a.same i) (v.same i);
      })
      (body_again t b (d + 4) (omega (arith, room)))))
  clause_again (parameters_clause o c p r) zero g d room = absurd (omega (arith, room))
  clause_again (parameters_clause {ps = ps} {g = gs} {s = s} o c p r) (suc b) g d room =
      mark_then (λ q e. relaid
      (append_assoc (lay_patterns tight ps) (sign tight mark.ParenClose ∷ []) (lay_when d gs ++ sign blank mark.Arrow ∷ lay_body (d + 4) s))
      (join (patterns_or_none_again p tight) (λ us a. mark_then (λ y f. mapped (λ vs v.
      let t : ClauseTree = clause a.tree v.tree.0 v.tree.1 in
      record {
        tree = t;
        reads = parameters_again ps a.tree t a.same (parameters_clause q y a.reads v.reads);
        same = λ i. clause (a.same i) (v.same i).0 (v.same i).1;
      })
      (rest_again r (suc b) d (omega (arith, room)))))))
  clause_again (named_clause {f = f} {c = c} s r) b g d room = relaid (named_laid f g d c) (swap refl (λ n. refl) (λ w. w) (λ q. mapped (λ us a.
      record { tree = a.tree; reads = named_clause q a.reads; same = a.same }) (clause_again r b tight d room)))

  pub clauses_again : {m : ℕ} {h : Head} {ts : List Tok} {cs : Clauses} → ReadsClauses m h ts cs → (b : ℕ) (g : Gap) (d e : ℕ)
      → Room (clauses_depth cs) b → Reread (Twin (ReadsClauses b h) unlined_clauses cs) (lay_clauses (opening h) g d e cs) ts
  clauses_again (last_clause r) b g d e room = alone (mapped (λ us a.
      record { tree = more_clauses a.tree no_clauses; reads = last_clause a.reads; same = λ i. more_clauses (a.same i) no_clauses })
      (clause_again r b g d (omega (arith, room))))
  clauses_again (next_clause {h = h} {c = c} s r rs) b g d e room =
      relaid (ap (λ v. lay_clause (opening h) g d c ++ v) (more_clauses_laid rs (opening h) e))
      (join (clause_again r b g d (omega (arith, room))) (λ us a. mark_then (λ y f. mapped (λ vs v.
      record { tree = more_clauses a.tree v.tree; reads = next_clause y a.reads v.reads; same = λ i. more_clauses (a.same i) (v.same i) })
      (clauses_again rs b (line e) e e (omega (arith, room))))))

  pub clauses_or_none_again : {m : ℕ} {h : Head} {ts : List Tok} {cs : Clauses} → ReadsClausesOrNone m h ts cs → (b : ℕ) (g : Gap) (d e : ℕ)
      → Room (clauses_depth cs) b → Reread (Twin (ReadsClausesOrNone b h) unlined_clauses cs) (lay_clauses (opening h) g d e cs) ts
  clauses_or_none_again without_clauses b g d e room = done (record { tree = no_clauses; reads = without_clauses; same = refl })
  clauses_or_none_again (some_clauses rs) b g d e room =
      mapped (λ us a. record { tree = a.tree; reads = some_clauses a.reads; same = a.same }) (clauses_again rs b g d e room)

  pub of_again : {m : ℕ} {ts : List Tok} {cs : Clauses} → ReadsOf m ts cs → (b d : ℕ) → Room (clauses_depth cs) b
      → Reread (Twin (ReadsOf b) unlined_clauses cs) (lay_of d cs) ts
  of_again without_of b d room = done (record { tree = no_clauses; reads = without_of; same = refl })
  of_again (with_of w rs) b d room = relaid (of_laid rs d) (mark_then (λ q e. mapped (λ us a.
      record { tree = a.tree; reads = with_of q a.reads; same = a.same }) (clauses_again rs b (line (d + 4)) (d + 4) (d + 4) room)))

  pub catch_again : {m : ℕ} {ts : List Tok} {hs : Catches} → ReadsCatch m ts hs → (b d : ℕ) → Room (catches_depth hs) b
      → Reread (Twin (ReadsCatch b) unlined_catches hs) (lay_catch d hs) ts
  catch_again without_catch b d room = done (record { tree = no_catches; reads = without_catch; same = refl })
  catch_again (with_catch w rs) b d room = relaid (catch_laid rs d) (mark_then (λ q e. mapped (λ us a.
      record { tree = a.tree; reads = with_catch q a.reads; same = a.same }) (handlers_again rs b (d + 4) room)))

  pub after_again : {m : ℕ} {ts : List Tok} {x : After} → ReadsAfter m ts x → (b d : ℕ) → Room (after_depth x) b
      → Reread (Twin (ReadsAfter b) unlined_after x) (lay_after d x) ts
  after_again without_after b d room = done (record { tree = no_after; reads = without_after; same = refl })
  after_again (with_after w r) b d room = mark_then (λ q e. mapped (λ us a.
      record { tree = after a.tree; reads = with_after q a.reads; same = λ i. after (a.same i) }) (body_again r b (d + 4) room))

  pub handler_again : {m : ℕ} {ts : List Tok} {h : CatchTree} → ReadsHandler m ts h → (b d : ℕ) → Room (catch_depth h) b
      → Reread (Twin (ReadsHandler b) unlined_handler h) (lay_handler d h) ts
  handler_again (thrown p r) b d room = added refl (λ n. refl) sound_throw (λ q. added refl (λ n. refl) tt (λ y. join (pattern_again p tight) (λ us a. mapped (λ vs v.
      record {
        tree = catch_clause (pattern.atom q.line (codes "throw")) a.tree None v.tree.0 v.tree.1;
        reads = with_class y atom_class a.reads v.reads;
        same = λ i. catch_clause (pattern.atom 0 (codes "throw")) (a.same i) None (v.same i).0 (v.same i).1;
      })
      (rest_again r b d (omega (arith, room))))))
  handler_again (with_class x c p r) b d room = class_then (line d) c (λ t u k e. mark_then (λ y f. join (pattern_again p tight) (λ us a. mapped (λ vs v.
      record {
        tree = catch_clause u a.tree None v.tree.0 v.tree.1;
        reads = with_class y k a.reads v.reads;
        same = λ i. catch_clause (e i) (a.same i) None (v.same i).0 (v.same i).1;
      })
      (rest_again r b d (omega (arith, room))))))
  handler_again (with_stack x z c p w r) b d room = class_then (line d) c (λ t u k e. mark_then (λ y f. join (pattern_again p tight) (λ us a.
      mark_then (λ o l. variable_then tight w (λ s n j m. mapped (λ vs v.
      record {
        tree = catch_clause u a.tree (Some n) v.tree.0 v.tree.1;
        reads = with_stack y o k a.reads j v.reads;
        same = λ i. catch_clause (e i) (a.same i) (Some (m i)) (v.same i).0 (v.same i).1;
      })
      (rest_again r b d (omega (arith, room))))))))

  pub handlers_again : {m : ℕ} {ts : List Tok} {hs : Catches} → ReadsHandlers m ts hs → (b d : ℕ) → Room (catches_depth hs) b
      → Reread (Twin (ReadsHandlers b) unlined_catches hs) (lay_handlers d hs) ts
  handlers_again (last_handler r) b d room = alone (mapped (λ us a.
      record { tree = more_catches a.tree no_catches; reads = last_handler a.reads; same = λ i. more_catches (a.same i) no_catches })
      (handler_again r b d (omega (arith, room))))
  handlers_again (next_handler {h = h} s r rs) b d room = relaid (ap (λ v. lay_handler d h ++ v) (more_handlers_laid rs d))
      (join (handler_again r b d (omega (arith, room))) (λ us a. mark_then (λ y f. mapped (λ vs v.
      record { tree = more_catches a.tree v.tree; reads = next_handler y a.reads v.reads; same = λ i. more_catches (a.same i) (v.same i) })
      (handlers_again rs b d (omega (arith, room))))))

  pub qualifier_again : {m : ℕ} {ts : List Tok} {q : QualifierTree} → ReadsQualifier m ts q → (b d : ℕ) → Room (qualifier_depth q) b
      → Reread (Twin (ReadsQualifier b) unlined_qualifier q) (lay_qualifier d q) ts
  qualifier_again (a_generator s p r) b d room = join (pattern_again p blank) (λ us a. mark_then (λ y f. mapped (λ vs v.
      record { tree = generator a.tree v.tree; reads = a_generator y a.reads v.reads; same = λ i. generator (a.same i) (v.same i) })
      (again r b blank d (omega (arith, room)))))
  qualifier_again (a_filter r) b d room =
      mapped (λ us a. record { tree = filter a.tree; reads = a_filter a.reads; same = λ i. filter (a.same i) }) (again r b blank d room)

  pub qualifiers_again : {m : ℕ} {ts : List Tok} {qs : Qualifiers} → ReadsQualifiers m ts qs → (b d : ℕ) → Room (qualifiers_depth qs) b
      → Reread (Twin (ReadsQualifiers b) unlined_qualifiers qs) (lay_qualifiers d qs) ts
  qualifiers_again (last_qualifier r) b d room = alone (mapped (λ us a.
      record { tree = more_qualifiers a.tree no_qualifiers; reads = last_qualifier a.reads; same = λ i. more_qualifiers (a.same i) no_qualifiers })
      (qualifier_again r b d (omega (arith, room))))
  qualifiers_again (next_qualifier {q = q} s r rs) b d room = relaid (ap (λ v. lay_qualifier d q ++ v) (more_qualifiers_laid rs d))
      (join (qualifier_again r b d (omega (arith, room))) (λ us a. mark_then (λ y f. mapped (λ vs v.
      record { tree = more_qualifiers a.tree v.tree; reads = next_qualifier y a.reads v.reads; same = λ i. more_qualifiers (a.same i) (v.same i) })
      (qualifiers_again rs b d (omega (arith, room))))))
