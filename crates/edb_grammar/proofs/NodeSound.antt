-- What begins with a mark or a reserved word, and is read from the front, is what the grammar makes of it.

use Rattle.std.proofs.Common.{◌≡◌, ℕ, zero, suc, ◌≤◌, Bool, true, false, if◌then◌else◌, nat_le, List, [], ◌∷◌, ◌++◌, length, Option, Some, None, refl, sym, ◌∙◌, ap, subst, codes}
use Rattle.edb_scan.specs.declared.lexeme.Mark.{Mark}
use Rattle.edb_scan.specs.declared.lexeme.Mark.TheVariants as mark
use Rattle.edb_scan.specs.declared.lexeme.Token.TheVariants.{Int, Atom, Var}
use Rattle.edb_syntax.specs.Forms.{tuple, list, list_with_tail}
use Rattle.edb_syntax.specs.Patterns as pattern
use Rattle.edb_syntax.specs.Patterns.{Pat, pattern_line}
use Rattle.edb_syntax.specs.Syntax.{Exp, Exps, Seq, After, Clauses, CatchTree, Catches, begin, case, if_clauses, receive, receive_after, try, fun_clauses, fun_local, fun_remote, comprehension, none, more, no_after, after, no_clauses, no_catches, more_catches, generator, filter, no_qualifiers, more_qualifiers}
use Rattle.edb_grammar.specs.Toks.{Place, Tok, tok, word}
use Rattle.edb_grammar.specs.Patterns.{ReadsVariable}
use Rattle.edb_grammar.specs.Expressions.{Reads, ReadsAll, ReadsBody, ReadsClausesOrNone, ReadsOf, ReadsCatch, ReadsAfter, ReadsClass, ReadsHandler, ReadsHandlers, ReadsQualifier, ReadsQualifiers, ReadsClauses, one_pattern, guard_alone, handles, most_parameters, atom_class, variable_class, r_list, r_list_with_tail, r_tuple, r_parentheses, r_comprehension, r_begin, r_case, r_if, r_receive, r_receive_after, r_try, r_fun, r_fun_local, r_fun_remote, one_expression, more_expressions, no_expressions, some_expressions, without_clauses, some_clauses, without_of, with_of, without_catch, with_catch, without_after, with_after, thrown, with_class, with_stack, last_handler, next_handler, a_generator, a_filter, last_qualifier, next_qualifier}
use Rattle.edb_grammar.specs.Reading.{Read, behind, closed, items, onward, made, fork, choose, refuse, provided}
use Rattle.edb_grammar.specs.PatternReading.{variable_pattern, read_pat}
use Rattle.edb_grammar.specs.ExpressionReading.{read_all, read_until, read_body, read_rest, read_pattern_clause, read_guard_clause, read_parameters_clause, read_clauses, first_arity, all_have, is_fun, read_timeout, read_receive, class_of, class_at, read_class, read_stack, catch_of, read_handler, read_of, read_catch, read_after, read_try, read_name, read_arity, read_fun_name, read_fun_clauses, read_fun, read_qualifier, read_qualifiers, read_elements, read_list, read_bracketed, read_marked}
use Rattle.edb_grammar.proofs.Parts.{Got, Sound, some_is, none_no, answered, closed_some, enclosed, items_sound}
use Rattle.edb_grammar.proofs.PatternSound.{AnyPat, variable_is, pat_sound, pat_line}
use Rattle.edb_grammar.proofs.ClimbSound.{onward_some, provided_some, both_true, le_of}
use Rattle.edb_grammar.proofs.ClauseSound.{Any, extend, closed_sound, made_some, fork_sound, all_sound, until_sound, body_sound, rest_sound, pattern_clause_sound, guard_clause_sound, parameters_clause_sound, clauses_sound, parameters_clauses_sound, ParametersClauses}

-- qualifiers
qualifier_sound : (m n : ℕ) (part : Read Exp) → Sound (Any m) part → Sound (ReadsQualifier m) (read_qualifier n part)
qualifier_sound m n part sound ts q h = by (closed mark.From (read_pat n ts)) refl h
  where
    by : (o : Option (Pat × List Tok)) → closed mark.From (read_pat n ts) ≡ o
        → choose o (λ p us. made (generator p) (part us)) (λ us. made filter (part us)) ts ≡ Some q → Got (ReadsQualifier m) ts q
    by (Some p) f k =
        let c = closed_sound AnyPat mark.From (read_pat n) (pat_sound n) ts p f in
        let d = made_some (generator p.0) (part p.1) q k in
        let g = sound p.1 d.0 d.1 in
        let from : Tok = word c.place mark.From in
        answered (ReadsQualifier m) ts (c.used ++ from ∷ g.used) d.0.1 (generator p.0 d.0.0) q d.2 (a_generator c.place c.reads.1 g.reads.1)
        (extend ts c.used (from ∷ p.1) (from ∷ g.used) d.0.1 c.parted (ap (λ v. from ∷ v) g.parted))
    by None f k =
        let d = made_some filter (part ts) q k in
        let g = sound ts d.0 d.1 in
        answered (ReadsQualifier m) ts g.used d.0.1 (filter d.0.0) q d.2 (a_filter g.reads.1) g.parted

qualifiers_sound : (m n : ℕ) (part : Read Exp) → Sound (Any m) part → Sound (ReadsQualifiers m) (read_qualifiers n part)
qualifiers_sound m n part sound ts =
    items_sound (ReadsQualifier m) (ReadsQualifiers m) more_qualifiers no_qualifiers mark.Comma (λ us c r. last_qualifier r)
    (λ s us vs c cs r rs. next_qualifier s r rs) (read_qualifier n part) (qualifier_sound m n part sound) (length ts) ts

-- lists
elements_sound : (m : ℕ) (part : Read Exp) → Sound (Any m) part → (ts used us : List Tok) (e : Exp) → Any m used e → ts ≡ used ++ us
    → (q : Exps × List Tok) → read_elements part e us ≡ Some q → Got (ReadsAll m) ts q
elements_sound m part sound ts used us e r parted q h =
    fork_sound (Got (ReadsAll m) ts) mark.Comma (λ vs. made (more e) (read_all part vs)) (λ vs. Some (more e none, vs)) us q
    (λ s vs f k.
    let d = made_some (more e) (read_all part vs) q k in
    let g = all_sound m part sound vs d.0 d.1 in
    let comma : Tok = word s mark.Comma in
    answered (ReadsAll m) ts (used ++ comma ∷ g.used) d.0.1 (more e d.0.0) q d.2 (more_expressions s r.1 g.reads)
    (extend ts used us (comma ∷ g.used) d.0.1 parted (f ∙ ap (λ v. comma ∷ v) g.parted)))
    (λ k. answered (ReadsAll m) ts used us (more e none) q k (one_expression r.1) parted)
    h

list_sound : (m : ℕ) (part : Read Exp) → Sound (Any m) part → (s : Place) (ts used us : List Tok) (es : Exps) → ReadsAll m used es → ts ≡ used ++ us
    → (q : Exp × List Tok) → read_list part s es us ≡ Some q → Got (Reads m 0) (word s mark.BracketOpen ∷ ts) q
list_sound m part sound s ts used us es r parted q h =
    fork_sound (Got (Reads m 0) (bracket ∷ ts)) mark.BracketClose (λ vs. Some (list s.line es, vs)) second us q
    (λ c vs f k. answered (Reads m 0) (bracket ∷ ts) (bracket ∷ (used ++ word c mark.BracketClose ∷ [])) vs (list s.line es) q k
    (r_list s c (some_expressions r))
    (ap (λ v. bracket ∷ v) (enclosed ts used vs (word c mark.BracketClose) (parted ∙ ap (λ v. used ++ v) f))))
    (λ k. fork_sound (Got (Reads m 0) (bracket ∷ ts)) mark.Bar third refuse us q
    (λ b vs f l.
    let d = made_some (list_with_tail s.line es) (closed mark.BracketClose (part vs)) q l in
    let c = closed_sound (Any m) mark.BracketClose part sound vs d.0 d.1 in
    let bar : Tok = word b mark.Bar in
    let close : Tok = word c.place mark.BracketClose in
    answered (Reads m 0) (bracket ∷ ts) (bracket ∷ (used ++ bar ∷ (c.used ++ close ∷ []))) d.0.1 (list_with_tail s.line es d.0.0) q d.2
    (r_list_with_tail s b c.place r c.reads.1)
    (ap (λ v. bracket ∷ v) (extend ts used us (bar ∷ (c.used ++ close ∷ [])) d.0.1 parted
    (f ∙ ap (λ v. bar ∷ v) (enclosed vs c.used d.0.1 close c.parted)))))
    (λ l. absurd (none_no q l))
    k)
    h
  where
    bracket : Tok
    bracket = word s mark.BracketOpen

    third : Read Exp
    third vs = made (list_with_tail s.line es) (closed mark.BracketClose (part vs))

    second : Read Exp
    second vs = fork (behind mark.Bar vs) third refuse vs

bracketed_sound : (m n : ℕ) (part : Read Exp) → Sound (Any m) part → (s : Place) (ts : List Tok)
    → (q : Exp × List Tok) → read_bracketed n part s ts ≡ Some q → Got (Reads m 0) (word s mark.BracketOpen ∷ ts) q
bracketed_sound m n part sound s ts q h =
    fork_sound (Got (Reads m 0) (bracket ∷ ts)) mark.BracketClose (λ us. Some (list s.line none, us)) second ts q
    (λ c us f k. answered (Reads m 0) (bracket ∷ ts) (bracket ∷ word c mark.BracketClose ∷ []) us (list s.line none) q k
    (r_list s c no_expressions) (ap (λ v. bracket ∷ v) f))
    (λ k.
    let o = onward_some (part ts) behind_first q k in
    let g = sound ts o.0 o.1 in
    fork_sound (Got (Reads m 0) (bracket ∷ ts)) mark.BarBar (qualified o.0.0) (λ ws. onward (read_elements part o.0.0 ws) (read_list part s)) o.0.1 q
    (λ b us f l.
    let d = made_some (comprehension s.line o.0.0) (closed mark.BracketClose (read_qualifiers n part us)) q l in
    let c = closed_sound (ReadsQualifiers m) mark.BracketClose (read_qualifiers n part) (qualifiers_sound m n part sound) us d.0 d.1 in
    let bars : Tok = word b mark.BarBar in
    let close : Tok = word c.place mark.BracketClose in
    answered (Reads m 0) (bracket ∷ ts) (bracket ∷ (g.used ++ bars ∷ (c.used ++ close ∷ []))) d.0.1 (comprehension s.line o.0.0 d.0.0) q d.2
    (r_comprehension s b c.place g.reads.1 c.reads)
    (ap (λ v. bracket ∷ v) (extend ts g.used o.0.1 (bars ∷ (c.used ++ close ∷ [])) d.0.1 g.parted
    (f ∙ ap (λ v. bars ∷ v) (enclosed us c.used d.0.1 close c.parted)))))
    (λ l.
    let d = onward_some (read_elements part o.0.0 o.0.1) (read_list part s) q l in
    let es = elements_sound m part sound ts g.used o.0.1 o.0.0 g.reads g.parted d.0 d.1 in
    list_sound m part sound s ts es.used d.0.1 d.0.0 es.reads es.parted q d.2)
    o.2)
    h
  where
    bracket : Tok
    bracket = word s mark.BracketOpen

    qualified : Exp → Read Exp
    qualified e ws = made (comprehension s.line e) (closed mark.BracketClose (read_qualifiers n part ws))

    behind_first : Exp → Read Exp
    behind_first e vs = fork (behind mark.BarBar vs) (qualified e) (λ ws. onward (read_elements part e ws) (read_list part s)) vs

    second : Read Exp
    second us = onward (part us) behind_first

-- `receive`
timeout_sound : (m : ℕ) (part : Read Exp) → Sound (Any m) part → (s : Place) (ts used us : List Tok) (cs : Clauses)
    → ReadsClausesOrNone m one_pattern used cs → (a : Place) → ts ≡ used ++ word a mark.After ∷ us
    → (q : Exp × List Tok) → read_timeout part s cs us ≡ Some q → Got (Reads m 0) (word s mark.Receive ∷ ts) q
timeout_sound m part sound s ts used us cs r a parted q h =
    let o = onward_some (closed mark.Arrow (part us)) (λ e vs. made (receive_after s.line cs e) (closed mark.End (read_body part vs))) q h in
    let c = closed_sound (Any m) mark.Arrow part sound us o.0 o.1 in
    let d = made_some (receive_after s.line cs o.0.0) (closed mark.End (read_body part o.0.1)) q o.2 in
    let b = closed_sound (ReadsBody m) mark.End (read_body part) (body_sound m part sound) o.0.1 d.0 d.1 in
    let begins : Tok = word s mark.Receive in
    let behind_it : Tok = word a mark.After in
    let arrow : Tok = word c.place mark.Arrow in
    let ends : Tok = word b.place mark.End in
    answered (Reads m 0) (begins ∷ ts) (begins ∷ (used ++ behind_it ∷ (c.used ++ arrow ∷ (b.used ++ ends ∷ [])))) d.0.1
    (receive_after s.line cs o.0.0 d.0.0) q d.2 (r_receive_after s a c.place b.place r c.reads.1 b.reads)
    (ap (λ v. begins ∷ v) (extend ts used (behind_it ∷ us) (behind_it ∷ (c.used ++ arrow ∷ (b.used ++ ends ∷ []))) d.0.1 parted
    (ap (λ v. behind_it ∷ v) (extend us c.used (arrow ∷ o.0.1) (arrow ∷ (b.used ++ ends ∷ [])) d.0.1 c.parted
    (ap (λ v. arrow ∷ v) (enclosed o.0.1 b.used d.0.1 ends b.parted))))))

receive_sound : (m n : ℕ) (part : Read Exp) → Sound (Any m) part → (s : Place) (ts : List Tok)
    → (q : Exp × List Tok) → read_receive n part s ts ≡ Some q → Got (Reads m 0) (word s mark.Receive ∷ ts) q
receive_sound m n part sound s ts q h =
    fork_sound (Got (Reads m 0) (begins ∷ ts)) mark.After (read_timeout part s no_clauses) second ts q
    (λ a us f k. timeout_sound m part sound s ts [] us no_clauses without_clauses a f q k)
    (λ k.
    let o = onward_some (read_clauses (read_pattern_clause n part) ts) behind_clauses q k in
    let g = clauses_sound m one_pattern (read_pattern_clause n part) (pattern_clause_sound m n part sound) ts o.0 o.1 in
    fork_sound (Got (Reads m 0) (begins ∷ ts)) mark.End (λ ws. Some (receive s.line o.0.0, ws)) (timed o.0.0) o.0.1 q
    (λ c us f l. answered (Reads m 0) (begins ∷ ts) (begins ∷ (g.used ++ word c mark.End ∷ [])) us (receive s.line o.0.0) q l
    (r_receive s c g.reads)
    (ap (λ v. begins ∷ v) (enclosed ts g.used us (word c mark.End) (g.parted ∙ ap (λ v. g.used ++ v) f))))
    (λ l. fork_sound (Got (Reads m 0) (begins ∷ ts)) mark.After (read_timeout part s o.0.0) refuse o.0.1 q
    (λ a us f p. timeout_sound m part sound s ts g.used us o.0.0 (some_clauses g.reads) a (g.parted ∙ ap (λ v. g.used ++ v) f) q p)
    (λ p. absurd (none_no q p))
    l)
    o.2)
    h
  where
    begins : Tok
    begins = word s mark.Receive

    timed : Clauses → Read Exp
    timed cs ws = fork (behind mark.After ws) (read_timeout part s cs) refuse ws

    behind_clauses : Clauses → Read Exp
    behind_clauses cs vs = fork (behind mark.End vs) (λ ws. Some (receive s.line cs, ws)) (timed cs) vs

    second : Read Exp
    second us = onward (read_clauses (read_pattern_clause n part) us) behind_clauses

-- `try`
record HasClass (ts : List Tok) (q : Pat × List Tok) : Type 0 where
  token : Tok
  place : Place
  reads : ReadsClass token q.0
  parted : ts ≡ token ∷ word place mark.Colon ∷ q.1

class_reads : (t : Tok) (c : Pat) → class_of t ≡ Some c → ReadsClass t c
class_reads (tok s (Atom a)) c h = subst (ReadsClass (tok s (Atom a))) (some_is (pattern.atom s.line a) c h) atom_class
class_reads (tok s (Var x)) c h = subst (ReadsClass (tok s (Var x))) (some_is (variable_pattern s.line x) c h) (variable_class (variable_is s x))
class_reads (tok s _) c h = absurd (none_no c h)

class_sound : (ts : List Tok) (q : Pat × List Tok) → read_class ts ≡ Some q → HasClass ts q
class_sound [] q h = absurd (none_no q h)
class_sound (t ∷ ts) q h = by (class_of t) refl h
  where
    by : (o : Option Pat) → class_of t ≡ o → class_at o ts ≡ Some q → HasClass (t ∷ ts) q
    by None e k = absurd (none_no q k)
    by (Some c) e k =
        let d = closed_some mark.Colon (Some (c, ts)) q k in
        let p = some_is (c, ts) (q.0, word d.0 mark.Colon ∷ q.1) d.1 in
        record { token = t; place = d.0; reads = class_reads t q.0 (e ∙ λ i. Some ((p i).0)); parted = λ i. t ∷ (p i).1 }

record HasStack (ts : List Tok) (q : Pat × List Tok) : Type 0 where
  token : Tok
  reads : ReadsVariable token q.0
  parted : ts ≡ token ∷ q.1

stack_sound : (ts : List Tok) (q : Pat × List Tok) → read_stack ts ≡ Some q → HasStack ts q
stack_sound (tok s (Var x) ∷ ts) q h =
    subst (HasStack (tok s (Var x) ∷ ts)) (some_is (variable_pattern s.line x, ts) q h)
    (record { token = tok s (Var x); reads = variable_is s x; parted = refl })
stack_sound _ q h = absurd (none_no q h)

handler_sound : (m n : ℕ) (part : Read Exp) → Sound (Any m) part → Sound (ReadsHandler m) (read_handler n part)
handler_sound m n part sound ts q h = by (read_class ts) refl h
  where
    traced : Pat → Pat → Read CatchTree
    traced c p ws = onward (read_stack ws) (λ v xs. made (catch_of c p (Some v)) (read_rest part xs))

    untraced : Pat → Pat → Read CatchTree
    untraced c p ws = made (catch_of c p None) (read_rest part ws)

    behind_pattern : Pat → Pat → Read CatchTree
    behind_pattern c p vs = fork (behind mark.Colon vs) (traced c p) (untraced c p) vs

    classed : Pat → Read CatchTree
    classed c us = onward (read_pat n us) (behind_pattern c)

    throws : Pat → Read CatchTree
    throws p vs = made (catch_of (pattern.atom (pattern_line p) (codes "throw")) p None) (read_rest part vs)

    unclassed : Read CatchTree
    unclassed us = onward (read_pat n us) throws

    by : (o : Option (Pat × List Tok)) → read_class ts ≡ o → choose o classed unclassed ts ≡ Some q → Got (ReadsHandler m) ts q
    by (Some c) f k =
        let has = class_sound ts c f in
        let o = onward_some (read_pat n c.1) (behind_pattern c.0) q k in
        let g = pat_sound n c.1 o.0 o.1 in
        let colon : Tok = word has.place mark.Colon in
        fork_sound (Got (ReadsHandler m) ts) mark.Colon (traced c.0 o.0.0) (untraced c.0 o.0.0) o.0.1 q
        (λ e us f l.
        let v = onward_some (read_stack us) (λ v xs. made (catch_of c.0 o.0.0 (Some v)) (read_rest part xs)) q l in
        let x = stack_sound us v.0 v.1 in
        let d = made_some (catch_of c.0 o.0.0 (Some v.0.0)) (read_rest part v.0.1) q v.2 in
        let r = rest_sound m part sound v.0.1 d.0 d.1 in
        let second : Tok = word e mark.Colon in
        answered (ReadsHandler m) ts (has.token ∷ colon ∷ (g.used ++ second ∷ x.token ∷ r.used)) d.0.1 (catch_of c.0 o.0.0 (Some v.0.0) d.0.0) q d.2
        (with_stack has.place e has.reads g.reads.1 x.reads r.reads)
        (has.parted ∙ ap (λ w. has.token ∷ colon ∷ w) (extend c.1 g.used o.0.1 (second ∷ x.token ∷ r.used) d.0.1 g.parted
        (f ∙ ap (λ w. second ∷ w) (x.parted ∙ ap (λ w. x.token ∷ w) r.parted)))))
        (λ l.
        let d = made_some (catch_of c.0 o.0.0 None) (read_rest part o.0.1) q l in
        let r = rest_sound m part sound o.0.1 d.0 d.1 in
        answered (ReadsHandler m) ts (has.token ∷ colon ∷ (g.used ++ r.used)) d.0.1 (catch_of c.0 o.0.0 None d.0.0) q d.2
        (with_class has.place has.reads g.reads.1 r.reads)
        (has.parted ∙ ap (λ w. has.token ∷ colon ∷ w) (extend c.1 g.used o.0.1 r.used d.0.1 g.parted r.parted)))
        o.2
    by None f k =
        let o = onward_some (read_pat n ts) throws q k in
        let g = pat_sound n ts o.0 o.1 in
        let d = made_some (catch_of (pattern.atom (pattern_line o.0.0) (codes "throw")) o.0.0 None) (read_rest part o.0.1) q o.2 in
        let r = rest_sound m part sound o.0.1 d.0 d.1 in
        answered (ReadsHandler m) ts (g.used ++ r.used) d.0.1 (catch_of (pattern.atom (pattern_line o.0.0) (codes "throw")) o.0.0 None d.0.0) q d.2
        (subst (λ l. ReadsHandler m (g.used ++ r.used) (catch_of (pattern.atom l (codes "throw")) o.0.0 None d.0.0)) (sym (pat_line g.reads.1))
        (thrown g.reads.1 r.reads))
        (extend ts g.used o.0.1 r.used d.0.1 g.parted r.parted)

of_sound : (m n : ℕ) (part : Read Exp) → Sound (Any m) part → Sound (ReadsOf m) (read_of n part)
of_sound m n part sound ts q h =
    fork_sound (Got (ReadsOf m) ts) mark.Of (read_clauses (read_pattern_clause n part)) (λ us. Some (no_clauses, us)) ts q
    (λ s us f k.
    let g = clauses_sound m one_pattern (read_pattern_clause n part) (pattern_clause_sound m n part sound) us q k in
    record { used = word s mark.Of ∷ g.used; reads = with_of s g.reads; parted = f ∙ ap (λ v. word s mark.Of ∷ v) g.parted })
    (λ k. answered (ReadsOf m) ts [] ts no_clauses q k without_of refl)
    h

catch_sound : (m n : ℕ) (part : Read Exp) → Sound (Any m) part → Sound (ReadsCatch m) (read_catch n part)
catch_sound m n part sound ts q h =
    fork_sound (Got (ReadsCatch m) ts) mark.Catch handlers (λ us. Some (no_catches, us)) ts q
    (λ s us f k.
    let g = handlers_sound us q k in
    record { used = word s mark.Catch ∷ g.used; reads = with_catch s g.reads; parted = f ∙ ap (λ v. word s mark.Catch ∷ v) g.parted })
    (λ k. answered (ReadsCatch m) ts [] ts no_catches q k without_catch refl)
    h
  where
    handlers : Read Catches
    handlers us = items more_catches no_catches mark.Semicolon (read_handler n part) (length us) us

    handlers_sound : Sound (ReadsHandlers m) handlers
    handlers_sound us =
        items_sound (ReadsHandler m) (ReadsHandlers m) more_catches no_catches mark.Semicolon (λ vs c r. last_handler r)
        (λ s vs ws c cs r rs. next_handler s r rs) (read_handler n part) (handler_sound m n part sound) (length us) us

after_sound : (m : ℕ) (part : Read Exp) → Sound (Any m) part → Sound (ReadsAfter m) (read_after part)
after_sound m part sound ts q h =
    fork_sound (Got (ReadsAfter m) ts) mark.After (λ us. made after (read_body part us)) (λ us. Some (no_after, us)) ts q
    (λ s us f k.
    let d = made_some after (read_body part us) q k in
    let g = body_sound m part sound us d.0 d.1 in
    answered (ReadsAfter m) ts (word s mark.After ∷ g.used) d.0.1 (after d.0.0) q d.2 (with_after s g.reads)
    (f ∙ ap (λ v. word s mark.After ∷ v) g.parted))
    (λ k. answered (ReadsAfter m) ts [] ts no_after q k without_after refl)
    h

try_sound : (m n : ℕ) (part : Read Exp) → Sound (Any m) part → (s : Place) (ts : List Tok)
    → (q : Exp × List Tok) → read_try n part s ts ≡ Some q → Got (Reads m 0) (word s mark.Try ∷ ts) q
try_sound m n part sound s ts q h =
    let b = onward_some (read_body part ts) behind_body q h in
    let bs = body_sound m part sound ts b.0 b.1 in
    let c = onward_some (read_of n part b.0.1) (behind_of b.0.0) q b.2 in
    let os = of_sound m n part sound b.0.1 c.0 c.1 in
    let d = onward_some (read_catch n part c.0.1) (behind_catch b.0.0 c.0.0) q c.2 in
    let hs = catch_sound m n part sound c.0.1 d.0 d.1 in
    let a = onward_some (closed mark.End (read_after part d.0.1)) (behind_end b.0.0 c.0.0 d.0.0) q d.2 in
    let e = closed_sound (ReadsAfter m) mark.End (read_after part) (after_sound m part sound) d.0.1 a.0 a.1 in
    let p = provided_some (handles d.0.0 a.0.0) (λ ys. Some (try s.line b.0.0 c.0.0 d.0.0 a.0.0, ys)) a.0.1 q a.2 in
    let begins : Tok = word s mark.Try in
    let ends : Tok = word e.place mark.End in
    answered (Reads m 0) (begins ∷ ts) (begins ∷ (bs.used ++ (os.used ++ (hs.used ++ (e.used ++ ends ∷ []))))) a.0.1
    (try s.line b.0.0 c.0.0 d.0.0 a.0.0) q p.1 (r_try s e.place bs.reads os.reads hs.reads e.reads p.0)
    (ap (λ v. begins ∷ v)
    (extend ts bs.used b.0.1 (os.used ++ (hs.used ++ (e.used ++ ends ∷ []))) a.0.1 bs.parted
    (extend b.0.1 os.used c.0.1 (hs.used ++ (e.used ++ ends ∷ [])) a.0.1 os.parted
    (extend c.0.1 hs.used d.0.1 (e.used ++ ends ∷ []) a.0.1 hs.parted
    (enclosed d.0.1 e.used a.0.1 ends e.parted)))))
  where
    behind_end : Seq → Clauses → Catches → After → Read Exp
    behind_end body cs hs a xs = provided (handles hs a) (λ ys. Some (try s.line body cs hs a, ys)) xs

    behind_catch : Seq → Clauses → Catches → Read Exp
    behind_catch body cs hs ws = onward (closed mark.End (read_after part ws)) (behind_end body cs hs)

    behind_of : Seq → Clauses → Read Exp
    behind_of body cs vs = onward (read_catch n part vs) (behind_catch body cs)

    behind_body : Seq → Read Exp
    behind_body body us = onward (read_of n part us) (behind_of body)

-- `fun`
pub name_some : (ts : List Tok) (q : List ℕ × List Tok) → read_name ts ≡ Some q → (s : Place) × (ts ≡ tok s (Atom q.0) ∷ q.1)
name_some (tok s (Atom f) ∷ ts) q h = (s, λ i. tok s (Atom ((some_is (f, ts) q h i).0)) ∷ (some_is (f, ts) q h i).1)
name_some _ q h = absurd (none_no q h)

pub arity_some : (ts : List Tok) (q : ℕ × List Tok) → read_arity ts ≡ Some q
    → (s : Place) × (ts ≡ tok s (Int q.0) ∷ q.1) × (q.0 ≤ most_parameters)
arity_some (tok s (Int n) ∷ ts) q h = by (nat_le n most_parameters) refl h
  where
    by : (b : Bool) → nat_le n most_parameters ≡ b → (if b then Some (n, ts) else None) ≡ Some q
        → (p : Place) × (tok s (Int n) ∷ ts ≡ tok p (Int q.0) ∷ q.1) × (q.0 ≤ most_parameters)
    by true e k =
        let p = some_is (n, ts) q k in
        (s, λ i. tok s (Int ((p i).0)) ∷ (p i).1, subst (λ v. v ≤ most_parameters) (λ i. (p i).0) (le_of n most_parameters e))
    by false e k = absurd (none_no q k)
arity_some _ q h = absurd (none_no q h)

fun_name_sound : (m : ℕ) (s : Place) (ts : List Tok) (q : Exp × List Tok) → read_fun_name s ts ≡ Some q → Got (Reads m 0) (word s mark.Fun ∷ ts) q
fun_name_sound m s ts q h =
    let o = onward_some (read_name ts) behind_name q h in
    let f = name_some ts o.0 o.1 in
    fork_sound (Got (Reads m 0) (word s mark.Fun ∷ ts)) mark.Slash (local o.0.0) (remote o.0.0) o.0.1 q
    (λ d us e k.
    let p = made_some (fun_local s.line s.funs o.0.0) (read_arity us) q k in
    let a = arity_some us p.0 p.1 in
    answered (Reads m 0) (word s mark.Fun ∷ ts) (word s mark.Fun ∷ tok f.0 (Atom o.0.0) ∷ word d mark.Slash ∷ tok a.0 (Int p.0.0) ∷ []) p.0.1
    (fun_local s.line s.funs o.0.0 p.0.0) q p.2 (r_fun_local s f.0 d a.0 a.2)
    (ap (λ v. word s mark.Fun ∷ v) (f.1 ∙ ap (λ v. tok f.0 (Atom o.0.0) ∷ v) (e ∙ ap (λ v. word d mark.Slash ∷ v) a.1))))
    (λ k. fork_sound (Got (Reads m 0) (word s mark.Fun ∷ ts)) mark.Colon (named_in o.0.0) refuse o.0.1 q
    (λ c us e l.
    let w = onward_some (closed mark.Slash (read_name us)) (λ g xs. made (fun_remote s.line o.0.0 g) (read_arity xs)) q l in
    let d = closed_some mark.Slash (read_name us) w.0 w.1 in
    let g = name_some us (w.0.0, word d.0 mark.Slash ∷ w.0.1) d.1 in
    let p = made_some (fun_remote s.line o.0.0 w.0.0) (read_arity w.0.1) q w.2 in
    let a = arity_some w.0.1 p.0 p.1 in
    answered (Reads m 0) (word s mark.Fun ∷ ts)
    (word s mark.Fun ∷ tok f.0 (Atom o.0.0) ∷ word c mark.Colon ∷ tok g.0 (Atom w.0.0) ∷ word d.0 mark.Slash ∷ tok a.0 (Int p.0.0) ∷ []) p.0.1
    (fun_remote s.line o.0.0 w.0.0 p.0.0) q p.2 (r_fun_remote s f.0 c g.0 d.0 a.0 a.2)
    (ap (λ v. word s mark.Fun ∷ v) (f.1 ∙ ap (λ v. tok f.0 (Atom o.0.0) ∷ v) (e ∙ ap (λ v. word c mark.Colon ∷ v)
    (g.1 ∙ ap (λ v. tok g.0 (Atom w.0.0) ∷ word d.0 mark.Slash ∷ v) a.1)))))
    (λ l. absurd (none_no q l))
    k)
    o.2
  where
    local : List ℕ → Read Exp
    local f vs = made (fun_local s.line s.funs f) (read_arity vs)

    named_in : List ℕ → Read Exp
    named_in f ws = onward (closed mark.Slash (read_name ws)) (λ g xs. made (fun_remote s.line f g) (read_arity xs))

    remote : List ℕ → Read Exp
    remote f vs = fork (behind mark.Colon vs) (named_in f) refuse vs

    behind_name : List ℕ → Read Exp
    behind_name f us = fork (behind mark.Slash us) (local f) (remote f) us

fun_clauses_sound : (m n : ℕ) (part : Read Exp) → Sound (Any m) part → (s : Place) (ts : List Tok)
    → (q : Exp × List Tok) → read_fun_clauses m n part s ts ≡ Some q → Got (Reads m 0) (word s mark.Fun ∷ ts) q
fun_clauses_sound zero n part sound s ts q h = absurd (none_no q h)
fun_clauses_sound (suc m) n part sound s ts q h =
    let o = onward_some (closed mark.End (read_clauses (read_parameters_clause n part) ts)) behind_clauses q h in
    let c = closed_sound (ParametersClauses (suc m)) mark.End (read_clauses (read_parameters_clause n part))
    (parameters_clauses_sound (suc m) (read_parameters_clause n part) (parameters_clause_sound m n part sound)) ts o.0 o.1 in
    let p = provided_some (is_fun o.0.0) (λ vs. Some (fun_clauses s.line s.funs o.0.0, vs)) o.0.1 q o.2 in
    let t = both_true (all_have (first_arity o.0.0) o.0.0) (nat_le (first_arity o.0.0) most_parameters) p.0 in
    answered (Reads (suc m) 0) (word s mark.Fun ∷ ts) (word s mark.Fun ∷ (c.used ++ word c.place mark.End ∷ [])) o.0.1
    (fun_clauses s.line s.funs o.0.0) q p.1
    (r_fun s c.place (c.reads (first_arity o.0.0) t.0) (le_of (first_arity o.0.0) most_parameters t.1))
    (ap (λ v. word s mark.Fun ∷ v) (enclosed ts c.used o.0.1 (word c.place mark.End) c.parted))
  where
    behind_clauses : Clauses → Read Exp
    behind_clauses cs us = provided (is_fun cs) (λ vs. Some (fun_clauses s.line s.funs cs, vs)) us

fun_sound : (m n : ℕ) (part : Read Exp) → Sound (Any m) part → (s : Place) (ts : List Tok)
    → (q : Exp × List Tok) → read_fun m n part s ts ≡ Some q → Got (Reads m 0) (word s mark.Fun ∷ ts) q
fun_sound m n part sound s ts q h =
    fork_sound (Got (Reads m 0) (word s mark.Fun ∷ ts)) mark.ParenOpen (λ us. read_fun_clauses m n part s ts) (read_fun_name s) ts q
    (λ o us f k. fun_clauses_sound m n part sound s ts q k)
    (λ k. fun_name_sound m s ts q k)
    h

-- what reads inside parentheses, where a round bracket is left
abbrev pub Inside : ℕ → Read Exp → Type 0
Inside zero read = (ts : List Tok) (q : Exp × List Tok) → read ts ≡ Some q → ⊥
Inside (suc m) read = Sound (Any m) read

parentheses_sound : (m : ℕ) (inside : Read Exp) → Inside m inside → (s : Place) (ts : List Tok)
    → (q : Exp × List Tok) → closed mark.ParenClose (inside ts) ≡ Some q → Got (Reads m 0) (word s mark.ParenOpen ∷ ts) q
parentheses_sound zero inside sound s ts q h =
    let c = closed_some mark.ParenClose (inside ts) q h in absurd (sound ts (q.0, word c.0 mark.ParenClose ∷ q.1) c.1)
parentheses_sound (suc m) inside sound s ts q h =
    let c = closed_sound (Any m) mark.ParenClose inside sound ts q h in
    record {
      used = word s mark.ParenOpen ∷ (c.used ++ word c.place mark.ParenClose ∷ []);
      reads = r_parentheses s c.place c.reads.1;
      parted = ap (λ v. word s mark.ParenOpen ∷ v) (enclosed ts c.used q.1 (word c.place mark.ParenClose) c.parted);
    }

case_sound : (m n : ℕ) (part : Read Exp) → Sound (Any m) part → (s : Place) (ts : List Tok) (q : Exp × List Tok)
    → onward (closed mark.Of (part ts)) (λ e us. made (case s.line e) (closed mark.End (read_clauses (read_pattern_clause n part) us))) ≡ Some q
    → Got (Reads m 0) (word s mark.Case ∷ ts) q
case_sound m n part sound s ts q h =
    let o = onward_some (closed mark.Of (part ts)) (λ e us. made (case s.line e) (closed mark.End (read_clauses (read_pattern_clause n part) us))) q h in
    let c = closed_sound (Any m) mark.Of part sound ts o.0 o.1 in
    let d = made_some (case s.line o.0.0) (closed mark.End (read_clauses (read_pattern_clause n part) o.0.1)) q o.2 in
    let b = closed_sound (ReadsClauses m one_pattern) mark.End (read_clauses (read_pattern_clause n part))
    (clauses_sound m one_pattern (read_pattern_clause n part) (pattern_clause_sound m n part sound)) o.0.1 d.0 d.1 in
    let begins : Tok = word s mark.Case in
    let of : Tok = word c.place mark.Of in
    let ends : Tok = word b.place mark.End in
    answered (Reads m 0) (begins ∷ ts) (begins ∷ (c.used ++ of ∷ (b.used ++ ends ∷ []))) d.0.1 (case s.line o.0.0 d.0.0) q d.2
    (r_case s c.place b.place c.reads.1 b.reads)
    (ap (λ v. begins ∷ v) (extend ts c.used (of ∷ o.0.1) (of ∷ (b.used ++ ends ∷ [])) d.0.1 c.parted
    (ap (λ v. of ∷ v) (enclosed o.0.1 b.used d.0.1 ends b.parted))))

-- what begins with a mark
pub marked_sound : (m n : ℕ) (part inside : Read Exp) → Sound (Any m) part → Inside m inside → (s : Place) (x : Mark) (ts : List Tok)
    → (q : Exp × List Tok) → read_marked m n part inside s x ts ≡ Some q → Got (Reads m 0) (word s x ∷ ts) q
marked_sound m n part inside sound within s mark.BracketOpen ts q h = bracketed_sound m n part sound s ts q h
marked_sound m n part inside sound within s mark.BraceOpen ts q h =
    let d = made_some (tuple s.line) (read_until mark.BraceClose part ts) q h in
    let c = until_sound m mark.BraceClose part sound ts d.0 d.1 in
    answered (Reads m 0) (word s mark.BraceOpen ∷ ts) (word s mark.BraceOpen ∷ (c.used ++ word c.place mark.BraceClose ∷ [])) d.0.1
    (tuple s.line d.0.0) q d.2 (r_tuple s c.place c.reads)
    (ap (λ v. word s mark.BraceOpen ∷ v) (enclosed ts c.used d.0.1 (word c.place mark.BraceClose) c.parted))
marked_sound m n part inside sound within s mark.ParenOpen ts q h = parentheses_sound m inside within s ts q h
marked_sound m n part inside sound within s mark.Begin ts q h =
    let d = made_some (begin s.line) (closed mark.End (read_body part ts)) q h in
    let c = closed_sound (ReadsBody m) mark.End (read_body part) (body_sound m part sound) ts d.0 d.1 in
    answered (Reads m 0) (word s mark.Begin ∷ ts) (word s mark.Begin ∷ (c.used ++ word c.place mark.End ∷ [])) d.0.1
    (begin s.line d.0.0) q d.2 (r_begin s c.place c.reads)
    (ap (λ v. word s mark.Begin ∷ v) (enclosed ts c.used d.0.1 (word c.place mark.End) c.parted))
marked_sound m n part inside sound within s mark.Case ts q h = case_sound m n part sound s ts q h
marked_sound m n part inside sound within s mark.If ts q h =
    let d = made_some (if_clauses s.line) (closed mark.End (read_clauses (read_guard_clause part) ts)) q h in
    let c = closed_sound (ReadsClauses m guard_alone) mark.End (read_clauses (read_guard_clause part))
    (clauses_sound m guard_alone (read_guard_clause part) (guard_clause_sound m part sound)) ts d.0 d.1 in
    answered (Reads m 0) (word s mark.If ∷ ts) (word s mark.If ∷ (c.used ++ word c.place mark.End ∷ [])) d.0.1
    (if_clauses s.line d.0.0) q d.2 (r_if s c.place c.reads)
    (ap (λ v. word s mark.If ∷ v) (enclosed ts c.used d.0.1 (word c.place mark.End) c.parted))
marked_sound m n part inside sound within s mark.Receive ts q h = receive_sound m n part sound s ts q h
marked_sound m n part inside sound within s mark.Try ts q h = try_sound m n part sound s ts q h
marked_sound m n part inside sound within s mark.Fun ts q h = fun_sound m n part sound s ts q h
marked_sound m n part inside sound within s _ ts q h = absurd (none_no q h)
