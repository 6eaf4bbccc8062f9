-- Bodies, guards and clauses that are read from the front are ones by the grammar, where their expressions are.

use Rattle.std.proofs.Common.{◌≡◌, ℕ, suc, true, ◌==◌, List, [], ◌∷◌, ◌++◌, length, Option, Some, None, refl, sym, ◌∙◌, ap, subst, append_assoc}
use Rattle.std.proofs.lemmas.Bool.{eqb-true}
use Rattle.edb_scan.specs.declared.lexeme.Mark.{Mark}
use Rattle.edb_scan.specs.declared.lexeme.Mark.TheVariants as mark
use Rattle.edb_syntax.specs.Patterns as pattern
use Rattle.edb_syntax.specs.Patterns.{Pat, Pats, pats_count}
use Rattle.edb_syntax.specs.Syntax.{Exp, Exps, Seq, Guards, ClauseTree, Clauses, none, more, sequence, no_guard, alternative, clause, no_clauses, more_clauses}
use Rattle.edb_grammar.specs.Toks.{Place, Tok, word}
use Rattle.edb_grammar.specs.Patterns.{ReadsPats, ReadsPatsOrNone, no_patterns, some_patterns}
use Rattle.edb_grammar.specs.Expressions.{Head, Reads, ReadsAll, ReadsAllOrNone, ReadsBody, ReadsGuard, ReadsRest, ReadsClause, ReadsClauses, one_pattern, guard_alone, parameters, one_expression, more_expressions, no_expressions, some_expressions, a_body, last_alternative, next_alternative, without_guard, with_guard, pattern_clause, guard_clause, parameters_clause, last_clause, next_clause}
use Rattle.edb_grammar.specs.Reading.{Read, behind, closed, onward, made, fork, refuse}
use Rattle.edb_grammar.specs.PatternReading.{read_pats, read_pat}
use Rattle.edb_grammar.specs.ExpressionReading.{read_all, read_until, seq_of, read_body, read_guard, guarded, read_rest, clause_of, read_pattern_clause, read_guard_clause, read_parameters, read_parameters_clause, read_clauses, clause_arity, all_have}
use Rattle.edb_grammar.proofs.Parts.{Got, Sound, some_is, none_no, answered, behind_some, closed_some, items_sound}
use Rattle.edb_grammar.proofs.PatternSound.{pat_sound, pats_sound}
use Rattle.edb_grammar.proofs.ClimbSound.{onward_some, both_true}

-- an expression of any level
abbrev pub Any : ℕ → List Tok → Exp → Type 0
Any m ts e = (k : ℕ) × Reads m k ts e

-- tokens that some used ones begin, behind which others are used
pub extend : (ts a us b rest : List Tok) → ts ≡ a ++ us → us ≡ b ++ rest → ts ≡ (a ++ b) ++ rest
extend ts a us b rest e f = e ∙ (ap (λ v. a ++ v) f ∙ sym (append_assoc a b rest))

-- what a rule reads, and the mark behind it
pub record Closed {A : Type 0} (R : List Tok → A → Type 0) (x : Mark) (ts : List Tok) (q : A × List Tok) : Type 0 where
  pub place : Place
  pub used : List Tok
  pub reads : R used q.0
  pub parted : ts ≡ used ++ word place x ∷ q.1

pub closed_sound : {A : Type 0} (R : List Tok → A → Type 0) (x : Mark) (read : Read A) → Sound R read
    → (ts : List Tok) (q : A × List Tok) → closed x (read ts) ≡ Some q → Closed R x ts q
closed_sound R x read sound ts q h =
    let c = closed_some x (read ts) q h in
    let g = sound ts (q.0, word c.0 x ∷ q.1) c.1 in
    record { place = c.0; used = g.used; reads = g.reads; parted = g.parted }

pub made_some : {A B : Type 0} (f : A → B) (o : Option (A × List Tok)) (q : B × List Tok) → made f o ≡ Some q
    → (p : A × List Tok) × (o ≡ Some p) × (Some (f p.0, p.1) ≡ Some q)
made_some f None q h = absurd (none_no q h)
made_some f (Some p) q h = (p, refl, h)

-- one way or the other
pub fork_sound : {A : Type 0} (C : A × List Tok → Type 0) (x : Mark) (here there : Read A) (ts : List Tok) (q : A × List Tok)
    → ((s : Place) (us : List Tok) → ts ≡ word s x ∷ us → here us ≡ Some q → C q)
    → (there ts ≡ Some q → C q)
    → fork (behind x ts) here there ts ≡ Some q → C q
fork_sound {A} C x here there ts q first second h = by (behind x ts) refl h
  where
    by : (o : Option (List Tok)) → behind x ts ≡ o → fork o here there ts ≡ Some q → C q
    by (Some us) e k = let b = behind_some x ts us e in first b.0 us b.1 k
    by None e k = second k

-- expressions with commas between them
pub all_sound : (m : ℕ) (part : Read Exp) → Sound (Any m) part → Sound (ReadsAll m) (read_all part)
all_sound m part sound ts =
    items_sound (Any m) (ReadsAll m) more none mark.Comma (λ us e r. one_expression r.1) (λ s us vs e es r rs. more_expressions s r.1 rs)
    part sound (length ts) ts

pub until_sound : (m : ℕ) (x : Mark) (part : Read Exp) → Sound (Any m) part
    → (ts : List Tok) (q : Exps × List Tok) → read_until x part ts ≡ Some q → Closed (ReadsAllOrNone m) x ts q
until_sound m x part sound ts q h =
    fork_sound (Closed (ReadsAllOrNone m) x ts) x (λ us. Some (none, us)) (λ us. closed x (read_all part us)) ts q
    (λ s us e k. subst (Closed (ReadsAllOrNone m) x ts) (some_is (none, us) q k)
    (record { place = s; used = []; reads = no_expressions; parted = e }))
    (λ k. let c = closed_sound (ReadsAll m) x (read_all part) (all_sound m part sound) ts q k in
    record { place = c.place; used = c.used; reads = some_expressions c.reads; parted = c.parted })
    h

pub body_sound : (m : ℕ) (part : Read Exp) → Sound (Any m) part → Sound (ReadsBody m) (read_body part)
body_sound m part sound ts q h = by (read_all part ts) refl h
  where
    by : (o : Option (Exps × List Tok)) → read_all part ts ≡ o → seq_of o ≡ Some q → Got (ReadsBody m) ts q
    by (Some (more e es, us)) f k =
        let g = all_sound m part sound ts (more e es, us) f in
        answered (ReadsBody m) ts g.used us (sequence e es) q k (a_body g.reads) g.parted
    by (Some (none, us)) f k = absurd (none_no q k)
    by None f k = absurd (none_no q k)

pub guard_sound : (m : ℕ) (part : Read Exp) → Sound (Any m) part → Sound (ReadsGuard m) (read_guard part)
guard_sound m part sound ts =
    items_sound (ReadsAll m) (ReadsGuard m) alternative no_guard mark.Semicolon (λ us es r. last_alternative r)
    (λ s us vs es g r rs. next_alternative s r rs) (read_all part) (all_sound m part sound) (length ts) ts

-- what stands behind the patterns of a clause
abbrev pub Rest : ℕ → List Tok → Guards × Seq → Type 0
Rest m ts r = ReadsRest m ts r.0 r.1

pub rest_sound : (m : ℕ) (part : Read Exp) → Sound (Any m) part → Sound (Rest m) (read_rest part)
rest_sound m part sound ts q h =
    fork_sound (Got (Rest m) ts) mark.Arrow (λ us. made (guarded no_guard) (read_body part us)) second ts q
    (λ s us e k.
    let p = made_some (guarded no_guard) (read_body part us) q k in
    let b = body_sound m part sound us p.0 p.1 in
    answered (Rest m) ts (word s mark.Arrow ∷ b.used) p.0.1 (guarded no_guard p.0.0) q p.2 (without_guard s b.reads)
    (e ∙ ap (λ v. word s mark.Arrow ∷ v) b.parted))
    (λ k. fork_sound (Got (Rest m) ts) mark.When third refuse ts q
    (λ s us e l.
    let o = onward_some (closed mark.Arrow (read_guard part us)) (λ g ws. made (guarded g) (read_body part ws)) q l in
    let c = closed_sound (ReadsGuard m) mark.Arrow (read_guard part) (guard_sound m part sound) us o.0 o.1 in
    let p = made_some (guarded o.0.0) (read_body part o.0.1) q o.2 in
    let b = body_sound m part sound o.0.1 p.0 p.1 in
    let arrow : Tok = word c.place mark.Arrow in
    answered (Rest m) ts (word s mark.When ∷ (c.used ++ arrow ∷ b.used)) p.0.1 (guarded o.0.0 p.0.0) q p.2
    (with_guard s c.place c.reads b.reads)
    (e ∙ ap (λ v. word s mark.When ∷ v)
    (extend us c.used (arrow ∷ o.0.1) (arrow ∷ b.used) p.0.1 c.parted (ap (λ v. arrow ∷ v) b.parted))))
    (λ l. absurd (none_no q l))
    k)
    h
  where
    third : Read (Guards × Seq)
    third vs = onward (closed mark.Arrow (read_guard part vs)) (λ g ws. made (guarded g) (read_body part ws))

    second : Read (Guards × Seq)
    second us = fork (behind mark.When us) third refuse us

-- clauses
pub pattern_clause_sound : (m n : ℕ) (part : Read Exp) → Sound (Any m) part → Sound (ReadsClause m one_pattern) (read_pattern_clause n part)
pattern_clause_sound m n part sound ts q h =
    let o = onward_some (read_pat n ts) (λ p us. made (clause_of (pattern.more p pattern.none)) (read_rest part us)) q h in
    let g = pat_sound n ts o.0 o.1 in
    let p = made_some (clause_of (pattern.more o.0.0 pattern.none)) (read_rest part o.0.1) q o.2 in
    let r = rest_sound m part sound o.0.1 p.0 p.1 in
    answered (ReadsClause m one_pattern) ts (g.used ++ r.used) p.0.1 (clause_of (pattern.more o.0.0 pattern.none) p.0.0) q p.2
    (pattern_clause g.reads.1 r.reads) (extend ts g.used o.0.1 r.used p.0.1 g.parted r.parted)

pub guard_clause_sound : (m : ℕ) (part : Read Exp) → Sound (Any m) part → Sound (ReadsClause m guard_alone) (read_guard_clause part)
guard_clause_sound m part sound ts q h =
    let o = onward_some (closed mark.Arrow (read_guard part ts)) (λ g us. made (clause pattern.none g) (read_body part us)) q h in
    let c = closed_sound (ReadsGuard m) mark.Arrow (read_guard part) (guard_sound m part sound) ts o.0 o.1 in
    let p = made_some (clause pattern.none o.0.0) (read_body part o.0.1) q o.2 in
    let b = body_sound m part sound o.0.1 p.0 p.1 in
    let arrow : Tok = word c.place mark.Arrow in
    answered (ReadsClause m guard_alone) ts (c.used ++ arrow ∷ b.used) p.0.1 (clause pattern.none o.0.0 p.0.0) q p.2
    (guard_clause c.place c.reads b.reads)
    (extend ts c.used (arrow ∷ o.0.1) (arrow ∷ b.used) p.0.1 c.parted (ap (λ v. arrow ∷ v) b.parted))

parameters_sound : (n : ℕ) (ts : List Tok) (q : Pats × List Tok) → read_parameters n ts ≡ Some q → Closed ReadsPatsOrNone mark.ParenClose ts q
parameters_sound n ts q h =
    fork_sound (Closed ReadsPatsOrNone mark.ParenClose ts) mark.ParenClose (λ us. Some (pattern.none, us))
    (λ us. closed mark.ParenClose (read_pats (read_pat n) us)) ts q
    (λ s us e k. subst (Closed ReadsPatsOrNone mark.ParenClose ts) (some_is (pattern.none, us) q k)
    (record { place = s; used = []; reads = no_patterns; parted = e }))
    (λ k. let c = closed_sound ReadsPats mark.ParenClose (read_pats (read_pat n)) (pats_sound (read_pat n) (pat_sound n)) ts q k in
    record { place = c.place; used = c.used; reads = some_patterns c.reads; parted = c.parted })
    h

-- a clause that has as many parameters as it has
abbrev pub ParametersClause : ℕ → List Tok → ClauseTree → Type 0
ParametersClause m ts c = ReadsClause m (parameters (clause_arity c)) ts c

pub parameters_clause_sound : (m n : ℕ) (part : Read Exp) → Sound (Any (suc m)) part
    → Sound (ParametersClause (suc m)) (read_parameters_clause n part)
parameters_clause_sound m n part sound ts q h =
    fork_sound (Got (ParametersClause (suc m)) ts) mark.ParenOpen
    (λ us. onward (read_parameters n us) (λ ps vs. made (clause_of ps) (read_rest part vs))) refuse ts q
    (λ s us e k.
    let o = onward_some (read_parameters n us) (λ ps vs. made (clause_of ps) (read_rest part vs)) q k in
    let c = parameters_sound n us o.0 o.1 in
    let p = made_some (clause_of o.0.0) (read_rest part o.0.1) q o.2 in
    let r = rest_sound (suc m) part sound o.0.1 p.0 p.1 in
    let close : Tok = word c.place mark.ParenClose in
    answered (ParametersClause (suc m)) ts (word s mark.ParenOpen ∷ (c.used ++ close ∷ r.used)) p.0.1 (clause_of o.0.0 p.0.0) q p.2
    (parameters_clause s c.place c.reads r.reads)
    (e ∙ ap (λ v. word s mark.ParenOpen ∷ v)
    (extend us c.used (close ∷ o.0.1) (close ∷ r.used) p.0.1 c.parted (ap (λ v. close ∷ v) r.parted))))
    (λ k. absurd (none_no q k))
    h

pub clauses_sound : (m : ℕ) (head : Head) (one : Read ClauseTree) → Sound (ReadsClause m head) one → Sound (ReadsClauses m head) (read_clauses one)
clauses_sound m head one sound ts =
    items_sound (ReadsClause m head) (ReadsClauses m head) more_clauses no_clauses mark.Semicolon (λ us c r. last_clause r)
    (λ s us vs c cs r rs. next_clause s r rs) one sound (length ts) ts

-- clauses that have n parameters each
abbrev pub ParametersClauses : ℕ → List Tok → Clauses → Type 0
ParametersClauses m ts cs = (n : ℕ) → all_have n cs ≡ true → ReadsClauses m (parameters n) ts cs

has_arity : (m n : ℕ) (ts : List Tok) (c : ClauseTree) (cs : Clauses) → all_have n (more_clauses c cs) ≡ true → ParametersClause m ts c
    → ReadsClause m (parameters n) ts c
has_arity m n ts c cs h r =
    subst (λ j. ReadsClause m (parameters j) ts c) (eqb-true (clause_arity c) n (both_true (clause_arity c == n) (all_have n cs) h).0) r

pub parameters_clauses_sound : (m : ℕ) (one : Read ClauseTree) → Sound (ParametersClause m) one → Sound (ParametersClauses m) (read_clauses one)
parameters_clauses_sound m one sound ts =
    items_sound (ParametersClause m) (ParametersClauses m) more_clauses no_clauses mark.Semicolon
    (λ us c r n h. last_clause (has_arity m n us c no_clauses h r))
    (λ s us vs c cs r rs n h. next_clause s (has_arity m n us c cs h r)
    (rs n (both_true (clause_arity c == n) (all_have n cs) h).1))
    one sound (length ts) ts
