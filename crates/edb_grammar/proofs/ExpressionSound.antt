-- Each expression that is read from the front of the tokens is one by the grammar.

use Rattle.std.proofs.Common.{◌≡◌, ℕ, zero, suc, pos, ◌≤◌, Bool, true, false, if◌then◌else◌, ◌&&◌, nat_le, List, [], ◌∷◌, ◌++◌, length, Option, Some, None, refl, sym, ◌∙◌, ap, subst, append_assoc, arith}
use Rattle.edb_scan.specs.declared.lexeme.Mark.{Mark}
use Rattle.edb_scan.specs.declared.lexeme.Mark.TheVariants as mark
use Rattle.edb_scan.specs.declared.lexeme.Token.TheVariants as token
use Rattle.edb_scan.specs.declared.lexeme.Token.TheVariants.{Int, Float, Char, Atom, Var, Str}
use Rattle.edb_lang.specs.declared.operators.UnaryOp.{UnaryOp}
use Rattle.edb_syntax.specs.Depths.{depth}
use Rattle.edb_syntax.specs.Forms.{unary, remote_call, call}
use Rattle.edb_syntax.specs.Patterns.{Pat}
use Rattle.edb_syntax.specs.Syntax.{Exp, int, atom, string, float, variable, match, catch}
use Rattle.edb_grammar.specs.Toks.{Place, Tok, tok, word, line_at, most_integer}
use Rattle.edb_grammar.specs.Operators.{prefix_of}
use Rattle.edb_grammar.specs.Patterns.{ReadsPat}
use Rattle.edb_grammar.specs.Expressions.{Reads, r_variable, r_atom, r_integer, r_character, r_string, r_float, r_list, r_list_with_tail, r_tuple, r_parentheses, r_comprehension, r_begin, r_case, r_if, r_receive, r_receive_after, r_try, r_fun, r_fun_local, r_fun_remote, r_call, r_remote_call, r_prefix, r_infix, r_match, r_catch}
use Rattle.edb_grammar.specs.Reading.{Read, behind, closed, onward, made, fork, choose, refuse, provided, more_text, behind_text}
use Rattle.edb_grammar.specs.PatternReading.{read_single}
use Rattle.edb_grammar.specs.ExpressionReading.{Reader, read_primary, read_arguments, read_call, prefix_at, tail, operand_at, read_operand, climb, operand_level, read_operators, read_match, step, within, read_expression}
use Rattle.edb_grammar.proofs.Parts.{Got, Sound, none_no, answered, behind_some, enclosed}
use Rattle.edb_grammar.proofs.PatternSound.{string_reads, string_first, pat_first, single_pat_sound}
use Rattle.edb_grammar.proofs.ClimbSound.{onward_some, provided_some, le_of, ReadsTo, SoundReader, climb_sound}
use Rattle.edb_grammar.proofs.ClauseSound.{Any, extend, closed_sound, made_some, fork_sound, until_sound}
use Rattle.edb_grammar.proofs.NodeSound.{Inside, marked_sound}

-- an expression has a first token, whatever stands behind it
pub exp_first : {m k : ℕ} {ts : List Tok} {e : Exp} → Reads m k ts e → (rest : List Tok) → line_at (ts ++ rest) ≡ line_at ts
exp_first r_variable rest = refl
exp_first r_atom rest = refl
exp_first (r_integer small) rest = refl
exp_first r_character rest = refl
exp_first (r_string r) rest = string_first r rest
exp_first r_float rest = refl
exp_first (r_list o c r) rest = refl
exp_first (r_list_with_tail o b c r t) rest = refl
exp_first (r_tuple o c r) rest = refl
exp_first (r_parentheses o c r) rest = refl
exp_first (r_comprehension o b c r qs) rest = refl
exp_first (r_begin o c r) rest = refl
exp_first (r_case o f c r cs) rest = refl
exp_first (r_if o c cs) rest = refl
exp_first (r_receive o c cs) rest = refl
exp_first (r_receive_after o a w c cs r s) rest = refl
exp_first (r_try o c s cs hs a h) rest = refl
exp_first (r_fun o c cs h) rest = refl
exp_first (r_fun_local o s d a h) rest = refl
exp_first (r_fun_remote o r c s d a h) rest = refl
exp_first (r_call {ts} {us} o c r rs) rest =
    ap line_at (append_assoc ts (word o mark.ParenOpen ∷ (us ++ word c mark.ParenClose ∷ [])) rest)
    ∙ (exp_first r ((word o mark.ParenOpen ∷ (us ++ word c mark.ParenClose ∷ [])) ++ rest) ∙ sym (exp_first r (word o mark.ParenOpen ∷ (us ++ word c mark.ParenClose ∷ []))))
exp_first (r_remote_call {ts} {us} {vs} d o c r f rs) rest =
    ap line_at (append_assoc ts (word d mark.Colon ∷ (us ++ word o mark.ParenOpen ∷ (vs ++ word c mark.ParenClose ∷ []))) rest)
    ∙ (exp_first r ((word d mark.Colon ∷ (us ++ word o mark.ParenOpen ∷ (vs ++ word c mark.ParenClose ∷ []))) ++ rest)
    ∙ sym (exp_first r (word d mark.Colon ∷ (us ++ word o mark.ParenOpen ∷ (vs ++ word c mark.ParenClose ∷ [])))))
exp_first (r_prefix x o s h l r) rest = refl
exp_first (r_infix {ts} {us} x o s h j k a b) rest =
    ap line_at (append_assoc ts (word s x ∷ us) rest) ∙ (exp_first a ((word s x ∷ us) ++ rest) ∙ sym (exp_first a (word s x ∷ us)))
exp_first (r_match {ts} {us} s p r) rest =
    ap line_at (append_assoc ts (word s mark.Match ∷ us) rest) ∙ (pat_first p ((word s mark.Match ∷ us) ++ rest) ∙ sym (pat_first p (word s mark.Match ∷ us)))
exp_first (r_catch s r) rest = refl

-- what stands by itself
primary_sound : (m n : ℕ) (part inside : Read Exp) → Sound (Any m) part → Inside m inside → Sound (Reads m 0) (read_primary m n part inside)
primary_sound m n part inside sound within (tok s (Var x) ∷ ts) q h =
    answered (Reads m 0) (tok s (Var x) ∷ ts) (tok s (Var x) ∷ []) ts (variable s.line x) q h r_variable refl
primary_sound m n part inside sound within (tok s (Atom a) ∷ ts) q h =
    answered (Reads m 0) (tok s (Atom a) ∷ ts) (tok s (Atom a) ∷ []) ts (atom s.line a) q h r_atom refl
primary_sound m n part inside sound within (tok s (Int k) ∷ ts) q h =
    let small = provided_some (nat_le k most_integer) (λ us. Some (int s.line (pos k), us)) ts q h in
    answered (Reads m 0) (tok s (Int k) ∷ ts) (tok s (Int k) ∷ []) ts (int s.line (pos k)) q small.1 (r_integer (le_of k most_integer small.0)) refl
primary_sound m n part inside sound within (tok s (Char c) ∷ ts) q h =
    answered (Reads m 0) (tok s (Char c) ∷ ts) (tok s (Char c) ∷ []) ts (int s.line (pos c)) q h r_character refl
primary_sound m n part inside sound within (tok s Float ∷ ts) q h =
    answered (Reads m 0) (tok s Float ∷ ts) (tok s Float ∷ []) ts (float s.line) q h r_float refl
primary_sound m n part inside sound within (tok s (Str cs) ∷ ts) q h =
    let r = string_reads s cs ts in
    answered (Reads m 0) (tok s (Str cs) ∷ ts) (tok s (Str cs) ∷ r.0) (behind_text ts) (string s.line (cs ++ more_text ts)) q h
    (r_string r.1) (ap (λ v. tok s (Str cs) ∷ v) r.2)
primary_sound m n part inside sound within (tok s (token.Mark x) ∷ ts) q h = marked_sound m n part inside sound within s x ts q h
primary_sound m n part inside sound within _ q h = absurd (none_no q h)

pub part_sound : (sub : Reader) → SoundReader sub → (m : ℕ) → Sound (Any m) (sub m 10)
part_sound sub sound m ts q h =
    let g = sound m 10 (omega arith) ts q h in
    record { used = g.used; reads = (g.reads.0, g.reads.2); parted = g.parted }

-- calls
call_tail : (m : ℕ) (sub : Reader) → SoundReader sub → (ts used us : List Tok) (f : Exp) → Reads m 0 used f → (o : Place)
    → ts ≡ used ++ word o mark.ParenOpen ∷ us → (l : ℕ) → l ≡ line_at used
    → (q : Exp × List Tok) → made (call l f) (read_arguments m sub us) ≡ Some q → Got (ReadsTo m 2) ts q
call_tail zero sub sound ts used us f r o parted l first q h =
    let d = made_some (call l f) (read_arguments zero sub us) q h in absurd (none_no d.0 d.1)
call_tail (suc m) sub sound ts used us f r o parted l first q h =
    let d = made_some (call l f) (read_arguments (suc m) sub us) q h in
    let c = until_sound m mark.ParenClose (sub m 10) (part_sound sub sound m) us d.0 d.1 in
    let begins : Tok = word o mark.ParenOpen in
    let ends : Tok = word c.place mark.ParenClose in
    let whole : List Tok = used ++ begins ∷ (c.used ++ ends ∷ []) in
    answered (ReadsTo (suc m) 2) ts whole d.0.1 (call l f d.0.0) q d.2
    (1, omega arith, subst (λ k. Reads (suc m) 1 whole (call k f d.0.0)) (sym first) (r_call o c.place r c.reads))
    (extend ts used (begins ∷ us) (begins ∷ (c.used ++ ends ∷ [])) d.0.1 parted
    (ap (λ v. begins ∷ v) (enclosed us c.used d.0.1 ends c.parted)))

remote_tail : (m : ℕ) (sub : Reader) → SoundReader sub → (ts used us vs ws : List Tok) (h f : Exp) → Reads m 0 used h → Reads m 0 us f
    → (d o : Place) → ts ≡ used ++ word d mark.Colon ∷ vs → vs ≡ us ++ word o mark.ParenOpen ∷ ws → (l : ℕ) → l ≡ line_at used
    → (q : Exp × List Tok) → made (remote_call l h f) (read_arguments m sub ws) ≡ Some q → Got (ReadsTo m 2) ts q
remote_tail zero sub sound ts used us vs ws h f r t d o parted further l first q k =
    let p = made_some (remote_call l h f) (read_arguments zero sub ws) q k in absurd (none_no p.0 p.1)
remote_tail (suc m) sub sound ts used us vs ws h f r t d o parted further l first q k =
    let p = made_some (remote_call l h f) (read_arguments (suc m) sub ws) q k in
    let c = until_sound m mark.ParenClose (sub m 10) (part_sound sub sound m) ws p.0 p.1 in
    let colon : Tok = word d mark.Colon in
    let begins : Tok = word o mark.ParenOpen in
    let ends : Tok = word c.place mark.ParenClose in
    let args : List Tok = begins ∷ (c.used ++ ends ∷ []) in
    let whole : List Tok = used ++ colon ∷ (us ++ args) in
    answered (ReadsTo (suc m) 2) ts whole p.0.1 (remote_call l h f p.0.0) q p.2
    (1, omega arith, subst (λ i. Reads (suc m) 1 whole (remote_call i h f p.0.0)) (sym first) (r_remote_call d o c.place r t c.reads))
    (extend ts used (colon ∷ vs) (colon ∷ (us ++ args)) p.0.1 parted
    (ap (λ v. colon ∷ v) (extend vs us (begins ∷ ws) args p.0.1 further
    (ap (λ v. begins ∷ v) (enclosed ws c.used p.0.1 ends c.parted)))))

call_sound : (m n : ℕ) (sub : Reader) (inside : Read Exp) → SoundReader sub → Inside m inside → Sound (ReadsTo m 2) (read_call m n sub inside)
call_sound m n sub inside sound within ts q h =
    let o = onward_some (primary ts) behind_callee q h in
    let g = primaries ts o.0 o.1 in
    let first = ap line_at g.parted ∙ exp_first g.reads o.0.1 in
    fork_sound (Got (ReadsTo m 2) ts) mark.ParenOpen (called o.0.0) (other o.0.0) o.0.1 q
    (λ p us e k.
    let t = provided_some (nat_le (depth o.0.0) n) (λ ws. made (call (line_at ts) o.0.0) (read_arguments m sub ws)) us q k in
    call_tail m sub sound ts g.used us o.0.0 g.reads p (g.parted ∙ ap (λ v. g.used ++ v) e) (line_at ts) first q t.1)
    (λ k. fork_sound (Got (ReadsTo m 2) ts) mark.Colon (remote o.0.0) (λ ws. Some (o.0.0, ws)) o.0.1 q
    (λ d us e l.
    let w = onward_some (closed mark.ParenOpen (primary us)) (behind_name o.0.0) q l in
    let c = closed_sound (Reads m 0) mark.ParenOpen primary primaries us w.0 w.1 in
    let t = provided_some (nat_le (depth o.0.0) n && nat_le (depth w.0.0) n)
    (λ ys. made (remote_call (line_at ts) o.0.0 w.0.0) (read_arguments m sub ys)) w.0.1 q w.2 in
    remote_tail m sub sound ts g.used c.used us w.0.1 o.0.0 w.0.0 g.reads c.reads d c.place
    (g.parted ∙ ap (λ v. g.used ++ v) e) c.parted (line_at ts) first q t.1)
    (λ l. answered (ReadsTo m 2) ts g.used o.0.1 o.0.0 q l (0, omega arith, g.reads) g.parted)
    k)
    o.2
  where
    primary : Read Exp
    primary us = read_primary m n (sub m 10) inside us

    primaries : Sound (Reads m 0) primary
    primaries us = primary_sound m n (sub m 10) inside (part_sound sub sound m) within us

    called : Exp → Read Exp
    called f vs = provided (nat_le (depth f) n) (λ ws. made (call (line_at ts) f) (read_arguments m sub ws)) vs

    behind_name : Exp → Exp → Read Exp
    behind_name f g xs =
        provided (nat_le (depth f) n && nat_le (depth g) n) (λ ys. made (remote_call (line_at ts) f g) (read_arguments m sub ys)) xs

    remote : Exp → Read Exp
    remote f ws = onward (closed mark.ParenOpen (primary ws)) (behind_name f)

    other : Exp → Read Exp
    other f vs = fork (behind mark.Colon vs) (remote f) (λ ws. Some (f, ws)) vs

    behind_callee : Exp → Read Exp
    behind_callee f us = fork (behind mark.ParenOpen us) (called f) (other f) us

-- operands
prefix_some : (ts : List Tok) (o : UnaryOp) → prefix_at ts ≡ Some o
    → (s : Place) × (x : Mark) × (prefix_of x ≡ Some o) × (ts ≡ word s x ∷ tail ts)
prefix_some (tok s (token.Mark x) ∷ ts) o h = (s, x, h, refl)
prefix_some _ o h = absurd (none_no o h)

operand_sound : (m n : ℕ) (sub : Reader) (inside : Read Exp) → SoundReader sub → Inside m inside → Sound (ReadsTo m 2) (read_operand m n sub inside)
operand_sound m n sub inside sound within ts q h = by (prefix_at ts) refl h
  where
    by : (o : Option UnaryOp) → prefix_at ts ≡ o → operand_at m n sub inside ts o ≡ Some q → Got (ReadsTo m 2) ts q
    by (Some o) e k =
        let i = prefix_some ts o e in
        let d = made_some (unary (line_at ts) o) (sub m 2 (tail ts)) q k in
        let g = sound m 2 (omega arith) (tail ts) d.0 d.1 in
        let x : Tok = word i.0 i.1 in
        answered (ReadsTo m 2) ts (x ∷ g.used) d.0.1 (unary (line_at ts) o d.0.0) q d.2
        (2, omega arith, subst (λ l. Reads m 2 (x ∷ g.used) (unary l o d.0.0)) (sym (ap line_at i.3)) (r_prefix i.1 o i.0 i.2 g.reads.1 g.reads.2))
        (i.3 ∙ ap (λ v. x ∷ v) g.parted)
    by None e k = call_sound m n sub inside sound within ts q k

operators_sound : (m n : ℕ) (sub : Reader) (inside : Read Exp) → SoundReader sub → Inside m inside → (l : ℕ) → 2 ≤ l
    → Sound (ReadsTo m l) (read_operators m n sub inside l)
operators_sound m n sub inside sound within l two ts q h =
    let o = onward_some (read_operand m n sub inside ts) (λ e us. climb m n sub l (line_at ts) (suc (length us)) operand_level e us) q h in
    let g = operand_sound m n sub inside sound within ts o.0 o.1 in
    let first = ap line_at g.parted ∙ exp_first g.reads.2 o.0.1 in
    subst (λ v. Got (ReadsTo m l) v q) (sym g.parted)
    (climb_sound m n sub sound l (line_at ts) (suc (length o.0.1)) g.reads.0 operand_level o.0.0 g.used o.0.1 g.reads.1 two g.reads.2
    (λ rest. exp_first g.reads.2 rest ∙ sym first) q o.2)

match_sound : (m n : ℕ) (sub : Reader) (inside : Read Exp) → SoundReader sub → Inside m inside → (l : ℕ) → 2 ≤ l
    → Sound (ReadsTo m l) (read_match m n sub inside l)
match_sound m n sub inside sound within l two ts q h = by (nat_le 9 l) refl (closed mark.Match (read_single n ts)) refl h
  where
    by : (b : Bool) → nat_le 9 l ≡ b → (o : Option (Pat × List Tok)) → closed mark.Match (read_single n ts) ≡ o
        → choose (if b then o else None) (λ p us. made (match (line_at ts) p) (sub m 10 us)) (read_operators m n sub inside l) ts ≡ Some q
        → Got (ReadsTo m l) ts q
    by false e o f k = operators_sound m n sub inside sound within l two ts q k
    by true e None f k = operators_sound m n sub inside sound within l two ts q k
    by true e (Some p) f k =
        let c = closed_sound (ReadsPat 0) mark.Match (read_single n) (single_pat_sound n) ts p f in
        let d = made_some (match (line_at ts) p.0) (sub m 10 p.1) q k in
        let g = part_sound sub sound m p.1 d.0 d.1 in
        let equals : Tok = word c.place mark.Match in
        let whole : List Tok = c.used ++ equals ∷ g.used in
        answered (ReadsTo m l) ts whole d.0.1 (match (line_at ts) p.0 d.0.0) q d.2 (
          9,
          le_of 9 l e,
          subst (λ i. Reads m 9 whole (match i p.0 d.0.0)) (sym (ap line_at c.parted ∙ pat_first c.reads (equals ∷ p.1)))
              (r_match c.place c.reads g.reads.1),
        )
        (extend ts c.used (equals ∷ p.1) (equals ∷ g.used) d.0.1 c.parted (ap (λ v. equals ∷ v) g.parted))

step_sound : (n : ℕ) (sub : Reader) (inside : Read Exp) → SoundReader sub → (m : ℕ) → Inside m inside → (l : ℕ) → 2 ≤ l
    → Sound (ReadsTo m l) (step n sub inside m l)
step_sound n sub inside sound m within l two ts q h = by (nat_le 10 l) refl (behind mark.Catch ts) refl h
  where
    by : (b : Bool) → nat_le 10 l ≡ b → (o : Option (List Tok)) → behind mark.Catch ts ≡ o
        → fork (if b then o else None) (λ us. made (catch (line_at ts)) (sub m 10 us)) (read_match m n sub inside l) ts ≡ Some q
        → Got (ReadsTo m l) ts q
    by false e o f k = match_sound m n sub inside sound within l two ts q k
    by true e None f k = match_sound m n sub inside sound within l two ts q k
    by true e (Some us) f k =
        let b = behind_some mark.Catch ts us f in
        let d = made_some (catch (line_at ts)) (sub m 10 us) q k in
        let g = part_sound sub sound m us d.0 d.1 in
        let x : Tok = word b.0 mark.Catch in
        answered (ReadsTo m l) ts (x ∷ g.used) d.0.1 (catch (line_at ts) d.0.0) q d.2
        (10, le_of 10 l e, subst (λ i. Reads m 10 (x ∷ g.used) (catch i d.0.0)) (sym (ap line_at b.1)) (r_catch b.0 g.reads.1))
        (b.1 ∙ ap (λ v. x ∷ v) g.parted)

within_sound : (n : ℕ) (sub : Reader) → SoundReader sub → SoundReader (within n sub)
within_sound n sub sound zero l two ts q h = step_sound n sub refuse sound zero (λ us p k. none_no p k) l two ts q h
within_sound n sub sound (suc m) l two ts q h =
    step_sound n sub (λ us. within n sub m 10 us) sound (suc m)
    (λ us p k. let g = within_sound n sub sound m 10 (omega arith) us p k in
    record { used = g.used; reads = (g.reads.0, g.reads.2); parted = g.parted })
    l two ts q h

-- Each expression that is read is one by the grammar, with at most so many round brackets open, and no looser than asked.
pub expression_sound : (n : ℕ) → SoundReader (read_expression n)
expression_sound zero m l two ts q h = absurd (none_no q h)
expression_sound (suc n) m l two ts q h = within_sound n (read_expression n) (expression_sound n) m l two ts q h
