-- What the grammar reads as an expression is read whole from the front of the tokens, and tokens are one expression at most.

use Rattle.std.proofs.Common.{◌≡◌, inl, inr, ℕ, zero, suc, pos, ◌+◌, ◌≤◌, Bool, true, false, if◌then◌else◌, ◌&&◌, nat_le, List, [], ◌∷◌, ◌++◌, Option, Some, None, refl, sym, ◌∙◌, ap, subst, append_assoc, arith}
use Rattle.edb_scan.specs.declared.lexeme.Mark.{Mark}
use Rattle.edb_scan.specs.declared.lexeme.Mark.TheVariants as mark
use Rattle.edb_syntax.specs.Depths.{depth, depths}
use Rattle.edb_syntax.specs.Forms.{unary, remote_call, call}
use Rattle.edb_syntax.specs.Patterns.{Pat}
use Rattle.edb_syntax.specs.Syntax.{Exp, Exps, int, atom, string, match, catch}
use Rattle.edb_grammar.specs.Toks.{Place, Tok, word, line_at, most_integer}
use Rattle.edb_grammar.specs.Strings.{last_string, next_string}
use Rattle.edb_grammar.specs.Operators.{Infix, prefix_of, infix_of, left}
use Rattle.edb_grammar.specs.Expressions.{Reads, ReadsAllOrNone, r_variable, r_atom, r_integer, r_character, r_string, r_float, r_list, r_list_with_tail, r_tuple, r_parentheses, r_comprehension, r_begin, r_case, r_if, r_receive, r_receive_after, r_try, r_fun, r_fun_local, r_fun_remote, r_call, r_remote_call, r_prefix, r_infix, r_match, r_catch}
use Rattle.edb_grammar.specs.Reading.{Read, behind, closed, onward, made, fork, choose, refuse, provided}
use Rattle.edb_grammar.specs.PatternReading.{read_single}
use Rattle.edb_grammar.specs.ExpressionReading.{Reader, read_primary, read_arguments, read_call, prefix_at, operand_at, read_operand, read_operators, read_match, step, within, read_expression}
use Rattle.edb_grammar.proofs.Parts.{some_is, none_no}
use Rattle.edb_grammar.proofs.Follow.{begins_text, CalmCall, Calm, Whole, WholeReader}
use Rattle.edb_grammar.proofs.PatternSound.{pat_first}
use Rattle.edb_grammar.proofs.ExpressionSound.{exp_first}
use Rattle.edb_grammar.proofs.PatternComplete.{le_is, string_whole, pat_begins, reclosed, pat_complete, single_complete}
use Rattle.edb_grammar.proofs.ListComplete.{closed_here, not_behind, calm_mark}
use Rattle.edb_grammar.proofs.NodeComplete.{tuple_complete, arguments_complete, list_complete, list_with_tail_complete, begin_complete, case_complete, if_complete, comprehension_complete, receive_complete, receive_after_complete, try_complete, fun_complete, fun_local_complete, fun_remote_complete}
use Rattle.edb_grammar.proofs.ClimbComplete.{bounds, infix_parts, Behind, Climbs, operand_climbs, infix_climbs, climbs_read}
use Rattle.edb_grammar.proofs.Operand.{Unmatched, unmatched, differs, stops, no_generator, no_match}

-- no level is looser than that of a `catch`
pub level_most : {m k : ℕ} {ts : List Tok} {e : Exp} → Reads m k ts e → k ≤ 10
level_most (r_infix x o s h j k a b) = let n = (bounds o).most in omega (arith, n)
level_most _ = omega arith

depth_positive : (e : Exp) → 1 ≤ depth e
depth_positive (int l i) = omega arith
depth_positive _ = omega arith

-- a part of any level is read whole
pub part_whole : (n : ℕ) (sub : Reader) → WholeReader n sub → (m : ℕ) → Whole m n (sub m 10)
part_whole n sub whole m k ts e r d rest calm = whole m k 10 ts e r d (level_most r) (omega arith) (omega arith) rest calm

-- `inside` reads what stands in parentheses, with one round bracket fewer
abbrev WholeInside : ℕ → ℕ → Read Exp → Type 0
WholeInside zero n inside = Unit {0}
WholeInside (suc m) n inside = Whole m n inside

-- what stands by itself
primary_complete : (m n : ℕ) (part inside : Read Exp) → Whole m n part → WholeInside m (suc n) inside
    → {k : ℕ} {ts : List Tok} {e : Exp} → Reads m k ts e → k ≤ 0 → depth e ≤ suc n
    → (rest : List Tok) → begins_text rest ≡ false → read_primary m n part inside (ts ++ rest) ≡ Some (e, rest)
primary_complete m n part inside whole deeper r_variable z d rest t = refl
primary_complete m n part inside whole deeper r_atom z d rest t = refl
primary_complete m n part inside whole deeper (r_integer {s} {n = i} small) z d rest t =
    ap (λ b. provided b (λ us. Some (int s.line (pos i), us)) rest) (le_is i most_integer small)
primary_complete m n part inside whole deeper r_character z d rest t = refl
primary_complete m n part inside whole deeper (r_string {ts} {cs} r) z d rest t =
    let w = string_whole r rest t in
    ap (λ v. read_primary m n part inside (v ++ rest)) w.parted ∙ (λ i. Some (string (line_at (sym w.parted i)) (w.text i), w.behind i))
primary_complete m n part inside whole deeper r_float z d rest t = refl
primary_complete m n part inside whole deeper (r_list o c r) z d rest t = list_complete m n part inside whole o c r d rest
primary_complete m n part inside whole deeper (r_list_with_tail o b c r l) z d rest t = list_with_tail_complete m n part inside whole o b c r l d rest
primary_complete m n part inside whole deeper (r_tuple o c r) z d rest t = tuple_complete m n part inside whole o c r d rest
primary_complete m n part inside whole deeper (r_parentheses {m = b} {k} {ts} {e} o c r) z d rest t =
    ap (λ v. closed mark.ParenClose (inside v)) (reclosed ts rest (word c mark.ParenClose))
    ∙ closed_here mark.ParenClose (inside (ts ++ word c mark.ParenClose ∷ rest)) e c rest
    (deeper k ts e r d (word c mark.ParenClose ∷ rest) (calm_mark mark.ParenClose refl c rest))
primary_complete m n part inside whole deeper (r_comprehension o b c r qs) z d rest t =
    comprehension_complete m n part inside whole (pat_complete n) (no_generator m n) o b c r qs d rest
primary_complete m n part inside whole deeper (r_begin o c r) z d rest t = begin_complete m n part inside whole o c r d rest
primary_complete m n part inside whole deeper (r_case o f c r cs) z d rest t = case_complete m n part inside whole (pat_complete n) o f c r cs d rest
primary_complete m n part inside whole deeper (r_if o c cs) z d rest t = if_complete m n part inside whole o c cs d rest
primary_complete m n part inside whole deeper (r_receive o c cs) z d rest t = receive_complete m n part inside whole (pat_complete n) o c cs d rest
primary_complete m n part inside whole deeper (r_receive_after o a w c cs r s) z d rest t =
    receive_after_complete m n part inside whole (pat_complete n) o a w c cs r s d rest
primary_complete m n part inside whole deeper (r_try o c s cs hs a h) z d rest t =
    try_complete m n part inside whole (pat_complete n) o c s cs hs a h d rest
primary_complete m n part inside whole deeper (r_fun o c cs h) z d rest t = fun_complete m n part inside whole (pat_complete n) o c cs h d rest
primary_complete m n part inside whole deeper (r_fun_local {n = j} {f} o s b a h) z d rest t = fun_local_complete m n part inside o s b a f j h rest
primary_complete m n part inside whole deeper (r_fun_remote {n = j} {h = g} {f} o r c s b a h) z d rest t =
    fun_remote_complete m n part inside o r c s b a g f j h rest
primary_complete m n part inside whole deeper (r_infix x o s h j k a b) z d rest t =
    let g = (bounds o).least in absurd (omega (arith, g, z))
primary_complete m n part inside whole deeper _ z d rest t = absurd (omega (arith, z))

-- no operator stands before what stands by itself or a call of it
no_prefix : {m k : ℕ} {ts : List Tok} {e : Exp} → Reads m k ts e → k ≤ 1 → (rest : List Tok) → prefix_at (ts ++ rest) ≡ None
no_prefix (r_string last_string) z rest = refl
no_prefix (r_string (next_string s cs r)) z rest = refl
no_prefix (r_call {ts} {us} o c r rs) z rest =
    ap prefix_at (append_assoc ts (word o mark.ParenOpen ∷ (us ++ word c mark.ParenClose ∷ [])) rest)
    ∙ no_prefix r (omega arith) ((word o mark.ParenOpen ∷ (us ++ word c mark.ParenClose ∷ [])) ++ rest)
no_prefix (r_remote_call {ts} {us} {vs} d o c r f rs) z rest =
    ap prefix_at (append_assoc ts (word d mark.Colon ∷ (us ++ word o mark.ParenOpen ∷ (vs ++ word c mark.ParenClose ∷ []))) rest)
    ∙ no_prefix r (omega arith) ((word d mark.Colon ∷ (us ++ word o mark.ParenOpen ∷ (vs ++ word c mark.ParenClose ∷ []))) ++ rest)
no_prefix (r_prefix x o s h l r) z rest = absurd (omega (arith, z))
no_prefix (r_infix x o s h j k a b) z rest = let g = (bounds o).least in absurd (omega (arith, g, z))
no_prefix (r_match s p r) z rest = absurd (omega (arith, z))
no_prefix (r_catch s r) z rest = absurd (omega (arith, z))
no_prefix _ z rest = refl

-- only a `catch` begins with that word
no_catch : {m k : ℕ} {ts : List Tok} {e : Exp} → Reads m k ts e → k ≤ 9 → (rest : List Tok) → behind mark.Catch (ts ++ rest) ≡ None
no_catch (r_string last_string) z rest = refl
no_catch (r_string (next_string s cs r)) z rest = refl
no_catch (r_call {ts} {us} o c r rs) z rest =
    ap (behind mark.Catch) (append_assoc ts (word o mark.ParenOpen ∷ (us ++ word c mark.ParenClose ∷ [])) rest)
    ∙ no_catch r (omega arith) ((word o mark.ParenOpen ∷ (us ++ word c mark.ParenClose ∷ [])) ++ rest)
no_catch (r_remote_call {ts} {us} {vs} d o c r f rs) z rest =
    ap (behind mark.Catch) (append_assoc ts (word d mark.Colon ∷ (us ++ word o mark.ParenOpen ∷ (vs ++ word c mark.ParenClose ∷ []))) rest)
    ∙ no_catch r (omega arith) ((word d mark.Colon ∷ (us ++ word o mark.ParenOpen ∷ (vs ++ word c mark.ParenClose ∷ []))) ++ rest)
no_catch (r_prefix x o s h l r) z rest = not_behind mark.Catch x s _ (differs prefix_of mark.Catch x o refl h)
no_catch (r_infix {ts} {us} x o s h j k a b) z rest =
    ap (behind mark.Catch) (append_assoc ts (word s x ∷ us) rest)
    ∙ no_catch a (let g = (bounds o).left_most in omega (arith, g, j)) ((word s x ∷ us) ++ rest)
no_catch (r_match {ts} {us} s p r) z rest =
    ap (behind mark.Catch) (append_assoc ts (word s mark.Match ∷ us) rest)
    ∙ pat_begins p mark.Catch (record { minus = refl; brace = refl; bracket = refl }) ((word s mark.Match ∷ us) ++ rest)
no_catch (r_catch s r) z rest = absurd (omega (arith, z))
no_catch _ z rest = refl

-- calls, step by step as they are read; l is the line of the first token
abbrev called : ℕ → ℕ → Reader → ℕ → Exp → Read Exp
called m n sub l f us = provided (nat_le (depth f) n) (λ vs. made (call l f) (read_arguments m sub vs)) us

abbrev named : ℕ → ℕ → Reader → ℕ → Exp → Exp → Read Exp
named m n sub l h f us = provided (nat_le (depth h) n && nat_le (depth f) n) (λ vs. made (remote_call l h f) (read_arguments m sub vs)) us

abbrev remote : ℕ → ℕ → Reader → Read Exp → ℕ → Exp → Read Exp
remote m n sub inside l h us = onward (closed mark.ParenOpen (read_primary m n (sub m 10) inside us)) (named m n sub l h)

abbrev other : ℕ → ℕ → Reader → Read Exp → ℕ → Exp → Read Exp
other m n sub inside l f us = fork (behind mark.Colon us) (remote m n sub inside l f) (λ vs. Some (f, vs)) us

abbrev behind_callee : ℕ → ℕ → Reader → Read Exp → ℕ → Exp → Read Exp
behind_callee m n sub inside l f us = fork (behind mark.ParenOpen us) (called m n sub l f) (other m n sub inside l f) us

call_parts : (l n : ℕ) (f : Exp) (es : Exps) → depth (call l f es) ≤ suc n → (depth f ≤ n) × (depths es ≤ n)
call_parts l n (atom k a) es h = (omega (arith, h), omega (arith, h))
call_parts l n _ es h = (omega (arith, h), omega (arith, h))

-- a call whose callee is read whole
call_whole : (m n : ℕ) (sub : Reader) (inside : Read Exp) → WholeReader n sub → (ts us : List Tok) (f : Exp) (es : Exps) (o c : Place)
    → ReadsAllOrNone m us es → depth (call (line_at ts) f es) ≤ suc n → (rest : List Tok)
    → line_at (ts ++ word o mark.ParenOpen ∷ (us ++ word c mark.ParenClose ∷ rest)) ≡ line_at ts
    → read_primary (suc m) n (sub (suc m) 10) inside (ts ++ word o mark.ParenOpen ∷ (us ++ word c mark.ParenClose ∷ rest))
    ≡ Some (f, word o mark.ParenOpen ∷ (us ++ word c mark.ParenClose ∷ rest))
    → read_call (suc m) n sub inside ((ts ++ word o mark.ParenOpen ∷ (us ++ word c mark.ParenClose ∷ [])) ++ rest) ≡ Some (call (line_at ts) f es, rest)
call_whole m n sub inside whole ts us f es o c rs d rest first read =
    let p = call_parts (line_at ts) n f es d in
    ap (read_call (suc m) n sub inside)
    (append_assoc ts (word o mark.ParenOpen ∷ (us ++ word c mark.ParenClose ∷ [])) rest
    ∙ ap (λ v. ts ++ word o mark.ParenOpen ∷ v) (reclosed us rest (word c mark.ParenClose)))
    ∙ (ap (λ q. onward q (behind_callee (suc m) n sub inside (line_at (ts ++ word o mark.ParenOpen ∷ arguments)))) read
    ∙ (ap (λ b. provided b (λ vs. made (call (line_at (ts ++ word o mark.ParenOpen ∷ arguments)) f) (read_arguments (suc m) sub vs)) arguments)
    (le_is (depth f) n p.0)
    ∙ (ap (made (call (line_at (ts ++ word o mark.ParenOpen ∷ arguments)) f))
    (arguments_complete m n sub (part_whole n sub whole m) rs p.1 c rest)
    ∙ ap (λ l. Some (call l f es, rest)) first)))
  where
    arguments : List Tok
    arguments = us ++ word c mark.ParenClose ∷ rest

-- a remote call whose module and name are read whole
remote_whole : (m n : ℕ) (sub : Reader) (inside : Read Exp) → WholeReader n sub → (ts us vs : List Tok) (h f : Exp) (es : Exps) (d o c : Place)
    → ReadsAllOrNone m vs es → depth (remote_call (line_at ts) h f es) ≤ suc n → (rest : List Tok)
    → line_at (ts ++ word d mark.Colon ∷ (us ++ word o mark.ParenOpen ∷ (vs ++ word c mark.ParenClose ∷ rest))) ≡ line_at ts
    → read_primary (suc m) n (sub (suc m) 10) inside (ts ++ word d mark.Colon ∷ (us ++ word o mark.ParenOpen ∷ (vs ++ word c mark.ParenClose ∷ rest)))
    ≡ Some (h, word d mark.Colon ∷ (us ++ word o mark.ParenOpen ∷ (vs ++ word c mark.ParenClose ∷ rest)))
    → read_primary (suc m) n (sub (suc m) 10) inside (us ++ word o mark.ParenOpen ∷ (vs ++ word c mark.ParenClose ∷ rest))
    ≡ Some (f, word o mark.ParenOpen ∷ (vs ++ word c mark.ParenClose ∷ rest))
    → read_call (suc m) n sub inside ((ts ++ word d mark.Colon ∷ (us ++ word o mark.ParenOpen ∷ (vs ++ word c mark.ParenClose ∷ []))) ++ rest)
    ≡ Some (remote_call (line_at ts) h f es, rest)
remote_whole m n sub inside whole ts us vs h f es d o c rs deep rest first read_module read_name =
    ap (read_call (suc m) n sub inside) parted
    ∙ (ap (λ q. onward q (behind_callee (suc m) n sub inside line)) read_module
    ∙ (ap (λ q. onward (closed mark.ParenOpen q) (named (suc m) n sub line h)) read_name
    ∙ (ap (λ b. provided b (λ ws. made (remote_call line h f) (read_arguments (suc m) sub ws)) arguments) shallow
    ∙ (ap (made (remote_call line h f)) (arguments_complete m n sub (part_whole n sub whole m) rs (omega (arith, deep)) c rest)
    ∙ ap (λ l. Some (remote_call l h f es, rest)) first))))
  where
    arguments : List Tok
    arguments = vs ++ word c mark.ParenClose ∷ rest

    line : ℕ
    line = line_at (ts ++ word d mark.Colon ∷ (us ++ word o mark.ParenOpen ∷ arguments))

    shallow : nat_le (depth h) n && nat_le (depth f) n ≡ true
    shallow = rw (le_is (depth h) n (omega (arith, deep)), le_is (depth f) n (omega (arith, deep))) refl

    parted : (ts ++ word d mark.Colon ∷ (us ++ word o mark.ParenOpen ∷ (vs ++ word c mark.ParenClose ∷ []))) ++ rest
        ≡ ts ++ word d mark.Colon ∷ (us ++ word o mark.ParenOpen ∷ arguments)
    parted = append_assoc ts (word d mark.Colon ∷ (us ++ word o mark.ParenOpen ∷ (vs ++ word c mark.ParenClose ∷ []))) rest
        ∙ ap (λ v. ts ++ word d mark.Colon ∷ v)
        (append_assoc us (word o mark.ParenOpen ∷ (vs ++ word c mark.ParenClose ∷ [])) rest
        ∙ ap (λ v. us ++ word o mark.ParenOpen ∷ v) (reclosed vs rest (word c mark.ParenClose)))

-- what stands by itself and isn't called
alone_whole : (m n : ℕ) (sub : Reader) (inside : Read Exp) (ts : List Tok) (e : Exp) (rest : List Tok)
    → prefix_at (ts ++ rest) ≡ None → read_primary m n (sub m 10) inside (ts ++ rest) ≡ Some (e, rest) → CalmCall rest
    → read_operand m n sub inside (ts ++ rest) ≡ Some (e, rest)
alone_whole m n sub inside ts e rest p read calm =
    ap (operand_at m n sub inside (ts ++ rest)) p
    ∙ (ap (λ q. onward q (behind_callee m n sub inside (line_at (ts ++ rest)))) read
    ∙ (ap (λ v. fork v (called m n sub (line_at (ts ++ rest)) e) (other m n sub inside (line_at (ts ++ rest)) e) rest) calm.no_arguments
    ∙ ap (λ v. fork v (remote m n sub inside (line_at (ts ++ rest)) e) (λ vs. Some (e, vs)) rest) calm.no_name))

-- operands
operand_complete : (m n : ℕ) (sub : Reader) (inside : Read Exp) → WholeReader n sub → WholeInside m (suc n) inside
    → {k : ℕ} {ts : List Tok} {e : Exp} → Reads m k ts e → k ≤ 2 → depth e ≤ suc n
    → (rest : List Tok) → Calm 2 rest → read_operand m n sub inside (ts ++ rest) ≡ Some (e, rest)
operand_complete m n sub inside whole deeper (r_call {m = b} {ts} {us} {f} {es} o c r rs) z d rest calm =
    ap (operand_at m n sub inside ((ts ++ word o mark.ParenOpen ∷ (us ++ word c mark.ParenClose ∷ [])) ++ rest))
    (no_prefix (r_call o c r rs) (omega arith) rest)
    ∙ call_whole b n sub inside whole ts us f es o c rs d rest
    (exp_first r (word o mark.ParenOpen ∷ (us ++ word c mark.ParenClose ∷ rest)))
    (primary_complete (suc b) n (sub (suc b) 10) inside (part_whole n sub whole (suc b)) deeper r (omega arith)
    (let p = call_parts (line_at ts) n f es d in omega (arith, p)) (word o mark.ParenOpen ∷ (us ++ word c mark.ParenClose ∷ rest)) refl)
operand_complete m n sub inside whole deeper (r_remote_call {m = b} {ts} {us} {vs} {h} {f} {es} q o c r t rs) z d rest calm =
    ap (operand_at m n sub inside ((ts ++ word q mark.Colon ∷ (us ++ word o mark.ParenOpen ∷ (vs ++ word c mark.ParenClose ∷ []))) ++ rest))
    (no_prefix (r_remote_call q o c r t rs) (omega arith) rest)
    ∙ remote_whole b n sub inside whole ts us vs h f es q o c rs d rest
    (exp_first r (word q mark.Colon ∷ (us ++ word o mark.ParenOpen ∷ (vs ++ word c mark.ParenClose ∷ rest))))
    (primary_complete (suc b) n (sub (suc b) 10) inside (part_whole n sub whole (suc b)) deeper r (omega arith) (omega (arith, d))
    (word q mark.Colon ∷ (us ++ word o mark.ParenOpen ∷ (vs ++ word c mark.ParenClose ∷ rest))) refl)
    (primary_complete (suc b) n (sub (suc b) 10) inside (part_whole n sub whole (suc b)) deeper t (omega arith) (omega (arith, d))
    (word o mark.ParenOpen ∷ (vs ++ word c mark.ParenClose ∷ rest)) refl)
operand_complete m n sub inside whole deeper (r_prefix {k} {ts} {e} x o s h l r) z d rest calm =
    ap (operand_at m n sub inside (word s x ∷ (ts ++ rest))) h
    ∙ ap (made (unary s.line o)) (whole m k 2 ts e r (omega (arith, d)) l (omega arith) (omega arith) rest calm)
operand_complete m n sub inside whole deeper (r_infix x o s h j k a b) z d rest calm = let g = (bounds o).least in absurd (omega (arith, g, z))
operand_complete m n sub inside whole deeper (r_match s p r) z d rest calm = absurd (omega (arith, z))
operand_complete m n sub inside whole deeper (r_catch s r) z d rest calm = absurd (omega (arith, z))
operand_complete m n sub inside whole deeper {ts} {e} r z d rest calm =
    alone_whole m n sub inside ts e rest (no_prefix r (omega arith) rest)
    (primary_complete m n (sub m 10) inside (part_whole n sub whole m) deeper r (omega arith) d rest calm.call.no_text) calm.call

-- an operator between operands goes on with no call, and is no `=`
infix_call : (x : Mark) (o : Infix) → infix_of x ≡ Some o → (s : Place) (ts : List Tok) → CalmCall (word s x ∷ ts)
infix_call x o h s ts = record {
  no_text = refl;
  no_arguments = not_behind mark.ParenOpen x s ts (differs infix_of mark.ParenOpen x o refl h);
  no_name = not_behind mark.Colon x s ts (differs infix_of mark.Colon x o refl h);
}

-- an operand, and the operators behind it
climbs : (m n : ℕ) (sub : Reader) (inside : Read Exp) → WholeReader n sub → WholeInside m (suc n) inside
    → (l : ℕ) {k : ℕ} {ts : List Tok} {e : Exp} (r : Reads m k ts e) → Unmatched r → k ≤ 9 → k ≤ l → depth e ≤ suc n
    → (rest : List Tok) → CalmCall rest → behind mark.Match rest ≡ None → Behind l k rest → Climbs m n sub inside l k ts e rest
climbs m n sub inside whole deeper l (r_infix {j} {k} {ts} {us} {a} {b} x o s h jl kr r t) u z kl d rest call equals after =
    let p = infix_parts (line_at ts) n o a b d in
    let w = bounds o in
    let most = w.left_most in
    let tight = w.left_tight in
    infix_climbs m n sub inside whole l j k ts us a b x o s h jl kr t kl p.0 p.1 (exp_first r (word s x ∷ us)) rest call equals after
    (climbs m n sub inside whole deeper l r (unmatched r (omega (arith, jl, most))) (omega (arith, jl, most)) (omega (arith, jl, kl, tight))
    (omega (arith, p)) (word s x ∷ (us ++ rest)) (infix_call x o h s (us ++ rest))
    (not_behind mark.Match x s (us ++ rest) (differs infix_of mark.Match x o refl h))
    (λ q e. inl (subst (λ i. j ≤ left i) (some_is o q (sym h ∙ e)) jl)))
climbs m n sub inside whole deeper l (r_match s p r) u z kl d rest call equals after = absurd u
climbs m n sub inside whole deeper l (r_catch s r) u z kl d rest call equals after = absurd (omega (arith, z))
climbs m n sub inside whole deeper l {k} {ts} {e} r u z kl d rest call equals after =
    operand_climbs m n sub inside l k ts e rest (exp_first r rest)
    (operand_complete m n sub inside whole deeper r (omega arith) d rest
    (record { call = call; no_match = equals; looser = λ o f. let g = (bounds o).least in omega (arith, g) }))

no_choice : {A : Type 0} (b : Bool) (o : Option A) → o ≡ None → (if b then o else None) ≡ None
no_choice true o e = e
no_choice false o e = refl

-- behind a `=` or a `catch` stands any expression
calm_loosest : (l : ℕ) → 9 ≤ l → (rest : List Tok) → Calm l rest → Calm 10 rest
calm_loosest l h rest calm = record {
  call = calm.call;
  no_match = calm.no_match;
  looser = λ o e. let g = calm.looser o e in let b = (bounds o).most in absurd (omega (arith, g, b, h));
}

-- what begins with no `catch` is a match, or an operand and operators
uncaught : (m n : ℕ) (sub : Reader) (inside : Read Exp) (l : ℕ) (ts : List Tok) → behind mark.Catch ts ≡ None
    → step n sub inside m l ts ≡ read_match m n sub inside l ts
uncaught m n sub inside l ts e =
    ap (λ o. fork o (λ us. made (catch (line_at ts)) (sub m 10 us)) (read_match m n sub inside l) ts)
    (no_choice (nat_le 10 l) (behind mark.Catch ts) e)

match_whole : (m n : ℕ) (sub : Reader) (inside : Read Exp) → (l : ℕ) → 9 ≤ l → (s : Place) (ts us : List Tok) (p : Pat) (e : Exp) (rest : List Tok)
    → line_at (ts ++ word s mark.Match ∷ (us ++ rest)) ≡ line_at ts
    → read_single n (ts ++ word s mark.Match ∷ (us ++ rest)) ≡ Some (p, word s mark.Match ∷ (us ++ rest))
    → sub m 10 (us ++ rest) ≡ Some (e, rest)
    → read_match m n sub inside l ((ts ++ word s mark.Match ∷ us) ++ rest) ≡ Some (match (line_at ts) p e, rest)
match_whole m n sub inside l h s ts us p e rest first read_pattern read =
    ap (read_match m n sub inside l) (append_assoc ts (word s mark.Match ∷ us) rest)
    ∙ (ap (λ b. choose (if b then closed mark.Match (read_single n tokens) else None) right (read_operators m n sub inside l) tokens) (le_is 9 l h)
    ∙ (ap (λ o. choose (closed mark.Match o) right (read_operators m n sub inside l) tokens) read_pattern
    ∙ (ap (made (match (line_at tokens) p)) read ∙ ap (λ i. Some (match i p e, rest)) first)))
  where
    tokens : List Tok
    tokens = ts ++ word s mark.Match ∷ (us ++ rest)

    right : Pat → Read Exp
    right q vs = made (match (line_at tokens) q) (sub m 10 vs)

-- an expression that is no match and no `catch`
operators_whole : (m n : ℕ) (sub : Reader) (inside : Read Exp) → WholeReader n sub → WholeInside m (suc n) inside
    → (l : ℕ) {k : ℕ} {ts : List Tok} {e : Exp} (r : Reads m k ts e) → Unmatched r → k ≤ 9 → depth e ≤ suc n → k ≤ l
    → (rest : List Tok) → Calm l rest → step n sub inside m l (ts ++ rest) ≡ Some (e, rest)
operators_whole m n sub inside whole deeper l {k} {ts} {e} r u z d kl rest calm =
    uncaught m n sub inside l (ts ++ rest) (no_catch r z rest)
    ∙ (ap (λ o. choose o (λ p us. made (match (line_at (ts ++ rest)) p) (sub m 10 us)) (read_operators m n sub inside l) (ts ++ rest))
    (no_choice (nat_le 9 l) (closed mark.Match (read_single n (ts ++ rest))) unread)
    ∙ climbs_read m n sub inside l k ts e rest
    (climbs m n sub inside whole deeper l r u z kl d rest calm.call calm.no_match (λ o f. inr (calm.looser o f))) calm)
  where
    unread : closed mark.Match (read_single n (ts ++ rest)) ≡ None
    unread = no_match n (ts ++ rest)
        (stops mark.Match (record { paren = refl; colon = refl; no_infix = refl }) r u rest calm.call.no_text calm.no_match)

-- one node
step_complete : (m n : ℕ) (sub : Reader) (inside : Read Exp) → WholeReader n sub → WholeInside m (suc n) inside
    → (l : ℕ) {k : ℕ} {ts : List Tok} {e : Exp} → Reads m k ts e → depth e ≤ suc n → k ≤ l → l ≤ 10
    → (rest : List Tok) → Calm l rest → step n sub inside m l (ts ++ rest) ≡ Some (e, rest)
step_complete m n sub inside whole deeper l (r_catch {k} {ts} {e} s r) d kl ten rest calm =
    ap (λ b. fork (if b then Some (ts ++ rest) else None) (λ us. made (catch s.line) (sub m 10 us)) (read_match m n sub inside l)
    (word s mark.Catch ∷ (ts ++ rest))) (le_is 10 l kl)
    ∙ ap (made (catch s.line)) (part_whole n sub whole m k ts e r (omega (arith, d)) rest (calm_loosest l (omega (arith, kl)) rest calm))
step_complete m n sub inside whole deeper l (r_match {k} {ts} {us} {p} {e} s q r) d kl ten rest calm =
    uncaught m n sub inside l ((ts ++ word s mark.Match ∷ us) ++ rest) (no_catch (r_match s q r) (omega arith) rest)
    ∙ match_whole m n sub inside l kl s ts us p e rest (pat_first q (word s mark.Match ∷ (us ++ rest)))
    (single_complete n ts p q (omega (arith, d)) (word s mark.Match ∷ (us ++ rest)) refl)
    (part_whole n sub whole m k us e r (omega (arith, d)) rest (calm_loosest l kl rest calm))
step_complete m n sub inside whole deeper l (r_infix x o s h j k a b) d kl ten rest calm =
    operators_whole m n sub inside whole deeper l (r_infix x o s h j k a b) tt (bounds o).most d kl rest calm
step_complete m n sub inside whole deeper l r d kl ten rest calm =
    operators_whole m n sub inside whole deeper l r tt (omega arith) d kl rest calm

within_complete : (n : ℕ) (sub : Reader) → WholeReader n sub → WholeReader (suc n) (within n sub)
within_complete n sub whole zero k l ts e r d kl two ten rest calm = step_complete zero n sub refuse whole tt l r d kl ten rest calm
within_complete n sub whole (suc m) k l ts e r d kl two ten rest calm =
    step_complete (suc m) n sub (λ us. within n sub m 10 us) whole
    (λ j us a t f more_rest ends. within_complete n sub whole m j 10 us a t f (level_most t) (omega arith) (omega arith) more_rest ends)
    l r d kl ten rest calm

-- Each expression of the grammar is read whole where the budgets for depth and round brackets are enough for it, and
-- nothing stands behind it that goes on with it.
pub expression_complete : (n : ℕ) → WholeReader n (read_expression n)
expression_complete zero m k l ts e r d kl two ten rest calm = absurd (let g = depth_positive e in omega (arith, g, d))
expression_complete (suc n) m k l ts e r d kl two ten rest calm =
    within_complete n (read_expression n) (expression_complete n) m k l ts e r d kl two ten rest calm

-- nothing goes on where no token is left
pub calm_end : (l : ℕ) → Calm l []
calm_end l = record {
  call = record { no_text = refl; no_arguments = refl; no_name = refl };
  no_match = refl;
  looser = λ o e. absurd (none_no o e);
}

-- tokens are one expression at most
pub one_expression_tree : {m j k : ℕ} {ts : List Tok} {d e : Exp} → Reads m j ts d → Reads m k ts e → d ≡ e
one_expression_tree {m} {j} {k} {ts} {d} {e} r t =
    ap (λ q. q.0) (some_is (d, []) (e, [])
    (sym (expression_complete (depth d + depth e) m j 10 ts d r (omega arith) (level_most r) (omega arith) (omega arith) [] (calm_end 10))
    ∙ expression_complete (depth d + depth e) m k 10 ts e t (omega arith) (level_most t) (omega arith) (omega arith) [] (calm_end 10)))
