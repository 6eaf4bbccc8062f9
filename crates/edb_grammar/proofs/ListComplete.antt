-- Lists of the grammar are read whole, where their items are; and the marks at which reading stops.

use Rattle.std.proofs.Common.{◌≡◌, ℕ, zero, suc, ◌≤◌, Bool, true, false, ◌||◌, if◌then◌else◌, List, [], ◌∷◌, ◌++◌, length, length-append, Option, Some, None, refl, sym, ◌∙◌, ap, append_assoc, arith}
use Rattle.std.proofs.lemmas.Bool.{false≢true}
use Rattle.edb_scan.specs.declared.lexeme.Mark.{Mark}
use Rattle.edb_scan.specs.declared.lexeme.Mark.TheVariants as mark
use Rattle.edb_scan.specs.declared.lexeme.Token.TheVariants.{Float}
use Rattle.edb_lang.specs.declared.operators.UnaryOp.{UnaryOp}
use Rattle.edb_syntax.specs.Syntax.{Exp, Exps}
use Rattle.edb_grammar.specs.Toks.{Place, Tok, tok, word, line_at}
use Rattle.edb_grammar.specs.Marks.{same_mark}
use Rattle.edb_grammar.specs.Operators.{Infix, prefix_of, infix_of}
use Rattle.edb_grammar.specs.Expressions.{Reads, ReadsAll, r_variable, r_atom, r_integer, r_character, r_string, r_float, r_list, r_list_with_tail, r_tuple, r_parentheses, r_comprehension, r_begin, r_case, r_if, r_receive, r_receive_after, r_try, r_fun, r_fun_local, r_fun_remote, r_call, r_remote_call, r_prefix, r_infix, r_match, r_catch, one_expression, more_expressions}
use Rattle.edb_grammar.specs.Strings.{last_string, next_string}
use Rattle.edb_grammar.specs.Reading.{Read, behind, closed, closed_at, items, onward, made}
use Rattle.edb_grammar.proofs.MarkLaws.{same_mark_is}
use Rattle.edb_grammar.proofs.Parts.{none_no}
use Rattle.edb_grammar.proofs.Follow.{Calm}
use Rattle.edb_grammar.proofs.PatternComplete.{behind_here, items_last, items_next, pat_begins, BeginsNoPat}
use Rattle.edb_grammar.proofs.ExpressionSound.{exp_first}

-- what the rule R reads is read whole, where F holds of what stands behind
abbrev pub WholeBy : {A : Type 0} → (List Tok → A → Type 0) → (List Tok → Type 0) → Read A → Type 0
WholeBy R F read = (ts : List Tok) → (a : _) → R ts a → (rest : List Tok) → F rest → read (ts ++ rest) ≡ Some (a, rest)

-- items with the mark x between them, one at least
pub data Listed {A L : Type 0} (R : List Tok → A → Type 0) (cons : A → L → L) (nil : L) (x : Mark) : List Tok → L → Type 0 where
  last_listed : (ts : List Tok) (a : A) → R ts a → Listed R cons nil x ts (cons a nil)
  next_listed : (s : Place) (ts us : List Tok) (a : A) (l : L) → R ts a → Listed R cons nil x us l
      → Listed R cons nil x (ts ++ word s x ∷ us) (cons a l)

items_whole : {A L : Type 0} (R : List Tok → A → Type 0) (F : List Tok → Type 0) (cons : A → L → L) (nil : L) (x : Mark) (read : Read A)
    → ((ts : List Tok) (a : A) → R ts a → 1 ≤ length ts) → WholeBy R F read → ((s : Place) (us : List Tok) → F (word s x ∷ us))
    → (ts : List Tok) (l : L) → Listed R cons nil x ts l → (turns : ℕ) → length ts ≤ turns
    → (rest : List Tok) → F rest → behind x rest ≡ None → items cons nil x read turns (ts ++ rest) ≡ Some (l, rest)
items_whole R F cons nil x read long whole between ts l (last_listed us a r) zero h rest f e = let n = long us a r in absurd (omega (arith, n, h))
items_whole R F cons nil x read long whole between ts l (last_listed us a r) (suc turns) h rest f e =
    items_last cons nil x read turns (us ++ rest) rest a (whole us a r rest f) e
items_whole R F cons nil x read long whole between ts l (next_listed s us vs a k r rs) zero h rest f e =
    let n = long us a r in let j = length-append us (word s x ∷ vs) in absurd (omega (arith, n, h, j))
items_whole R F cons nil x read long whole between ts l (next_listed s us vs a k r rs) (suc turns) h rest f e =
    let j = length-append us (word s x ∷ vs) in
    items_next cons nil x read turns ((us ++ word s x ∷ vs) ++ rest) (vs ++ rest) rest s a k
    (ap read (append_assoc us (word s x ∷ vs) rest) ∙ whole us a r (word s x ∷ (vs ++ rest)) (between s (vs ++ rest)))
    (items_whole R F cons nil x read long whole between vs k rs turns (omega (arith, h, j)) rest f e)

-- as many turns as there are tokens are enough
pub listed_whole : {A L : Type 0} (R : List Tok → A → Type 0) (F : List Tok → Type 0) (cons : A → L → L) (nil : L) (x : Mark) (read : Read A)
    → ((ts : List Tok) (a : A) → R ts a → 1 ≤ length ts) → WholeBy R F read → ((s : Place) (us : List Tok) → F (word s x ∷ us))
    → (ts : List Tok) (l : L) → Listed R cons nil x ts l
    → (rest : List Tok) → F rest → behind x rest ≡ None → items cons nil x read (length (ts ++ rest)) (ts ++ rest) ≡ Some (l, rest)
listed_whole R F cons nil x read long whole between ts l r rest f e =
    let j = length-append ts rest in
    items_whole R F cons nil x read long whole between ts l r (length (ts ++ rest)) (omega (arith, j)) rest f e

-- what is read, and the mark behind it
pub closed_here : {A : Type 0} (x : Mark) (o : Option (A × List Tok)) (a : A) (s : Place) (rest : List Tok)
    → o ≡ Some (a, word s x ∷ rest) → closed x o ≡ Some (a, rest)
closed_here x o a s rest e = ap (closed x) e ∙ ap (closed_at a) (behind_here x s rest)

pub onward_part : {A B : Type 0} (read : Read A) (f : A → Read B) (ts us rest : List Tok) (a : A) (o : Option (B × List Tok))
    → read (ts ++ (us ++ rest)) ≡ Some (a, us ++ rest) → f a (us ++ rest) ≡ o → onward (read ((ts ++ us) ++ rest)) f ≡ o
onward_part read f ts us rest a o e g = ap (λ v. onward (read v) f) (append_assoc ts us rest) ∙ (ap (λ v. onward v f) e ∙ g)

pub onward_closed : {A B : Type 0} (x : Mark) (read : Read A) (f : A → Read B) (ts us rest : List Tok) (s : Place) (a : A) (o : Option (B × List Tok))
    → read (ts ++ word s x ∷ (us ++ rest)) ≡ Some (a, word s x ∷ (us ++ rest)) → f a (us ++ rest) ≡ o
    → onward (closed x (read ((ts ++ word s x ∷ us) ++ rest))) f ≡ o
onward_closed x read f ts us rest s a o e g =
    ap (λ v. onward (closed x (read v)) f) (append_assoc ts (word s x ∷ us) rest)
    ∙ (ap (λ v. onward v f) (closed_here x (read (ts ++ word s x ∷ (us ++ rest))) a s (us ++ rest) e) ∙ g)

pub made_closed : {A B : Type 0} (x : Mark) (read : Read A) (f : A → B) (ts rest : List Tok) (s : Place) (a : A)
    → read (ts ++ word s x ∷ rest) ≡ Some (a, word s x ∷ rest)
    → made f (closed x (read ((ts ++ word s x ∷ []) ++ rest))) ≡ Some (f a, rest)
made_closed x read f ts rest s a e =
    ap (λ v. made f (closed x (read v))) (append_assoc ts (word s x ∷ []) rest)
    ∙ ap (made f) (closed_here x (read (ts ++ word s x ∷ rest)) a s rest e)

-- a mark that isn't there
pub not_behind : (x y : Mark) (s : Place) (ts : List Tok) → same_mark x y ≡ false → behind x (word s y ∷ ts) ≡ None
not_behind x y s ts e = ap (λ b. if b then Some ts else None) e

-- whether a mark may go on with an expression before it: arguments, a name behind a module, `=` or an operator
abbrev is_there : Option Infix → Bool
is_there None = false
is_there (Some o) = true

abbrev pub goes_on : Mark → Bool
goes_on x = same_mark mark.ParenOpen x || (same_mark mark.Colon x || (same_mark mark.Match x || is_there (infix_of x)))

both_false : (a b : Bool) → a || b ≡ false → (a ≡ false) × (b ≡ false)
both_false true b h = absurd (false≢true (sym h))
both_false false b h = (refl, h)

pub calm_mark : (x : Mark) → goes_on x ≡ false → (s : Place) (ts : List Tok) → Calm 10 (word s x ∷ ts)
calm_mark x h s ts =
    let p = both_false (same_mark mark.ParenOpen x) (same_mark mark.Colon x || (same_mark mark.Match x || is_there (infix_of x))) h in
    let c = both_false (same_mark mark.Colon x) (same_mark mark.Match x || is_there (infix_of x)) p.1 in
    let m = both_false (same_mark mark.Match x) (is_there (infix_of x)) c.1 in
    record {
      call = record { no_text = refl; no_arguments = not_behind mark.ParenOpen x s ts p.0; no_name = not_behind mark.Colon x s ts c.0 };
      no_match = not_behind mark.Match x s ts m.0;
      looser = λ o e. absurd (false≢true (sym m.1 ∙ ap is_there e));
    }

-- what may stand behind expressions with commas between them
pub record Ends (rest : List Tok) : Type 0 where
  pub calm : Calm 10 rest
  pub no_comma : behind mark.Comma rest ≡ None

pub ends_mark : (x : Mark) → goes_on x ≡ false → same_mark mark.Comma x ≡ false → (s : Place) (ts : List Tok) → Ends (word s x ∷ ts)
ends_mark x h a s ts = record { calm = calm_mark x h s ts; no_comma = not_behind mark.Comma x s ts a }

-- what may stand behind clauses
pub record Closes (rest : List Tok) : Type 0 where
  pub ends : Ends rest
  pub no_semicolon : behind mark.Semicolon rest ≡ None

pub closes_mark : (x : Mark) → goes_on x ≡ false → same_mark mark.Comma x ≡ false → same_mark mark.Semicolon x ≡ false
    → (s : Place) (ts : List Tok) → Closes (word s x ∷ ts)
closes_mark x h a b s ts = record { ends = ends_mark x h a s ts; no_semicolon = not_behind mark.Semicolon x s ts b }

-- the marks with which an expression may begin
abbrev pub may_begin : Mark → Bool
may_begin mark.BracketOpen = true
may_begin mark.BraceOpen = true
may_begin mark.ParenOpen = true
may_begin mark.Begin = true
may_begin mark.Case = true
may_begin mark.If = true
may_begin mark.Receive = true
may_begin mark.Try = true
may_begin mark.Fun = true
may_begin mark.Catch = true
may_begin mark.Plus = true
may_begin mark.Minus = true
may_begin mark.BitNot = true
may_begin mark.Not = true
may_begin _ = false

prefix_begins : (x : Mark) (o : UnaryOp) → prefix_of x ≡ Some o → may_begin x ≡ true
prefix_begins mark.Plus o h = refl
prefix_begins mark.Minus o h = refl
prefix_begins mark.BitNot o h = refl
prefix_begins mark.Not o h = refl
prefix_begins _ o h = absurd (none_no o h)

not_first : (x y : Mark) → may_begin x ≡ false → may_begin y ≡ true → same_mark x y ≡ false
not_first x y h k = by (same_mark x y) refl
  where
    by : (b : Bool) → same_mark x y ≡ b → same_mark x y ≡ false
    by true e = absurd (false≢true (sym h ∙ (ap may_begin (same_mark_is x y e) ∙ k)))
    by false e = e

first_none : (x y : Mark) (s : Place) (ts : List Tok) → may_begin x ≡ false → may_begin y ≡ true → behind x (word s y ∷ ts) ≡ None
first_none x y s ts h k = not_behind x y s ts (not_first x y h k)

-- no expression begins with another mark
pub exp_begins : {m k : ℕ} {ts : List Tok} {e : Exp} → Reads m k ts e → (x : Mark) → may_begin x ≡ false
    → (rest : List Tok) → behind x (ts ++ rest) ≡ None
exp_begins r_variable x h rest = refl
exp_begins r_atom x h rest = refl
exp_begins (r_integer small) x h rest = refl
exp_begins r_character x h rest = refl
exp_begins (r_string last_string) x h rest = refl
exp_begins (r_string (next_string s cs r)) x h rest = refl
exp_begins r_float x h rest = refl
exp_begins (r_list o c r) x h rest = first_none x mark.BracketOpen o _ h refl
exp_begins (r_list_with_tail o b c r t) x h rest = first_none x mark.BracketOpen o _ h refl
exp_begins (r_tuple o c r) x h rest = first_none x mark.BraceOpen o _ h refl
exp_begins (r_parentheses o c r) x h rest = first_none x mark.ParenOpen o _ h refl
exp_begins (r_comprehension o b c r qs) x h rest = first_none x mark.BracketOpen o _ h refl
exp_begins (r_begin o c r) x h rest = first_none x mark.Begin o _ h refl
exp_begins (r_case o f c r cs) x h rest = first_none x mark.Case o _ h refl
exp_begins (r_if o c cs) x h rest = first_none x mark.If o _ h refl
exp_begins (r_receive o c cs) x h rest = first_none x mark.Receive o _ h refl
exp_begins (r_receive_after o a w c cs r s) x h rest = first_none x mark.Receive o _ h refl
exp_begins (r_try o c s cs hs a t) x h rest = first_none x mark.Try o _ h refl
exp_begins (r_fun o c cs t) x h rest = first_none x mark.Fun o _ h refl
exp_begins (r_fun_local o s d a t) x h rest = first_none x mark.Fun o _ h refl
exp_begins (r_fun_remote o r c s d a t) x h rest = first_none x mark.Fun o _ h refl
exp_begins (r_call {ts} {us} o c r rs) x h rest =
    ap (behind x) (append_assoc ts (word o mark.ParenOpen ∷ (us ++ word c mark.ParenClose ∷ [])) rest)
    ∙ exp_begins r x h ((word o mark.ParenOpen ∷ (us ++ word c mark.ParenClose ∷ [])) ++ rest)
exp_begins (r_remote_call {ts} {us} {vs} d o c r f rs) x h rest =
    ap (behind x) (append_assoc ts (word d mark.Colon ∷ (us ++ word o mark.ParenOpen ∷ (vs ++ word c mark.ParenClose ∷ []))) rest)
    ∙ exp_begins r x h ((word d mark.Colon ∷ (us ++ word o mark.ParenOpen ∷ (vs ++ word c mark.ParenClose ∷ []))) ++ rest)
exp_begins (r_prefix y o s f l r) x h rest = first_none x y s _ h (prefix_begins y o f)
exp_begins (r_infix {ts} {us} y o s f j k a b) x h rest =
    ap (behind x) (append_assoc ts (word s y ∷ us) rest) ∙ exp_begins a x h ((word s y ∷ us) ++ rest)
exp_begins (r_match {ts} {us} s p r) x h rest =
    ap (behind x) (append_assoc ts (word s mark.Match ∷ us) rest)
    ∙ pat_begins p x (no_pat x h) ((word s mark.Match ∷ us) ++ rest)
  where
    no_pat : (y : Mark) → may_begin y ≡ false → BeginsNoPat y
    no_pat y g = record { minus = not_first y mark.Minus g refl; brace = not_first y mark.BraceOpen g refl; bracket = not_first y mark.BracketOpen g refl }
exp_begins (r_catch s r) x h rest = first_none x mark.Catch s _ h refl

pub all_begin : {m : ℕ} {ts : List Tok} {es : Exps} → ReadsAll m ts es → (x : Mark) → may_begin x ≡ false
    → (rest : List Tok) → behind x (ts ++ rest) ≡ None
all_begin (one_expression r) x h rest = exp_begins r x h rest
all_begin (more_expressions {ts} {us} s r rs) x h rest =
    ap (behind x) (append_assoc ts (word s mark.Comma ∷ us) rest) ∙ exp_begins r x h ((word s mark.Comma ∷ us) ++ rest)

-- an expression has a token
first_length : (ts : List Tok) → ((rest : List Tok) → line_at (ts ++ rest) ≡ line_at ts) → 1 ≤ length ts
first_length [] h = let e : 0 ≡ 1 = h (tok (record { line = 0; funs = 0 }) Float ∷ []) in absurd (omega (arith, e))
first_length (t ∷ ts) h = omega arith

pub exp_length : {m k : ℕ} {ts : List Tok} {e : Exp} → Reads m k ts e → 1 ≤ length ts
exp_length {ts} r = first_length ts (exp_first r)

pub all_length : {m : ℕ} {ts : List Tok} {es : Exps} → ReadsAll m ts es → 1 ≤ length ts
all_length (one_expression r) = exp_length r
all_length (more_expressions {ts} {us} s r rs) =
    let n = exp_length r in let j = length-append ts (word s mark.Comma ∷ us) in omega (arith, n, j)
