-- Layouts otherwise put, and their texts step by step.

use Rattle.std.proofs.Common.{◌≡◌, ℕ, zero, suc, ◌+◌, ◌<◌, ◌≤◌, Bool, true, false, eqb, List, [], ◌∷◌, ◌++◌, length, get_or, drop, refl, ap, sym, ◌∙◌, append-nil, append_assoc, eqb-true, length-drop, Result, arith}
use Rattle.std.proofs.lemmas.Bool.{false≢true}
use Rattle.std.proofs.lemmas.Bool.Decides.{nat_tests}
use Rattle.std.proofs.lemmas.Result.{on_ok_weaker}
use Rattle.std.specs.Result.{OnOk}
use Rattle.edb_scan.specs.declared.lexeme.Mark.{Mark}
use Rattle.edb_scan.specs.declared.lexeme.Mark.TheVariants as mark
use Rattle.edb_scan.specs.declared.lexeme.Token.TheVariants as token
use Rattle.edb_lang.specs.declared.operators.UnaryOp.{UnaryOp}
use Rattle.edb_lang.specs.declared.operators.BinaryOp.{BinaryOp}
use Rattle.edb_syntax.specs.declared.operation.Operation.{Operation}
use Rattle.edb_syntax.specs.declared.operation.Operation.TheVariants as operation
use Rattle.edb_syntax.specs.Syntax.{Exp, Exps, Guards, ClauseTree, CatchTree, FunctionTree, apply, and_also, or_else, none, more, clause, exps_of, guards_of, clauses_of, catches_of}
use Rattle.edb_print.specs.Pieces.{Gap, tight, blank, line, piece, sign, piece_text, bytes_of}
use Rattle.edb_print.specs.Layout.{prefix_mark, prefix_gap, is_operator, is_open, grouped, infix_mark, with_pattern, with_parameters, with_name, lay, lay_guard, lay_to_tail, lay_when, lay_clause, lay_clauses, lay_of, lay_catch, lay_dot, lay_function}
use Rattle.edb_print.specs.Parts.{all_left, lay_item, tail_left, lay_tail_item, lay_behind, lay_braces, lay_infix, lay_arguments, lay_block, lay_handlers}
use Rattle.edb_print.proofs.Texts.{bytes_append}

-- an operator between the first two operands
pub binary_laid : (g : Gap) (d l : ℕ) (o : BinaryOp) (es : Exps) → lay g d (apply l (operation.Binary o) es) ≡ lay_infix g d (infix_mark o) es
binary_laid g d l o none = refl
binary_laid g d l o (more a none) = refl
binary_laid g d l o (more a (more b es)) = refl

pub send_laid : (g : Gap) (d l : ℕ) (es : Exps) → lay g d (apply l operation.Send es) ≡ lay_infix g d mark.Bang es
send_laid g d l none = refl
send_laid g d l (more a none) = refl
send_laid g d l (more a (more b es)) = refl

-- a clause of a function is one of a fun after the name
pub named_laid : (f : List ℕ) (g : Gap) (d : ℕ) (c : ClauseTree)
    → lay_clause (with_name f) g d c ≡ piece g (token.Atom f) ∷ lay_clause with_parameters tight d c
named_laid f g d (clause ps gs s) = refl

-- parts that aren't empty
pub of_block : (d : ℕ) (cs : List ClauseTree) → eqb (length cs) 0 ≡ false
    → lay_of d (clauses_of cs) ≡ sign (line d) mark.Of ∷ lay_block with_pattern d (clauses_of cs)
of_block d [] h = cc
of_block d (c ∷ cs) h = refl

pub catch_block : (d : ℕ) (hs : List CatchTree) → eqb (length hs) 0 ≡ false
    → lay_catch d (catches_of hs) ≡ sign (line d) mark.Catch ∷ lay_handlers (d + 4) (catches_of hs)
catch_block d [] h = cc
catch_block d (c ∷ hs) h = refl

dot_laid : (cs : List ClauseTree) → eqb (length cs) 0 ≡ false → lay_dot (clauses_of cs) ≡ piece tight token.Dot ∷ []
dot_laid [] h = cc
dot_laid (c ∷ cs) h = refl

pub when_guard : (d : ℕ) (gs : List Exps) → eqb (length gs) 0 ≡ false
    → lay_when d (guards_of gs) ≡ sign blank mark.When ∷ lay_guard blank d (guards_of gs)
when_guard d [] h = cc
when_guard d (es ∷ gs) h = refl

pub tail_list : (g : Gap) (d l : ℕ) (es : List Exp) → eqb (length es) 0 ≡ false
    → bytes_of (lay g d (apply l operation.ListWithTail (exps_of es)))
    ≡ bytes_of (sign g mark.BracketOpen ∷ (tail_left true d (exps_of es) ++ sign tight mark.BracketClose ∷ []))
tail_list g d l [] h = cc
tail_list g d l (e ∷ es) h =
    ap (λ ps. bytes_of (sign g mark.BracketOpen ∷ ps))
    (sym (append_assoc (lay tight d e) (lay_to_tail d (exps_of es)) (sign tight mark.BracketClose ∷ [])))

-- slices with an item, or two
pub one_up : (es : List Exp) (a : Exp) → 1 ≤ length es → a ≡ get_or es 0 a → es ≡ a ∷ drop 1 es
one_up [] a h e = absurd (omega (arith, h))
one_up (b ∷ es) a h e = ap (λ x. x ∷ es) (sym e)

pub two_up : (es : List Exp) (a b : Exp) → 2 ≤ length es → a ≡ get_or es 0 a → b ≡ get_or es 1 b → es ≡ a ∷ b ∷ drop 2 es
two_up [] a b h e f = absurd (omega (arith, h))
two_up (c ∷ []) a b h e f = absurd (omega (arith, h))
two_up (c ∷ d ∷ es) a b h e f = ap (λ x. x ∷ d ∷ es) (sym e) ∙ ap (λ x. a ∷ x ∷ es) (sym f)

-- one item, and those that are left after it
pub item_left : (b : Bool) (g h : Gap) (d : ℕ) (e : Exp) (es : Exps)
    → all_left b g h d (more e es) ≡ lay_item b g h d e ++ all_left false g h d es
item_left true g h d e es = refl
item_left false g h d e es = refl

pub none_left : (b : Bool) (g h : Gap) (d : ℕ) → all_left b g h d none ≡ []
none_left true g h d = refl
none_left false g h d = refl

pub skip_none : (k : ℕ) → drop {A = Exp} k [] ≡ []
skip_none zero = refl
skip_none (suc k) = refl

some_left : (f : Exp) (es : List Exp) → eqb (length (f ∷ es)) 0 ≡ true → ⊥
some_left f es h = let e = eqb-true (length (f ∷ es)) 0 h in omega (arith, e)

pub tail_item_left : (b last : Bool) (d : ℕ) (e : Exp) (es : List Exp) → eqb (length es) 0 ≡ last
    → tail_left b d (more e (exps_of es)) ≡ lay_tail_item b last d e ++ tail_left false d (exps_of es)
tail_item_left true last d e es h = refl
tail_item_left false true d e [] h = sym (append-nil _)
tail_item_left false false d e [] h = absurd (false≢true (sym h))
tail_item_left false true d e (f ∷ es) h = absurd (some_left f es h)
tail_item_left false false d e (f ∷ es) h = refl

-- what was put after what was there, step by step
pub chain2 : (o a b s t w : List ℕ) → a ≡ o ++ s → b ≡ a ++ t → w ≡ s ++ t → b ≡ o ++ w
chain2 o a b s t w e f g = f ∙ ap (λ x. x ++ t) e ∙ append_assoc o s t ∙ ap (λ x. o ++ x) (sym g)

pub chain3 : (o a b c s t u w : List ℕ) → a ≡ o ++ s → b ≡ a ++ t → c ≡ b ++ u → w ≡ s ++ (t ++ u) → c ≡ o ++ w
chain3 o a b c s t u w e f g h = chain2 o b c (s ++ t) u w (chain2 o a b s t (s ++ t) e f refl) g (h ∙ sym (append_assoc s t u))

pub chain4 : (o a b c d s t u v w : List ℕ) → a ≡ o ++ s → b ≡ a ++ t → c ≡ b ++ u → d ≡ c ++ v → w ≡ s ++ (t ++ (u ++ v)) → d ≡ o ++ w
chain4 o a b c d s t u v w e f g h i =
    chain2 o c d (s ++ (t ++ u)) v w (chain3 o a b c s t u (s ++ (t ++ u)) e f g refl) h
    (i ∙ ap (λ x. s ++ x) (sym (append_assoc t u v)) ∙ sym (append_assoc s (t ++ u) v))

pub catch_text : (d k : ℕ) (hs : List CatchTree) → eqb (length hs) 0 ≡ false → k ≡ d + 4
    → bytes_of (lay_catch d (catches_of hs)) ≡ piece_text (sign (line d) mark.Catch) ++ bytes_of (lay_handlers k (catches_of hs))
catch_text d k hs h e =
    ap bytes_of (catch_block d hs h) ∙ ap (λ n. piece_text (sign (line d) mark.Catch) ++ bytes_of (lay_handlers n (catches_of hs))) (sym e)

pub when_text : (d : ℕ) (gs : Guards) (as_list : List Exps) → gs ≡ guards_of as_list → eqb (length as_list) 0 ≡ false
    → bytes_of (lay_when d gs) ≡ piece_text (sign blank mark.When) ++ bytes_of (lay_guard blank d gs)
when_text d gs as_list e h =
    ap (λ v. bytes_of (lay_when d v)) e ∙ ap bytes_of (when_guard d as_list h)
    ∙ ap (λ v. piece_text (sign blank mark.When) ++ bytes_of (lay_guard blank d v)) (sym e)

pub function_text : (f : FunctionTree) (cs : List ClauseTree) → f.clauses ≡ clauses_of cs → eqb (length cs) 0 ≡ false
    → bytes_of (lay_function f) ≡ bytes_of (lay_clauses (with_name f.name) (line 0) 0 0 f.clauses) ++ piece_text (piece tight token.Dot)
function_text f cs e h =
    bytes_append (lay_clauses (with_name f.name) (line 0) 0 0 f.clauses) (lay_dot f.clauses)
    ∙ ap (λ ps. bytes_of (lay_clauses (with_name f.name) (line 0) 0 0 f.clauses) ++ bytes_of ps) (ap lay_dot e ∙ dot_laid cs h)

pub unary_text : (g k : Gap) (d l : ℕ) (o : UnaryOp) (x : Mark) (es : List Exp) (a : Exp) → es ≡ a ∷ drop 1 es → x ≡ prefix_mark o → k ≡ prefix_gap o
    → bytes_of (lay g d (apply l (operation.Unary o) (exps_of es))) ≡ piece_text (sign g x) ++ bytes_of (grouped (is_operator a) (λ h. lay h d a) k)
unary_text g k d l o x es a e f h =
    ap (λ v. bytes_of (lay g d (apply l (operation.Unary o) (exps_of v)))) e
    ∙ ap (λ v. piece_text (sign g v) ++ bytes_of (grouped (is_operator a) (λ h. lay h d a) (prefix_gap o))) (sym f)
    ∙ ap (λ v. piece_text (sign g x) ++ bytes_of (grouped (is_operator a) (λ h. lay h d a) v)) (sym h)

pub fun_call_text : (g : Gap) (d l : ℕ) (es : List Exp) (a : Exp) → es ≡ a ∷ drop 1 es
    → bytes_of (lay g d (apply l operation.FunCall (exps_of es)))
    ≡ bytes_of (grouped (is_open a) (λ h. lay h d a) g) ++ bytes_of (lay_arguments d (exps_of (drop 1 es)))
fun_call_text g d l es a e =
    ap (λ v. bytes_of (lay g d (apply l operation.FunCall (exps_of v)))) e
    ∙ bytes_append (grouped (is_open a) (λ h. lay h d a) g) (lay_arguments d (exps_of (drop 1 es)))

pub remote_text : (g : Gap) (d l : ℕ) (es : List Exp) (a b : Exp) → es ≡ a ∷ b ∷ drop 2 es
    → bytes_of (lay g d (apply l operation.RemoteCall (exps_of es)))
    ≡ bytes_of (grouped (is_open a) (λ h. lay h d a) g)
    ++ (piece_text (sign tight mark.Colon) ++ (bytes_of (grouped (is_open b) (λ h. lay h d b) tight) ++ bytes_of (lay_arguments d (exps_of (drop 2 es)))))
remote_text g d l es a b e =
    ap (λ v. bytes_of (lay g d (apply l operation.RemoteCall (exps_of v)))) e
    ∙ bytes_append (grouped (is_open a) (λ h. lay h d a) g)
    (sign tight mark.Colon ∷ (grouped (is_open b) (λ h. lay h d b) tight ++ lay_arguments d (exps_of (drop 2 es))))
    ∙ ap (λ v. bytes_of (grouped (is_open a) (λ h. lay h d a) g) ++ (piece_text (sign tight mark.Colon) ++ v))
    (bytes_append (grouped (is_open b) (λ h. lay h d b) tight) (lay_arguments d (exps_of (drop 2 es))))

-- fewer operands than an operation takes
pub few_infix : (g : Gap) (d : ℕ) (x : Mark) (es : List Exp) → length es < 2 → lay_infix g d x (exps_of es) ≡ lay_braces g d (exps_of es)
few_infix g d x [] h = refl
few_infix g d x (a ∷ []) h = refl
few_infix g d x (a ∷ b ∷ es) h = absurd (omega (arith, h))

pub few_remote : (g : Gap) (d l : ℕ) (es : List Exp) → length es < 2
    → lay g d (apply l operation.RemoteCall (exps_of es)) ≡ lay_braces g d (exps_of es)
few_remote g d l [] h = refl
few_remote g d l (a ∷ []) h = refl
few_remote g d l (a ∷ b ∷ es) h = absurd (omega (arith, h))

pub none_laid : (g : Gap) (d l : ℕ) (o : Operation) (es : List Exp) → length es < 1 → lay g d (apply l o none) ≡ lay_braces g d none
    → lay g d (apply l o (exps_of es)) ≡ lay_braces g d (exps_of es)
none_laid g d l o [] h e = e
none_laid g d l o (a ∷ es) h e = absurd (omega (arith, h))

pub few_each : {T E : Type 0} (r : Result T E) (out new : List ℕ) (g : Gap) (d : ℕ) (o : Operation) (es : Exps)
    → ((l : ℕ) → lay g d (apply l o es) ≡ lay_braces g d es) → OnOk r (new ≡ out ++ bytes_of (lay_braces g d es))
    → OnOk r ((l : ℕ) → new ≡ out ++ bytes_of (lay g d (apply l o es)))
few_each r out new g d o es e h =
    on_ok_weaker {P = new ≡ out ++ bytes_of (lay_braces g d es)} {Q = (l : ℕ) → new ≡ out ++ bytes_of (lay g d (apply l o es))} r
    (λ f l. f ∙ ap (λ ps. out ++ bytes_of ps) (sym (e l))) h

pub tail_text : (g : Gap) (d l : ℕ) (es : List Exp) → eqb (length es) 0 ≡ false
    → bytes_of (lay g d (apply l operation.ListWithTail (exps_of es)))
    ≡ piece_text (sign g mark.BracketOpen) ++ (bytes_of (tail_left true d (exps_of es)) ++ piece_text (sign tight mark.BracketClose))
tail_text g d l es h =
    tail_list g d l es h
    ∙ ap (λ v. piece_text (sign g mark.BracketOpen) ++ v) (bytes_append (tail_left true d (exps_of es)) (sign tight mark.BracketClose ∷ []))

drop_past : (i : ℕ) (es : List Exp) → length es ≤ i → drop i es ≡ []
drop_past zero [] h = refl
drop_past (suc i) [] h = refl
drop_past zero (e ∷ es) h = absurd (omega (arith, h))
drop_past (suc i) (e ∷ es) h = drop_past i es (omega (arith, h))

-- at the end of the items nothing is left
pub items_end : (b : Bool) (g h : Gap) (d k i : ℕ) (es : List Exp) → length es ≤ i
    → bytes_of (all_left b g h d (exps_of (drop k (drop i es)))) ≡ []
items_end b g h d k i es e =
    ap (λ v. bytes_of (all_left b g h d (exps_of (drop k v)))) (drop_past i es e)
    ∙ ap (λ v. bytes_of (all_left b g h d (exps_of v))) (skip_none k)
    ∙ ap bytes_of (none_left b g h d)

pub and_text : (g : Gap) (d l : ℕ) (e a b : Exp) → e ≡ and_also l a b
    → bytes_of (lay g d e) ≡ bytes_of (grouped (is_operator a) (λ h. lay h d a) g) ++ bytes_of (lay_behind d mark.AndAlso b)
and_text g d l e a b h = ap (λ v. bytes_of (lay g d v)) h ∙ bytes_append (grouped (is_operator a) (λ h. lay h d a) g) (lay_behind d mark.AndAlso b)

pub or_text : (g : Gap) (d l : ℕ) (e a b : Exp) → e ≡ or_else l a b
    → bytes_of (lay g d e) ≡ bytes_of (grouped (is_operator a) (λ h. lay h d a) g) ++ bytes_of (lay_behind d mark.OrElse b)
or_text g d l e a b h = ap (λ v. bytes_of (lay g d v)) h ∙ bytes_append (grouped (is_operator a) (λ h. lay h d a) g) (lay_behind d mark.OrElse b)

-- the item at a place, and those after it
drop_at : (es : List Exp) (i : ℕ) (x : Exp) → i < length es → x ≡ get_or es i x → drop i es ≡ x ∷ drop (i + 1) es
drop_at [] i x h e = absurd (omega (arith, h))
drop_at (a ∷ es) zero x h e = ap (λ v. v ∷ es) (sym e)
drop_at (a ∷ es) (suc i) x h e =
    let same : suc (i + 1) ≡ suc i + 1 = omega arith in
    drop_at es i x (omega (arith, h)) e ∙ ap (λ n. x ∷ drop n (a ∷ es)) same

put_step : (out new old item rest whole : List ℕ) → new ≡ out ++ item → whole ≡ item ++ rest → out ++ whole ≡ old → new ++ rest ≡ old
put_step out new old item rest whole e f h = ap (λ v. v ++ rest) e ∙ append_assoc out item rest ∙ ap (λ v. out ++ v) (sym f) ∙ h

pub items_step : (b : Bool) (g h : Gap) (d k i : ℕ) (es : List Exp) (x : Exp) (out new old : List ℕ) → k ≤ 0 → i < length es → x ≡ get_or es i x
    → new ≡ out ++ bytes_of (lay_item b g h d x) → out ++ bytes_of (all_left b g h d (exps_of (drop k (drop i es)))) ≡ old
    → new ++ bytes_of (all_left false g h d (exps_of (drop k (drop (i + 1) es)))) ≡ old
items_step b g h d (suc k) i es x out new old few inside at e was = absurd (omega (arith, few))
items_step b g h d zero i es x out new old few inside at e was =
    put_step out new old (bytes_of (lay_item b g h d x)) (bytes_of (all_left false g h d (exps_of (drop (i + 1) es))))
    (bytes_of (all_left b g h d (exps_of (drop i es)))) e
    (ap (λ v. bytes_of (all_left b g h d (exps_of v))) (drop_at es i x inside at)
    ∙ ap bytes_of (item_left b g h d x (exps_of (drop (i + 1) es)))
    ∙ bytes_append (lay_item b g h d x) (all_left false g h d (exps_of (drop (i + 1) es)))) was

same_test : (a l : ℕ) → a + 1 ≡ l → eqb a 0 ≡ eqb l 1
same_test a l h = grind (arith, nat_tests)

pub tail_step : (b : Bool) (d left i : ℕ) (es : List Exp) (x : Exp) (out new old : List ℕ) → i < length es → x ≡ get_or es i x → left + i ≡ length es
    → new ≡ out ++ bytes_of (lay_tail_item b (eqb left 1) d x) → out ++ bytes_of (tail_left b d (exps_of (drop i es))) ≡ old
    → new ++ bytes_of (tail_left false d (exps_of (drop (i + 1) es))) ≡ old
tail_step b d left i es x out new old inside at sum e was =
    let long = length-drop (i + 1) es in
    let last = same_test (length (drop (i + 1) es)) left (omega (arith, long, sum, inside)) in
    put_step out new old (bytes_of (lay_tail_item b (eqb left 1) d x)) (bytes_of (tail_left false d (exps_of (drop (i + 1) es))))
    (bytes_of (tail_left b d (exps_of (drop i es)))) e
    (ap (λ v. bytes_of (tail_left b d (exps_of v))) (drop_at es i x inside at)
    ∙ ap bytes_of (tail_item_left b (eqb left 1) d x (drop (i + 1) es) last)
    ∙ bytes_append (lay_tail_item b (eqb left 1) d x) (tail_left false d (exps_of (drop (i + 1) es)))) was

-- the same if the last step may have failed
pub ends2 : {T E : Type 0} (r : Result T E) (o a b s t w : List ℕ) → a ≡ o ++ s → w ≡ s ++ t → OnOk r (b ≡ a ++ t) → OnOk r (b ≡ o ++ w)
ends2 r o a b s t w e g h = on_ok_weaker {P = b ≡ a ++ t} {Q = b ≡ o ++ w} r (λ f. chain2 o a b s t w e f g) h

pub ends2_each : {T E : Type 0} (r : Result T E) (o a b s t : List ℕ) (w : ℕ → List ℕ) → a ≡ o ++ s → ((l : ℕ) → w l ≡ s ++ t)
    → OnOk r (b ≡ a ++ t) → OnOk r ((l : ℕ) → b ≡ o ++ w l)
ends2_each r o a b s t w e g h = on_ok_weaker {P = b ≡ a ++ t} {Q = (l : ℕ) → b ≡ o ++ w l} r (λ f l. chain2 o a b s t (w l) e f (g l)) h

pub ends3_each : {T E : Type 0} (r : Result T E) (o a b c s t u : List ℕ) (w : ℕ → List ℕ) → a ≡ o ++ s → b ≡ a ++ t
    → ((l : ℕ) → w l ≡ s ++ (t ++ u)) → OnOk r (c ≡ b ++ u) → OnOk r ((l : ℕ) → c ≡ o ++ w l)
ends3_each r o a b c s t u w e f g h =
    on_ok_weaker {P = c ≡ b ++ u} {Q = (l : ℕ) → c ≡ o ++ w l} r (λ k l. chain3 o a b c s t u (w l) e f k (g l)) h

pub ends4_each : {T E : Type 0} (r : Result T E) (o a b c d s t u v : List ℕ) (w : ℕ → List ℕ) → a ≡ o ++ s → b ≡ a ++ t → c ≡ b ++ u
    → ((l : ℕ) → w l ≡ s ++ (t ++ (u ++ v))) → OnOk r (d ≡ c ++ v) → OnOk r ((l : ℕ) → d ≡ o ++ w l)
ends4_each r o a b c d s t u v w e f g h k =
    on_ok_weaker {P = d ≡ c ++ v} {Q = (l : ℕ) → d ≡ o ++ w l} r (λ m l. chain4 o a b c d s t u v (w l) e f g m (h l)) k
