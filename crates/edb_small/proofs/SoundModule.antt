-- The module that is read agrees with its spelling, and each form stands where it may.

use Rattle.std.proofs.Common.{◌≡◌, ◌≢◌, ◌⊎◌, inl, inr, ℕ, suc, true, List, [], ◌∷◌, ◌++◌, length, Option, None, Some, refl, sym, ap, ◌∙◌, subst, append_assoc}
use Rattle.std.specs.Prelude.{◌&&◌, ◌==◌, codes, nat_eq}
use Rattle.std.specs.List.{list_all}
use Rattle.std.specs.Option.{option_and_then}
use Rattle.std.proofs.lemmas.Option.{cond_some}
use Rattle.std.proofs.lemmas.List.{append-nil}
use Rattle.std.proofs.lemmas.Bool.{eq-eqb, eqb-true}
use Rattle.std.specs.Cmp.Derive.{both_true}
use Rattle.edb_lang.specs.Syntax.{Pat, Exp, Exps, exps_of, FunctionTree, ModuleTree}
use Rattle.edb_lang.specs.Syntax as syntax
use Rattle.edb_lang.specs.declared.syntax.FunctionName.{FunctionName}
use Rattle.edb_lang.specs.TermText.{same_name}
use Rattle.edb_scan.specs.declared.lexeme.Mark.TheVariants as mark
use Rattle.edb_scan.specs.declared.lexeme.Token.TheVariants as token
use Rattle.edb_scan.specs.declared.lexeme.Placed.{Placed}
use Rattle.edb_small.specs.Grammar.{Written, sign, word, dot, Agrees, written, rest_written, written_pattern, written_parameters, written_exports, written_function, written_functions, written_module}
use Rattle.edb_small.specs.Descent.{Found, behind, behind_dot, all_left, atom_at, arity_at, variable_at, behind_word, others, closed, some_closed, sum_at, most_levels, target_at, line_at, parameter_at, head_at, body_at, function_at, functions_at, export_at, attribute_at, attribute_end, module_name_at, exports_at, module_at}
use Rattle.edb_small.specs.Conditions.{is_capital, is_sum, is_line, are_lines, name_of}
use Rattle.edb_small.proofs.Spelled.{Each, run, comma, rest_run, parameters_run, written_export, exports_run, functions_run, both, then_some}
use Rattle.edb_small.proofs.Sound.{Took, took_then, took_as, behind_took, dot_took, took_lined, atom_took, variable_is, arity_took}
use Rattle.edb_small.proofs.SoundTrees.{Sound, ran, others_ran, IsList, some_closed_is, closed_is, sum_is}

-- Lines.

abbrev pub IsLine : Exp → Type 0
IsLine e = is_line e ≡ true

-- a sum is a line
sum_line : (e : Exp) → is_sum e ≡ true → is_line e ≡ true
sum_line (syntax.int l i) h = h
sum_line (syntax.atom l a) h = h
sum_line (syntax.variable l x) h = h
sum_line (syntax.match l p e) h = absurd (cc)
sum_line (syntax.binary l o a b) h = h
sum_line (syntax.call l f es) h = h
sum_line (syntax.remote l m f es) h = h

variable_took : (ts : List Placed) (q : Found × List Placed) → variable_at ts ≡ Some q → (is_capital q.0.1 ≡ true) × Took ts q.1 ((Some q.0.0, token.Var q.0.1) ∷ [])
variable_took ts q e = let h = variable_is ts q e in (h.1, took_lined ts q.1 (token.Var q.0.1) q.0.0 h.0)

target_took : (ts : List Placed) (q : Found × List Placed) → target_at ts ≡ Some q
    → (is_capital q.0.1 ≡ true) × Took ts q.1 ((Some q.0.0, token.Var q.0.1) ∷ (sign mark.Match ∷ []))
unfolding target_at
target_took ts q e =
    let x = then_some _ (variable_at ts) q e in
    let value = then_some _ (behind mark.Match x.0.1) q x.2 in
    let is : (x.0.0, value.0) ≡ q = cc in
    let one = variable_took ts x.0 x.1 in
    let took = took_then ts x.0.1 value.0 ((Some x.0.0.0, token.Var x.0.0.1) ∷ []) (sign mark.Match ∷ []) one.1 (behind_took mark.Match x.0.1 value.0 value.1) in
    subst (λ (z : Found × List Placed). (is_capital z.0.1 ≡ true) × Took ts z.1 ((Some z.0.0, token.Var z.0.1) ∷ (sign mark.Match ∷ []))) is (one.0, took)

line_or : (ts : List Placed) (q : Exp × List Placed) (o : Option (Found × List Placed)) → target_at ts ≡ o
    → (elim o [ None ↦ sum_at most_levels ts | Some x ↦ option_and_then (λ e. Some (syntax.match x.0.0 (Pat.variable x.0.0 x.0.1) e.0, e.1)) (sum_at most_levels x.1) ]) ≡ Some q
    → IsLine q.0 × Took ts q.1 (written q.0)
line_or ts q None n e = let h = sum_is most_levels ts q e in (sum_line q.0 h.0, h.1)
line_or ts q (Some x) n e =
    let y = then_some (λ (e : Exp × List Placed). Some (syntax.match x.0.0 (Pat.variable x.0.0 x.0.1) e.0, e.1)) (sum_at most_levels x.1) q e in
    let is : (syntax.match x.0.0 (Pat.variable x.0.0 x.0.1) y.0.0, y.0.1) ≡ q = cc in
    let one = target_took ts x n in
    let sum = sum_is most_levels x.1 y.0 y.1 in
    let took = took_then ts x.1 y.0.1 ((Some x.0.0, token.Var x.0.1) ∷ (sign mark.Match ∷ [])) (written y.0.0) one.1 sum.1 in
    let good : (x.0.0 == x.0.0 && (is_capital x.0.1 && is_sum y.0.0)) ≡ true = both_true (eq-eqb x.0.0 x.0.0 refl) (both_true one.0 sum.0) in
    subst (λ (z : Exp × List Placed). IsLine z.0 × Took ts z.1 (written z.0)) is (good, took)

pub line_is : Sound Exp line_at IsLine written
unfolding line_at
line_is ts q e = line_or ts q (target_at ts) refl e

lines_all : (es : List Exp) → Each Exp IsLine es → are_lines (exps_of es) ≡ true
lines_all [] g = refl
lines_all (e ∷ es) g = both_true g.0 (lines_all es g.1)

-- Functions.

abbrev pub IsCapital : Pat → Type 0
IsCapital p = is_capital (name_of p) ≡ true

parameter_is : Sound Pat parameter_at IsCapital written_pattern
unfolding parameter_at
parameter_is ts q e =
    let x = then_some _ (variable_at ts) q e in
    let is : (Pat.variable x.0.0.0 x.0.0.1, x.0.1) ≡ q = cc in
    subst (λ (z : Pat × List Placed). IsCapital z.0 × Took ts z.1 (written_pattern z.0)) is (variable_took ts x.0 x.1)

capital_all : (ps : List Pat) → Each Pat IsCapital ps → list_all (λ p. is_capital (name_of p)) ps ≡ true
capital_all [] g = refl
capital_all (p ∷ ps) g = both_true g.0 (capital_all ps g.1)

Parameters : List Placed → List Pat → List Placed → Type 0
Parameters ts ps rest = (list_all (λ p. is_capital (name_of p)) ps ≡ true) × Took ts rest (written_parameters ps ++ (sign mark.ParenClose ∷ []))

parameters_or : (ts : List Placed) (q : List Pat × List Placed)
    → ((q.0 ≡ []) × Took ts q.1 (sign mark.ParenClose ∷ [])) ⊎ IsList Pat parameter_at IsCapital written_pattern parameter_is mark.ParenClose ts q → Parameters ts q.0 q.1
unfolding Parameters
parameters_or ts q (inl h) = subst (λ ps. Parameters ts ps q.1) (sym h.0) (refl, h.1)
parameters_or ts q (inr h) =
    let took = subst (λ ws. Took ts q.1 (ws ++ (sign mark.ParenClose ∷ []))) (sym (parameters_run h.head h.rest)) h.took in
    subst (λ ps. Parameters ts ps q.1) (sym h.all_are) (both_true h.good (capital_all h.rest h.rest_good), took)

-- the head of a function, up to its arrow
head_took : (ts : List Placed) (q : (List ℕ × List Pat) × List Placed) → head_at ts ≡ Some q
    → (list_all (λ p. is_capital (name_of p)) q.0.1 ≡ true)
    × Took ts q.1 (word q.0.0 ∷ (sign mark.ParenOpen ∷ ((written_parameters q.0.1 ++ (sign mark.ParenClose ∷ [])) ++ (sign mark.Arrow ∷ []))))
unfolding head_at Parameters
head_took ts q e =
    let f = then_some _ (atom_at ts) q e in
    let inner = then_some _ (behind mark.ParenOpen f.0.1) q f.2 in
    let ps = then_some _ (closed parameter_at mark.ParenClose inner.0) q inner.2 in
    let end = then_some _ (behind mark.Arrow ps.0.1) q ps.2 in
    let is : ((f.0.0.1, ps.0.0), end.0) ≡ q = cc in
    let are = parameters_or inner.0 ps.0 (closed_is Pat parameter_at IsCapital written_pattern parameter_is mark.ParenClose inner.0 ps.0 ps.1) in
    let listed = written_parameters ps.0.0 ++ (sign mark.ParenClose ∷ []) in
    let two = took_then inner.0 ps.0.1 end.0 listed (sign mark.Arrow ∷ []) are.1 (behind_took mark.Arrow ps.0.1 end.0 end.1) in
    let three = took_then f.0.1 inner.0 end.0 (sign mark.ParenOpen ∷ []) (listed ++ (sign mark.Arrow ∷ [])) (behind_took mark.ParenOpen f.0.1 inner.0 inner.1) two in
    let whole = took_then ts f.0.1 end.0 (word f.0.0.1 ∷ []) (sign mark.ParenOpen ∷ (listed ++ (sign mark.Arrow ∷ []))) (atom_took ts f.0 f.1) three in
    subst (λ (z : (List ℕ × List Pat) × List Placed). (list_all (λ p. is_capital (name_of p)) z.0.1 ≡ true)
    × Took ts z.1 (word z.0.0 ∷ (sign mark.ParenOpen ∷ ((written_parameters z.0.1 ++ (sign mark.ParenClose ∷ [])) ++ (sign mark.Arrow ∷ []))))) is (are.0, whole)

-- the lines of a function, up to its dot
body_took : (ts : List Placed) (q : (Exp × List Exp) × List Placed) → body_at ts ≡ Some q
    → (are_lines (syntax.more q.0.0 (exps_of q.0.1)) ≡ true) × Took ts q.1 (written q.0.0 ++ (rest_written (exps_of q.0.1) ++ (dot ∷ [])))
unfolding body_at
body_took ts q e =
    let x = then_some _ (line_at ts) q e in
    let xs = then_some _ (others line_at [] x.0.1) q x.2 in
    let end = then_some _ (behind_dot xs.0.1) q xs.2 in
    let is : ((x.0.0, xs.0.0), end.0) ≡ q = cc in
    let one = line_is ts x.0 x.1 in
    let ran = others_ran Exp line_at IsLine written line_is [] x.0.1 xs.0 xs.1 in
    let found_are : xs.0.0 ≡ ran.found = ran.all_are in
    let spelled : run Exp comma written ran.found ≡ rest_written (exps_of xs.0.0) = sym (rest_run ran.found) ∙ ap (λ es. rest_written (exps_of es)) (sym found_are) in
    let good = subst (λ es. are_lines (exps_of es) ≡ true) (sym found_are) (lines_all ran.found ran.good) in
    let two = took_then x.0.1 xs.0.1 end.0 (rest_written (exps_of xs.0.0)) (dot ∷ []) (took_as x.0.1 xs.0.1 (run Exp comma written ran.found) (rest_written (exps_of xs.0.0)) spelled ran.took) (dot_took xs.0.1 end.0 end.1) in
    let whole = took_then ts x.0.1 end.0 (written x.0.0) (rest_written (exps_of xs.0.0) ++ (dot ∷ [])) one.1 two in
    subst (λ (z : (Exp × List Exp) × List Placed). (are_lines (syntax.more z.0.0 (exps_of z.0.1)) ≡ true) × Took ts z.1 (written z.0.0 ++ (rest_written (exps_of z.0.1) ++ (dot ∷ [])))) is
    (both_true one.0 good, whole)

-- the forms of a function stand where they may
pub record IsFormed (f : FunctionTree) : Type 0 where
  pub parameters : list_all (λ p. is_capital (name_of p)) f.parameters ≡ true
  pub lines : are_lines (syntax.more f.first f.rest) ≡ true

regroup : (n p c a : Written) (ps ls : List Written) → (n ∷ (p ∷ ((ps ++ (c ∷ [])) ++ (a ∷ [])))) ++ ls ≡ n ∷ (p ∷ (ps ++ (c ∷ (a ∷ ls))))
regroup n p c a ps ls = ap (λ ws. n ∷ (p ∷ ws)) (simp append_assoc)

pub function_is : Sound FunctionTree function_at IsFormed written_function
unfolding function_at
function_is ts q e =
    let h = then_some _ (head_at ts) q e in
    let b = then_some _ (body_at h.0.1) q h.2 in
    let tree : FunctionTree = record { name = h.0.0.0; parameters = h.0.0.1; first = b.0.0.0; rest = exps_of b.0.0.1 } in
    let is : (tree, b.0.1) ≡ q = cc in
    let one = head_took ts h.0 h.1 in
    let two = body_took h.0.1 b.0 b.1 in
    let front = word h.0.0.0 ∷ (sign mark.ParenOpen ∷ ((written_parameters h.0.0.1 ++ (sign mark.ParenClose ∷ [])) ++ (sign mark.Arrow ∷ []))) in
    let lines = written b.0.0.0 ++ (rest_written (exps_of b.0.0.1) ++ (dot ∷ [])) in
    let took = took_then ts h.0.1 b.0.1 front lines one.1 two.1 in
    let whole = took_as ts b.0.1 (front ++ lines) (written_function tree) (regroup (word h.0.0.0) (sign mark.ParenOpen) (sign mark.ParenClose) (sign mark.Arrow) (written_parameters h.0.0.1) lines) took in
    subst (λ (z : FunctionTree × List Placed). IsFormed z.0 × Took ts z.1 (written_function z.0)) is (record { parameters = one.0; lines = two.0 }, whole)

all_left_took : (ts us : List Placed) → all_left ts ≡ Some us → Took ts us []
unfolding all_left
all_left_took [] us e = absurd (cc)
all_left_took (t ∷ ts) us e = let is : t ∷ ts ≡ us = cc in record { agrees = λ tail h. subst (λ xs. Agrees xs tail) (sym is) h }

all_left_none : (ts : List Placed) → all_left ts ≡ None → ts ≡ []
unfolding all_left
all_left_none [] e = refl
all_left_none (t ∷ ts) e = absurd (cc)

functions_are : (ts : List Placed) (q : List FunctionTree × List Placed) → functions_at ts ≡ Some q → Each FunctionTree IsFormed q.0 × Agrees ts (written_functions q.0)
unfolding functions_at
functions_are ts q e =
    let r = ran FunctionTree function_at IsFormed written_function function_is all_left [] all_left_took (suc (length ts)) [] ts q e in
    let none = all_left_none q.1 r.ended in
    let found_are : q.0 ≡ r.found = r.all_are in
    let ends : Agrees q.1 [] = subst (λ xs. Agrees xs []) (sym none) tt in
    let spelled : run FunctionTree [] written_function r.found ++ [] ≡ written_functions q.0
    = append-nil (run FunctionTree [] written_function r.found) ∙ sym (functions_run r.found) ∙ ap written_functions (sym found_are) in
    (subst (λ fs. Each FunctionTree IsFormed fs) (sym found_are) r.good, subst (λ ws. Agrees ts ws) spelled (r.took.agrees [] ends))

-- The module.

export_is : Sound FunctionName export_at (λ e. Unit {0}) written_export
unfolding export_at
export_is ts q e =
    let f = then_some _ (atom_at ts) q e in
    let slash = then_some _ (behind mark.Slash f.0.1) q f.2 in
    let n = then_some _ (arity_at slash.0) q slash.2 in
    let tree : FunctionName = record { name = f.0.0.1; arity = n.0.0 } in
    let is : (tree, n.0.1) ≡ q = cc in
    let two = took_then f.0.1 slash.0 n.0.1 (sign mark.Slash ∷ []) ((None, token.Int n.0.0) ∷ []) (behind_took mark.Slash f.0.1 slash.0 slash.1) (arity_took slash.0 n.0 n.1) in
    let whole = took_then ts f.0.1 n.0.1 (word f.0.0.1 ∷ []) (sign mark.Slash ∷ ((None, token.Int n.0.0) ∷ [])) (atom_took ts f.0 f.1) two in
    subst (λ (z : FunctionName × List Placed). Unit {0} × Took ts z.1 (written_export z.0)) is (tt, whole)

same_name_is : (a b : List ℕ) → same_name a b ≡ true → a ≡ b
same_name_is [] [] e = refl
same_name_is [] (y ∷ b) e = absurd (cc)
same_name_is (x ∷ a) [] e = absurd (cc)
same_name_is (x ∷ a) (y ∷ b) e = let h = both (nat_eq x y) (same_name a b) e in λ i. eqb-true x y h.0 i ∷ same_name_is a b h.1 i

word_took : (w : List ℕ) (ts rest : List Placed) → behind_word w ts ≡ Some rest → Took ts rest (word w ∷ [])
unfolding behind_word
word_took w ts rest e =
    let a = then_some _ (atom_at ts) rest e in
    let h = cond_some (same_name a.0.0.1 w) a.0.1 rest a.2 in
    let took = subst (λ n. Took ts a.0.1 (word n ∷ [])) (same_name_is a.0.0.1 w h.0) (atom_took ts a.0 a.1) in
    subst (λ us. Took ts us (word w ∷ [])) h.1 took

attribute_took : (w : List ℕ) (ts rest : List Placed) → attribute_at w ts ≡ Some rest → Took ts rest (sign mark.Minus ∷ (word w ∷ (sign mark.ParenOpen ∷ [])))
unfolding attribute_at
attribute_took w ts rest e =
    let name = then_some _ (behind mark.Minus ts) rest e in
    let paren = then_some _ (behind_word w name.0) rest name.2 in
    let two = took_then name.0 paren.0 rest (word w ∷ []) (sign mark.ParenOpen ∷ []) (word_took w name.0 paren.0 paren.1) (behind_took mark.ParenOpen paren.0 rest paren.2) in
    took_then ts name.0 rest (sign mark.Minus ∷ []) (word w ∷ (sign mark.ParenOpen ∷ [])) (behind_took mark.Minus ts name.0 name.1) two

attribute_ended : (ts rest : List Placed) → attribute_end ts ≡ Some rest → Took ts rest (sign mark.ParenClose ∷ (dot ∷ []))
unfolding attribute_end
attribute_ended ts rest e =
    let end = then_some _ (behind mark.ParenClose ts) rest e in
    took_then ts end.0 rest (sign mark.ParenClose ∷ []) (dot ∷ []) (behind_took mark.ParenClose ts end.0 end.1) (dot_took end.0 rest end.2)

abbrev module_front : List ℕ → List Written
module_front n = sign mark.Minus ∷ (word (codes "module") ∷ (sign mark.ParenOpen ∷ (word n ∷ (sign mark.ParenClose ∷ (dot ∷ [])))))

module_name_took : (ts : List Placed) (q : List ℕ × List Placed) → module_name_at ts ≡ Some q → Took ts q.1 (module_front q.0)
unfolding module_name_at
module_name_took ts q e =
    let inner = then_some _ (attribute_at (codes "module") ts) q e in
    let a = then_some _ (atom_at inner.0) q inner.2 in
    let end = then_some _ (attribute_end a.0.1) q a.2 in
    let is : (a.0.0.1, end.0) ≡ q = cc in
    let two = took_then inner.0 a.0.1 end.0 (word a.0.0.1 ∷ []) (sign mark.ParenClose ∷ (dot ∷ [])) (atom_took inner.0 a.0 a.1) (attribute_ended a.0.1 end.0 end.1) in
    let whole = took_then ts inner.0 end.0 (sign mark.Minus ∷ (word (codes "module") ∷ (sign mark.ParenOpen ∷ []))) (word a.0.0.1 ∷ (sign mark.ParenClose ∷ (dot ∷ []))) (attribute_took (codes "module") ts inner.0 inner.1) two in
    subst (λ (z : List ℕ × List Placed). Took ts z.1 (module_front z.0)) is whole

abbrev exports_front : List FunctionName → List Written
exports_front es = sign mark.Minus ∷ (word (codes "export") ∷ (sign mark.ParenOpen ∷ (sign mark.BracketOpen ∷ ((written_exports es ++ (sign mark.BracketClose ∷ [])) ++ (sign mark.ParenClose ∷ (dot ∷ []))))))

exports_took : (ts : List Placed) (q : List FunctionName × List Placed) → exports_at ts ≡ Some q → (q.0 ≢ []) × Took ts q.1 (exports_front q.0)
unfolding exports_at
exports_took ts q e =
    let inner = then_some _ (attribute_at (codes "export") ts) q e in
    let names = then_some _ (behind mark.BracketOpen inner.0) q inner.2 in
    let es = then_some _ (some_closed export_at mark.BracketClose names.0) q names.2 in
    let end = then_some _ (attribute_end es.0.1) q es.2 in
    let is : (es.0.0, end.0) ≡ q = cc in
    let are = some_closed_is FunctionName export_at (λ e. Unit {0}) written_export export_is mark.BracketClose names.0 es.0 es.1 in
    let spelled : written_export are.head ++ run FunctionName comma written_export are.rest ≡ written_exports es.0.0 = sym (exports_run are.head are.rest) ∙ ap written_exports (sym are.all_are) in
    let took = subst (λ ws. Took names.0 es.0.1 (ws ++ (sign mark.BracketClose ∷ []))) spelled are.took in
    let listed = written_exports es.0.0 ++ (sign mark.BracketClose ∷ []) in
    let two = took_then names.0 es.0.1 end.0 listed (sign mark.ParenClose ∷ (dot ∷ [])) took (attribute_ended es.0.1 end.0 end.1) in
    let three = took_then inner.0 names.0 end.0 (sign mark.BracketOpen ∷ []) (listed ++ (sign mark.ParenClose ∷ (dot ∷ []))) (behind_took mark.BracketOpen inner.0 names.0 names.1) two in
    let whole = took_then ts inner.0 end.0 (sign mark.Minus ∷ (word (codes "export") ∷ (sign mark.ParenOpen ∷ []))) (sign mark.BracketOpen ∷ (listed ++ (sign mark.ParenClose ∷ (dot ∷ [])))) (attribute_took (codes "export") ts inner.0 inner.1) three in
    let some : es.0.0 ≢ [] = λ none. (let clash : are.head ∷ are.rest ≡ [] = sym are.all_are ∙ none in absurd (cc)) in
    subst (λ (z : List FunctionName × List Placed). (z.0 ≢ []) × Took ts z.1 (exports_front z.0)) is (some, whole)

-- what is read is spelled so, and its forms stand where they may
pub record IsSpelled (ts : List Placed) (m : ModuleTree) : Type 0 where
  pub agrees : Agrees ts (written_module m)
  pub exports : m.exports ≢ []
  pub formed : Each FunctionTree IsFormed m.functions

close_regroup : (es fs : List Written) (c p d : Written) → ((es ++ (c ∷ [])) ++ (p ∷ (d ∷ []))) ++ fs ≡ es ++ (c ∷ (p ∷ (d ∷ fs)))
close_regroup es fs c p d = simp append_assoc

pub module_is : (ts : List Placed) (m : ModuleTree) → module_at ts ≡ Some m → IsSpelled ts m
unfolding module_at
module_is ts m e =
    let name = then_some _ (module_name_at ts) m e in
    let es = then_some _ (exports_at name.0.1) m name.2 in
    let fs = then_some _ (functions_at es.0.1) m es.2 in
    let tree : ModuleTree = record { name = name.0.0; exports = es.0.0; functions = fs.0.0 } in
    let is : tree ≡ m = cc in
    let one = module_name_took ts name.0 name.1 in
    let two = exports_took name.0.1 es.0 es.1 in
    let three = functions_are es.0.1 fs.0 fs.1 in
    let closes = close_regroup (written_exports es.0.0) (written_functions fs.0.0) (sign mark.BracketClose) (sign mark.ParenClose) dot in
    let behind_name = subst (λ ws. Agrees name.0.1 (sign mark.Minus ∷ (word (codes "export") ∷ (sign mark.ParenOpen ∷ (sign mark.BracketOpen ∷ ws))))) closes (two.1.agrees (written_functions fs.0.0) three.1) in
    subst (λ z. IsSpelled ts z) is (record { agrees = one.agrees _ behind_name; exports = two.0; formed = three.0 })
