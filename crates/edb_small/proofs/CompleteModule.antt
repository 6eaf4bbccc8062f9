-- What is written is read again: lines, functions, the whole module.

use Rattle.std.proofs.Common.{◌≡◌, ◌≢◌, ℕ, suc, ◌≤◌, true, false, List, [], ◌∷◌, ◌++◌, length, Option, None, Some, refl, sym, ap, ◌∙◌, append_assoc, arith}
use Rattle.std.specs.Prelude.{◌&&◌, ◌==◌, codes, nat_lt}
use Rattle.std.specs.List.{list_all}
use Rattle.std.proofs.lemmas.List.{append-nil}
use Rattle.std.proofs.lemmas.Bool.{eqb-true}
use Rattle.edb_lang.specs.Syntax.{Pat, Exp, Exps, exps_of, FunctionTree, ModuleTree}
use Rattle.edb_lang.specs.Syntax as syntax
use Rattle.edb_lang.specs.declared.syntax.FunctionName.{FunctionName}
use Rattle.edb_scan.specs.declared.lexeme.Mark.TheVariants as mark
use Rattle.edb_scan.specs.declared.lexeme.Token.TheVariants as token
use Rattle.edb_scan.specs.declared.lexeme.Placed.{Placed}
use Rattle.edb_small.specs.Grammar.{Written, sign, word, dot, written, rest_written, written_pattern, written_parameters, written_exports, written_function, written_functions, written_module}
use Rattle.edb_small.specs.Conditions.{is_capital, is_sum, is_line, are_lines, name_of, depth, all_depth}
use Rattle.edb_small.specs.Descent.{Read, same_mark, is_mark, behind, behind_dot, all_left, atom_at, arity_at, variable_at, behind_word, others, closed, some_closed, sum_at, most_levels, target_at, line_at, parameter_at, head_at, body_at, function_at, functions_at, export_at, attribute_at, attribute_end, module_name_at, exports_at, module_at}
use Rattle.edb_small.proofs.Spelled.{Each, run, comma, parameters_run, written_export, exports_run, functions_run, both}
use Rattle.edb_small.proofs.Complete.{Meets, meets_as, Goes, Reads, behind_goes, behind_none, dot_goes, word_reads, behind_word_goes, variable_reads, arity_reads, IsRead, Parts, reads_all, closed_empty, some_closed_found, closed_some}
use Rattle.edb_small.proofs.CompleteTrees.{comma_close, Ends, at_comma, at_dot, sum_no_target, again, list_of, list_back, rest_of_list, parts_to}

-- A comma is no closing bracket.

comma_bracket : is_mark mark.Comma (token.Mark mark.BracketClose) ≡ false
unfolding same_mark
comma_bracket = refl

-- Lines.

line_sum : (ts : List Placed) → target_at ts ≡ None → line_at ts ≡ sum_at most_levels ts
unfolding line_at
line_sum ts n = rw (n, line_at) refl

line_match : (l : ℕ) (x : List ℕ) (ts us rest : List Placed) (e : Exp) → target_at ts ≡ Some ((l, x), us) → sum_at most_levels us ≡ Some (e, rest)
    → line_at ts ≡ Some (syntax.match l (Pat.variable l x) e, rest)
unfolding line_at
line_match l x ts us rest e n k = rw (n, line_at) (rw k refl)

target_found : (l : ℕ) (x : List ℕ) (ts us rest : List Placed) → variable_at ts ≡ Some ((l, x), us) → behind mark.Match us ≡ Some rest → target_at ts ≡ Some ((l, x), rest)
unfolding target_at
target_found l x ts us rest n k = rw (n, k) refl

abbrev ReadsLine : Exp → Type 0
ReadsLine e = depth e ≤ 200 → (ts : List Placed) (tail : List Written) → Ends tail → Meets ts (written e ++ tail) → Reads (line_at ts) e tail

sum_line : (e : Exp) → is_sum e ≡ true → ReadsLine e
sum_line e s d ts tail ends h =
    let r = (again e).sum s most_levels d ts tail ends h in
    record { rest = r.rest; found = line_sum ts (sum_no_target e ts tail s ends h) ∙ r.found; meets = r.meets }

line_reads : (e : Exp) → is_line e ≡ true → ReadsLine e
line_reads (syntax.match l (Pat.variable k x) e) s d ts tail ends h =
    let good = both (l == k) (is_capital x && is_sum e) s in
    let inner = both (is_capital x) (is_sum e) good.1 in
    let name = variable_reads k x ts (sign mark.Match ∷ (written e ++ tail)) inner.0 h in
    let value = behind_goes mark.Match name.rest (written e ++ tail) name.meets in
    let value_depth : depth e ≤ 200 = omega arith in
    let r = (again e).sum inner.1 most_levels value_depth value.rest tail ends value.meets in
    let found = line_match k x ts value.rest r.rest e (target_found k x ts name.rest value.rest name.found value.found) r.found in
    record { rest = r.rest; found = found ∙ ap (λ j. Some (syntax.match j (Pat.variable k x) e, r.rest)) (sym (eqb-true l k good.0)); meets = r.meets }
line_reads (syntax.int l i) s d ts tail ends h = sum_line (syntax.int l i) s d ts tail ends h
line_reads (syntax.atom l a) s d ts tail ends h = sum_line (syntax.atom l a) s d ts tail ends h
line_reads (syntax.variable l x) s d ts tail ends h = sum_line (syntax.variable l x) s d ts tail ends h
line_reads (syntax.binary l o a b) s d ts tail ends h = sum_line (syntax.binary l o a b) s d ts tail ends h
line_reads (syntax.call l f es) s d ts tail ends h = sum_line (syntax.call l f es) s d ts tail ends h
line_reads (syntax.remote l m f es) s d ts tail ends h = sum_line (syntax.remote l m f es) s d ts tail ends h

each_line : (es : Exps) → are_lines es ≡ true → all_depth es ≤ 200 → Each Exp (IsRead Exp line_at written (behind mark.Comma) comma Ends) (list_of es)
each_line syntax.none s d = tt
each_line (syntax.more e es) s d =
    let good = both (is_line e) (are_lines es) s in
    let first_depth : depth e ≤ 200 = omega arith in
    (record { reads = λ ts tail ends h. line_reads e good.0 first_depth ts tail ends h }, each_line es good.1 (omega arith))

after_line : (es : Exps) (tail : List Written) → Ends (rest_written es ++ (dot ∷ tail))
after_line syntax.none tail = at_dot tail
after_line (syntax.more e es) tail = at_comma ((written e ++ rest_written es) ++ (dot ∷ tail))

body_found : (ts us vs rest : List Placed) (e : Exp) (es : List Exp) → line_at ts ≡ Some (e, us) → others line_at [] us ≡ Some (es, vs) → behind_dot vs ≡ Some rest → body_at ts ≡ Some ((e, es), rest)
unfolding body_at
body_found ts us vs rest e es one all end = rw (one, all, end) refl

body_reads : (e : Exp) (es : Exps) → are_lines (syntax.more e es) ≡ true → all_depth (syntax.more e es) ≤ 200 → (ts : List Placed) (tail : List Written)
    → Meets ts (written e ++ (rest_written es ++ (dot ∷ tail))) → Reads (body_at ts) (e, list_of es) tail
unfolding others
body_reads e es s d ts tail h =
    let good = both (is_line e) (are_lines es) s in
    let first_depth : depth e ≤ 200 = omega arith in
    let rest_depth : all_depth es ≤ 200 = omega arith in
    let one = line_reads e good.0 first_depth ts (rest_written es ++ (dot ∷ tail)) (after_line es tail) h in
    let rest_meets = meets_as one.rest (rest_written es ++ (dot ∷ tail)) (run Exp comma written (list_of es) ++ (dot ∷ tail)) (ap (λ ws. ws ++ (dot ∷ tail)) (rest_of_list es)) one.meets in
    let parts = parts_to line_at (dot ∷ tail) (at_dot tail) (λ us k. behind_none mark.Comma dot us tail refl k) in
    let all = reads_all Exp line_at written (behind mark.Comma) comma Ends (dot ∷ tail) parts (list_of es) (each_line es good.1 rest_depth)
    (suc (length one.rest)) [] one.rest (omega arith) rest_meets in
    let end = dot_goes all.rest tail all.meets in
    record { rest = end.rest; found = body_found ts one.rest all.rest end.rest e (list_of es) one.found all.found end.found; meets = end.meets }

-- Functions.

abbrev Anything : List Written → Type 0
Anything ws = Unit {0}

parameter_found : (l : ℕ) (x : List ℕ) (ts rest : List Placed) → variable_at ts ≡ Some ((l, x), rest) → parameter_at ts ≡ Some (Pat.variable l x, rest)
unfolding parameter_at
parameter_found l x ts rest n = rw n refl

parameter_reads : (p : Pat) → is_capital (name_of p) ≡ true → (ts : List Placed) (tail : List Written) → Meets ts (written_pattern p ++ tail) → Reads (parameter_at ts) p tail
parameter_reads (Pat.variable l x) c ts tail h =
    let r = variable_reads l x ts tail c h in
    record { rest = r.rest; found = parameter_found l x ts r.rest r.found; meets = r.meets }

each_parameter : (ps : List Pat) → list_all (λ p. is_capital (name_of p)) ps ≡ true → Each Pat (IsRead Pat parameter_at written_pattern (behind mark.Comma) comma Anything) ps
each_parameter [] c = tt
each_parameter (p ∷ ps) c =
    let good = both (is_capital (name_of p)) (list_all (λ p. is_capital (name_of p)) ps) c in
    (record { reads = λ ts tail any h. parameter_reads p good.0 ts tail h }, each_parameter ps good.1)

comma_parts : (A : Type 0) (f : Read A) (w : A → List Written) (tail : List Written) → ((ts : List Placed) → Meets ts tail → behind mark.Comma ts ≡ None) → Parts A f w (behind mark.Comma) comma Anything tail
comma_parts A f w tail none = record {
  goes = λ x ts ws h. behind_goes mark.Comma ts (w x ++ ws) h;
  grows = λ x. omega arith;
  follows = λ x ws. tt;
  follows_end = tt;
  ends = none;
}

pattern_no_close : (p : Pat) (ts : List Placed) (tail : List Written) → Meets ts (written_pattern p ++ tail) → behind mark.ParenClose ts ≡ None
pattern_no_close (Pat.variable l x) ts tail h = behind_none mark.ParenClose (Some l, token.Var x) ts tail refl h

parameters_read : (ps : List Pat) → list_all (λ p. is_capital (name_of p)) ps ≡ true → (ts : List Placed) (tail : List Written)
    → Meets ts (written_parameters ps ++ (sign mark.ParenClose ∷ tail)) → Reads (closed parameter_at mark.ParenClose ts) ps tail
unfolding others
parameters_read [] c ts tail h =
    let end = behind_goes mark.ParenClose ts tail h in
    record { rest = end.rest; found = closed_empty Pat parameter_at mark.ParenClose ts end.rest end.found; meets = end.meets }
parameters_read (p ∷ ps) c ts tail h =
    let good = both (is_capital (name_of p)) (list_all (λ p. is_capital (name_of p)) ps) c in
    let behind_all = sign mark.ParenClose ∷ tail in
    let grouped = ap (λ ws. ws ++ behind_all) (parameters_run p ps) ∙ append_assoc (written_pattern p) (run Pat comma written_pattern ps) behind_all in
    let here = meets_as ts (written_parameters (p ∷ ps) ++ behind_all) (written_pattern p ++ (run Pat comma written_pattern ps ++ behind_all)) grouped h in
    let none = pattern_no_close p ts (run Pat comma written_pattern ps ++ behind_all) here in
    let one = parameter_reads p good.0 ts (run Pat comma written_pattern ps ++ behind_all) here in
    let parts = comma_parts Pat parameter_at written_pattern behind_all (λ us k. behind_none mark.Comma (sign mark.ParenClose) us tail comma_close k) in
    let all = reads_all Pat parameter_at written_pattern (behind mark.Comma) comma Anything behind_all parts ps (each_parameter ps good.1)
    (suc (length one.rest)) (p ∷ []) one.rest (omega arith) one.meets in
    let end = behind_goes mark.ParenClose all.rest tail all.meets in
    record { rest = end.rest; found = closed_some Pat parameter_at mark.ParenClose ts one.rest all.rest end.rest p (p ∷ ps) none one.found all.found end.found; meets = end.meets }

head_found : (l : ℕ) (f : List ℕ) (ps : List Pat) (ts us vs xs rest : List Placed) → atom_at ts ≡ Some ((l, f), us) → behind mark.ParenOpen us ≡ Some vs
    → closed parameter_at mark.ParenClose vs ≡ Some (ps, xs) → behind mark.Arrow xs ≡ Some rest → head_at ts ≡ Some ((f, ps), rest)
unfolding head_at
head_found l f ps ts us vs xs rest name paren all arrow = rw (name, paren, all, arrow) refl

head_reads : (f : List ℕ) (ps : List Pat) → list_all (λ p. is_capital (name_of p)) ps ≡ true → (ts : List Placed) (tail : List Written)
    → Meets ts (word f ∷ (sign mark.ParenOpen ∷ (written_parameters ps ++ (sign mark.ParenClose ∷ (sign mark.Arrow ∷ tail))))) → Reads (head_at ts) (f, ps) tail
head_reads f ps c ts tail h =
    let listed = written_parameters ps ++ (sign mark.ParenClose ∷ (sign mark.Arrow ∷ tail)) in
    let name = word_reads f ts (sign mark.ParenOpen ∷ listed) h in
    let paren = behind_goes mark.ParenOpen name.rest listed name.meets in
    let all = parameters_read ps c paren.rest (sign mark.Arrow ∷ tail) paren.meets in
    let arrow = behind_goes mark.Arrow all.rest tail all.meets in
    record { rest = arrow.rest; found = head_found name.line f ps ts name.rest paren.rest all.rest arrow.rest name.found paren.found all.found arrow.found; meets = arrow.meets }

-- a function that is read again
pub record IsReadable (f : FunctionTree) : Type 0 where
  pub parameters : list_all (λ p. is_capital (name_of p)) f.parameters ≡ true
  pub lines : are_lines (syntax.more f.first f.rest) ≡ true
  pub within : all_depth (syntax.more f.first f.rest) ≤ 200

function_found : (n : List ℕ) (ps : List Pat) (e : Exp) (es : List Exp) (ts us rest : List Placed) → head_at ts ≡ Some ((n, ps), us) → body_at us ≡ Some ((e, es), rest)
    → function_at ts ≡ Some (record { name = n; parameters = ps; first = e; rest = exps_of es }, rest)
unfolding function_at
function_found n ps e es ts us rest head body = rw (head, body) refl

function_reads : (f : FunctionTree) → IsReadable f → (ts : List Placed) (tail : List Written) → Meets ts (written_function f ++ tail) → Reads (function_at ts) f tail
function_reads f r ts tail h =
    let lines = written f.first ++ (rest_written f.rest ++ (dot ∷ tail)) in
    let grouped : written_function f ++ tail ≡ word f.name ∷ (sign mark.ParenOpen ∷ (written_parameters f.parameters ++ (sign mark.ParenClose ∷ (sign mark.Arrow ∷ lines)))) = simp append_assoc in
    let here = meets_as ts (written_function f ++ tail) (word f.name ∷ (sign mark.ParenOpen ∷ (written_parameters f.parameters ++ (sign mark.ParenClose ∷ (sign mark.Arrow ∷ lines))))) grouped h in
    let head = head_reads f.name f.parameters r.parameters ts lines here in
    let body = body_reads f.first f.rest r.lines r.within head.rest tail head.meets in
    let tree : FunctionTree → Option (FunctionTree × List Placed) = λ g. Some (g, body.rest) in
    let rest_is : Exps → FunctionTree = λ es. record { name = f.name; parameters = f.parameters; first = f.first; rest = es } in
    record {
      rest = body.rest;
      found = function_found f.name f.parameters f.first (list_of f.rest) ts head.rest body.rest head.found body.found ∙ ap (λ es. tree (rest_is es)) (list_back f.rest);
      meets = body.meets;
    }

each_function : (fs : List FunctionTree) → Each FunctionTree IsReadable fs → Each FunctionTree (IsRead FunctionTree function_at written_function all_left [] Anything) fs
each_function [] r = tt
each_function (f ∷ fs) r = (record { reads = λ ts tail any h. function_reads f r.0 ts tail h }, each_function fs r.1)

all_left_goes : (w : Written) (ts : List Placed) (ws : List Written) → Meets ts (w ∷ ws) → Goes (all_left ts) (w ∷ ws)
unfolding all_left
all_left_goes w [] ws h = absurd h
all_left_goes w (t ∷ ts) ws h = record { rest = t ∷ ts; found = refl; meets = h }

all_left_ends : (ts : List Placed) → Meets ts [] → all_left ts ≡ None
unfolding all_left
all_left_ends [] h = refl
all_left_ends (t ∷ ts) h = absurd h

function_parts : Parts FunctionTree function_at written_function all_left [] Anything []
function_parts = record {
  goes = λ f ts ws h. all_left_goes (word f.name) ts ((sign mark.ParenOpen ∷ (written_parameters f.parameters ++ (sign mark.ParenClose ∷ (sign mark.Arrow ∷ (written f.first ++ (rest_written f.rest ++ (dot ∷ []))))))) ++ ws) h;
  grows = λ f. omega arith;
  follows = λ f ws. tt;
  follows_end = tt;
  ends = all_left_ends;
}

functions_read : (fs : List FunctionTree) → Each FunctionTree IsReadable fs → (ts : List Placed) → Meets ts (written_functions fs) → Reads (functions_at ts) fs []
unfolding functions_at
functions_read fs r ts h =
    let spelled = functions_run fs ∙ sym (append-nil (run FunctionTree [] written_function fs)) in
    let here = meets_as ts (written_functions fs) (run FunctionTree [] written_function fs ++ []) spelled h in
    let all = reads_all FunctionTree function_at written_function all_left [] Anything [] function_parts fs (each_function fs r) (suc (length ts)) [] ts (omega arith) here in
    record { rest = all.rest; found = all.found; meets = all.meets }

-- The module.

export_found : (l : ℕ) (f : List ℕ) (n : ℕ) (ts us vs rest : List Placed) → atom_at ts ≡ Some ((l, f), us) → behind mark.Slash us ≡ Some vs → arity_at vs ≡ Some (n, rest)
    → export_at ts ≡ Some (record { name = f; arity = n }, rest)
unfolding export_at
export_found l f n ts us vs rest name slash arity = rw (name, slash, arity) refl

-- an arity that a text can have
abbrev pub IsSmall : FunctionName → Type 0
IsSmall e = nat_lt e.arity 4294967296 ≡ true

export_reads : (e : FunctionName) → IsSmall e → (ts : List Placed) (tail : List Written) → Meets ts (written_export e ++ tail) → Reads (export_at ts) e tail
export_reads e small ts tail h =
    let name = word_reads e.name ts (sign mark.Slash ∷ ((None, token.Int e.arity) ∷ tail)) h in
    let slash = behind_goes mark.Slash name.rest ((None, token.Int e.arity) ∷ tail) name.meets in
    let arity = arity_reads e.arity slash.rest tail small slash.meets in
    record { rest = arity.rest; found = export_found name.line e.name e.arity ts name.rest slash.rest arity.rest name.found slash.found arity.found; meets = arity.meets }

each_export : (es : List FunctionName) → Each FunctionName IsSmall es → Each FunctionName (IsRead FunctionName export_at written_export (behind mark.Comma) comma Anything) es
each_export [] r = tt
each_export (e ∷ es) r = (record { reads = λ ts tail any h. export_reads e r.0 ts tail h }, each_export es r.1)

exports_read : (es : List FunctionName) → es ≢ [] → Each FunctionName IsSmall es → (ts : List Placed) (tail : List Written)
    → Meets ts (written_exports es ++ (sign mark.BracketClose ∷ tail)) → Reads (some_closed export_at mark.BracketClose ts) es tail
unfolding others
exports_read [] some r ts tail h = absurd (some refl)
exports_read (e ∷ es) some r ts tail h =
    let behind_all = sign mark.BracketClose ∷ tail in
    let grouped = ap (λ ws. ws ++ behind_all) (exports_run e es) ∙ append_assoc (written_export e) (run FunctionName comma written_export es) behind_all in
    let here = meets_as ts (written_exports (e ∷ es) ++ behind_all) (written_export e ++ (run FunctionName comma written_export es ++ behind_all)) grouped h in
    let one = export_reads e r.0 ts (run FunctionName comma written_export es ++ behind_all) here in
    let parts = comma_parts FunctionName export_at written_export behind_all (λ us k. behind_none mark.Comma (sign mark.BracketClose) us tail comma_bracket k) in
    let all = reads_all FunctionName export_at written_export (behind mark.Comma) comma Anything behind_all parts es (each_export es r.1)
    (suc (length one.rest)) (e ∷ []) one.rest (omega arith) one.meets in
    let end = behind_goes mark.BracketClose all.rest tail all.meets in
    record { rest = end.rest; found = some_closed_found FunctionName export_at mark.BracketClose ts one.rest all.rest end.rest e (e ∷ es) one.found all.found end.found; meets = end.meets }

attribute_found : (w : List ℕ) (ts us vs rest : List Placed) → behind mark.Minus ts ≡ Some us → behind_word w us ≡ Some vs → behind mark.ParenOpen vs ≡ Some rest → attribute_at w ts ≡ Some rest
unfolding attribute_at
attribute_found w ts us vs rest minus name paren = rw (minus, name) paren

attribute_goes : (w : List ℕ) (ts : List Placed) (ws : List Written) → Meets ts (sign mark.Minus ∷ (word w ∷ (sign mark.ParenOpen ∷ ws))) → Goes (attribute_at w ts) ws
attribute_goes w ts ws h =
    let minus = behind_goes mark.Minus ts (word w ∷ (sign mark.ParenOpen ∷ ws)) h in
    let name = behind_word_goes w minus.rest (sign mark.ParenOpen ∷ ws) minus.meets in
    let paren = behind_goes mark.ParenOpen name.rest ws name.meets in
    record { rest = paren.rest; found = attribute_found w ts minus.rest name.rest paren.rest minus.found name.found paren.found; meets = paren.meets }

attribute_end_found : (ts us rest : List Placed) → behind mark.ParenClose ts ≡ Some us → behind_dot us ≡ Some rest → attribute_end ts ≡ Some rest
unfolding attribute_end
attribute_end_found ts us rest close end = rw close end

attribute_end_goes : (ts : List Placed) (ws : List Written) → Meets ts (sign mark.ParenClose ∷ (dot ∷ ws)) → Goes (attribute_end ts) ws
attribute_end_goes ts ws h =
    let close = behind_goes mark.ParenClose ts (dot ∷ ws) h in
    let end = dot_goes close.rest ws close.meets in
    record { rest = end.rest; found = attribute_end_found ts close.rest end.rest close.found end.found; meets = end.meets }

-- a module that is read again
pub record IsReadableModule (m : ModuleTree) : Type 0 where
  pub some : m.exports ≢ []
  pub exports : Each FunctionName IsSmall m.exports
  pub functions : Each FunctionTree IsReadable m.functions

module_name_found : (l : ℕ) (n : List ℕ) (ts us vs rest : List Placed) → attribute_at (codes "module") ts ≡ Some us → atom_at us ≡ Some ((l, n), vs) → attribute_end vs ≡ Some rest
    → module_name_at ts ≡ Some (n, rest)
unfolding module_name_at
module_name_found l n ts us vs rest front name end = rw (front, name, end) refl

exports_found : (es : List FunctionName) (ts us vs xs rest : List Placed) → attribute_at (codes "export") ts ≡ Some us → behind mark.BracketOpen us ≡ Some vs
    → some_closed export_at mark.BracketClose vs ≡ Some (es, xs) → attribute_end xs ≡ Some rest → exports_at ts ≡ Some (es, rest)
unfolding exports_at
exports_found es ts us vs xs rest front bracket all end = rw (front, bracket, all, end) refl

module_found : (n : List ℕ) (es : List FunctionName) (fs : List FunctionTree) (ts us vs rest : List Placed) → module_name_at ts ≡ Some (n, us) → exports_at us ≡ Some (es, vs)
    → functions_at vs ≡ Some (fs, rest) → module_at ts ≡ Some (record { name = n; exports = es; functions = fs })
unfolding module_at
module_found n es fs ts us vs rest name all rest_all = rw (name, all, rest_all) refl

pub module_reads : (m : ModuleTree) → IsReadableModule m → (ts : List Placed) → Meets ts (written_module m) → module_at ts ≡ Some m
module_reads m r ts h =
    let fs = written_functions m.functions in
    let listed = written_exports m.exports ++ (sign mark.BracketClose ∷ (sign mark.ParenClose ∷ (dot ∷ fs))) in
    let attributes = sign mark.Minus ∷ (word (codes "export") ∷ (sign mark.ParenOpen ∷ (sign mark.BracketOpen ∷ listed))) in
    let front = attribute_goes (codes "module") ts (word m.name ∷ (sign mark.ParenClose ∷ (dot ∷ attributes))) h in
    let name = word_reads m.name front.rest (sign mark.ParenClose ∷ (dot ∷ attributes)) front.meets in
    let name_end = attribute_end_goes name.rest attributes name.meets in
    let second = attribute_goes (codes "export") name_end.rest (sign mark.BracketOpen ∷ listed) name_end.meets in
    let bracket = behind_goes mark.BracketOpen second.rest listed second.meets in
    let all = exports_read m.exports r.some r.exports bracket.rest (sign mark.ParenClose ∷ (dot ∷ fs)) bracket.meets in
    let exports_end = attribute_end_goes all.rest fs all.meets in
    let functions = functions_read m.functions r.functions exports_end.rest exports_end.meets in
    module_found m.name m.exports m.functions ts name_end.rest exports_end.rest functions.rest
    (module_name_found name.line m.name ts front.rest name.rest name_end.rest front.found name.found name_end.found)
    (exports_found m.exports name_end.rest second.rest bracket.rest all.rest exports_end.rest second.found bracket.found all.found exports_end.found)
    functions.found
