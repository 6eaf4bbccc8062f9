-- How running expressions are stored, as trees of numbers that give them back. A kind is told by a row of marks, `gnil` or a
-- number.

use Rattle.std.specs.Prelude.{◌≡◌, List, [], ◌∷◌, slice_index_or, refl}
use Rattle.std.specs.Coded.{Coded, code_by}
use base.Stored.{Gv, gnil, gnum, gcons}
use Rattle.edb_lang.specs.declared.act.ActKind.{ActKind}
use Rattle.edb_lang.specs.declared.act.ActKind.TheVariants as act
use Rattle.edb_lang.specs.declared.small.Class.{Class}
use Rattle.edb_lang.specs.declared.small.Class.TheVariants.{Error, Exit, Throw}
use Rattle.edb_lang.specs.Stored.{coded_gv, number, stored_name, name_in, name_back}
use Rattle.edb_lang.specs.Terms as term
use Rattle.edb_lang.specs.Terms.{Datum}
use Rattle.edb_lang.specs.Pairs.{Pairs}
use Rattle.edb_lang.specs.TermCodes.{stored_datum, datum_in, datum_back}
use Rattle.edb_syntax.specs.declared.modules.Export.{Export}
use Rattle.edb_syntax.specs.OperationCodes.{stored_operation, operation_in, operation_back}
use Rattle.edb_syntax.specs.PatternCodes.{stored_pat, pat_in, pat_back}
use Rattle.edb_syntax.specs.Codes.{stored_exp, exp_in, exp_back, stored_exps, exps_in, exps_back, stored_seq, seq_in, seq_back, stored_after, after_in, after_back, stored_clauses, clauses_in, clauses_back, stored_catches, catches_in, catches_back, stored_qualifiers, qualifiers_in, qualifiers_back}
use Rattle.edb_syntax.specs.Syntax.{FunctionTree, ModuleTree}
use Rattle.edb_moves.specs.Running.{Doing, written, call_in, Info, Outcome, gave, threw, Drawing, Leaf, string, variable, unbegun, conditions, making, making_local, making_remote, catching, trying, failed, comprehension, collecting, drawing, missing, Frame, sequence, match, select, and_then, or_then, generate, filter, gather, scope, caught, tried, waiting, resume, Run, value, raised, leaf, node, around, body, Runs, none, more}

-- an act is stored as its place among all kinds
abbrev acts : List ActKind
acts =
    act.Send ∷ act.Receive ∷ act.Wait ∷ act.Timeout ∷ act.Spawn ∷ act.Link ∷ act.Unlink ∷ act.Monitor ∷ act.Demonitor
    ∷ act.Exit ∷ act.Register ∷ act.Unregister ∷ act.Whereis ∷ act.Trap ∷ act.Alive ∷ act.MakeRef ∷ act.Print ∷ act.End ∷ []

abbrev stored_act : ActKind → Gv
stored_act act.Send = gnum 0
stored_act act.Receive = gnum 1
stored_act act.Wait = gnum 2
stored_act act.Timeout = gnum 3
stored_act act.Spawn = gnum 4
stored_act act.Link = gnum 5
stored_act act.Unlink = gnum 6
stored_act act.Monitor = gnum 7
stored_act act.Demonitor = gnum 8
stored_act act.Exit = gnum 9
stored_act act.Register = gnum 10
stored_act act.Unregister = gnum 11
stored_act act.Whereis = gnum 12
stored_act act.Trap = gnum 13
stored_act act.Alive = gnum 14
stored_act act.MakeRef = gnum 15
stored_act act.Print = gnum 16
stored_act act.End = gnum 17

abbrev act_in : Gv → ActKind
act_in g = slice_index_or acts (number g) act.Send

act_back : (x : ActKind) → act_in (stored_act x) ≡ x
act_back act.Send = refl
act_back act.Receive = refl
act_back act.Wait = refl
act_back act.Timeout = refl
act_back act.Spawn = refl
act_back act.Link = refl
act_back act.Unlink = refl
act_back act.Monitor = refl
act_back act.Demonitor = refl
act_back act.Exit = refl
act_back act.Register = refl
act_back act.Unregister = refl
act_back act.Whereis = refl
act_back act.Trap = refl
act_back act.Alive = refl
act_back act.MakeRef = refl
act_back act.Print = refl
act_back act.End = refl

abbrev stored_class : Class → Gv
stored_class Error = gcons gnil (gcons gnil gnil)
stored_class Exit = gcons gnil (gcons (gnum 0) gnil)
stored_class Throw = gcons (gnum 0) (gcons gnil gnil)

abbrev class_in : Gv → Class
class_in (gcons gnil (gcons gnil _)) = Error
class_in (gcons gnil (gcons (gnum _) _)) = Exit
class_in (gcons (gnum _) (gcons gnil _)) = Throw
class_in _ = Error

class_back : (x : Class) → class_in (stored_class x) ≡ x
class_back Error = refl
class_back Exit = refl
class_back Throw = refl

abbrev stored_pairs : Pairs → Gv
stored_pairs [] = gnil
stored_pairs (p ∷ ps) = gcons (gcons (stored_name p.0) (stored_datum p.1)) (stored_pairs ps)

abbrev pairs_in : Gv → Pairs
pairs_in (gcons (gcons x t) ps) = (name_in x, datum_in t) ∷ pairs_in ps
pairs_in _ = []

pairs_back : (ps : Pairs) → pairs_in (stored_pairs ps) ≡ ps
pairs_back [] = refl
pairs_back (p ∷ ps) = λ j. (name_back p.0 j, datum_back p.1 j) ∷ pairs_back ps j

abbrev stored_terms : List Datum → Gv
stored_terms [] = gnil
stored_terms (t ∷ ts) = gcons (stored_datum t) (stored_terms ts)

abbrev terms_in : Gv → List Datum
terms_in (gcons t ts) = datum_in t ∷ terms_in ts
terms_in _ = []

terms_back : (ts : List Datum) → terms_in (stored_terms ts) ≡ ts
terms_back [] = refl
terms_back (t ∷ ts) = λ j. datum_back t j ∷ terms_back ts j

-- modules
abbrev stored_export : Export → Gv
stored_export e = gcons (stored_name e.name) (gcons (gnum e.arity) (gnum e.line))

abbrev export_in : Gv → Export
export_in (gcons f (gcons n l)) = record { name = name_in f; arity = number n; line = number l }
export_in _ = record { name = []; arity = 0; line = 0 }

export_back : (e : Export) → export_in (stored_export e) ≡ e
export_back e = λ j. record { name = name_back e.name j; arity = e.arity; line = e.line }

abbrev stored_exports : List Export → Gv
stored_exports [] = gnil
stored_exports (e ∷ es) = gcons (stored_export e) (stored_exports es)

abbrev exports_in : Gv → List Export
exports_in (gcons e es) = export_in e ∷ exports_in es
exports_in _ = []

exports_back : (es : List Export) → exports_in (stored_exports es) ≡ es
exports_back [] = refl
exports_back (e ∷ es) = λ j. export_back e j ∷ exports_back es j

abbrev stored_function : FunctionTree → Gv
stored_function f = gcons (stored_name f.name) (gcons (gnum f.arity) (gcons (gnum f.line) (stored_clauses f.clauses)))

abbrev function_in : Gv → FunctionTree
function_in (gcons f (gcons n (gcons l cs))) = record { name = name_in f; arity = number n; line = number l; clauses = clauses_in cs }
function_in g = record { name = []; arity = 0; line = 0; clauses = clauses_in gnil }

function_back : (f : FunctionTree) → function_in (stored_function f) ≡ f
function_back f = λ j. record { name = name_back f.name j; arity = f.arity; line = f.line; clauses = clauses_back f.clauses j }

abbrev stored_functions : List FunctionTree → Gv
stored_functions [] = gnil
stored_functions (f ∷ fs) = gcons (stored_function f) (stored_functions fs)

abbrev functions_in : Gv → List FunctionTree
functions_in (gcons f fs) = function_in f ∷ functions_in fs
functions_in _ = []

functions_back : (fs : List FunctionTree) → functions_in (stored_functions fs) ≡ fs
functions_back [] = refl
functions_back (f ∷ fs) = λ j. function_back f j ∷ functions_back fs j

abbrev stored_module : ModuleTree → Gv
stored_module x = gcons (stored_name x.name) (gcons (gnum x.line) (gcons (stored_exports x.exports) (stored_functions x.functions)))

abbrev module_in : Gv → ModuleTree
module_in (gcons m (gcons l (gcons es fs))) = record { name = name_in m; line = number l; exports = exports_in es; functions = functions_in fs }
module_in _ = record { name = []; line = 0; exports = []; functions = [] }

module_back : (x : ModuleTree) → module_in (stored_module x) ≡ x
module_back x = λ j. record { name = name_back x.name j; line = x.line; exports = exports_back x.exports j; functions = functions_back x.functions j }

abbrev stored_doing : Doing → Gv
stored_doing (written o) = gcons gnil (stored_operation o)
stored_doing (call_in m k f) = gcons (gnum 0) (gcons (stored_module m) (gcons (gnum k) (stored_name f)))

abbrev doing_in : Gv → Doing
doing_in (gcons gnil o) = written (operation_in o)
doing_in (gcons (gnum _) (gcons m (gcons k f))) = call_in (module_in m) (number k) (name_in f)
doing_in _ = call_in (module_in gnil) 0 []

doing_back : (x : Doing) → doing_in (stored_doing x) ≡ x
doing_back (written o) = λ j. written (operation_back o j)
doing_back (call_in m k f) = λ j. call_in (module_back m j) k (name_back f j)

abbrev stored_info : Info → Gv
stored_info i = gcons (stored_module i.home) (gcons (gnum i.version) (gcons (stored_name i.name) (gcons (gnum i.arity) (gcons (gnum i.level) (stored_pairs i.bindings)))))

abbrev info_in : Gv → Info
info_in (gcons x (gcons k (gcons f (gcons n (gcons l bs))))) = record { home = module_in x; version = number k; name = name_in f; arity = number n; level = number l; bindings = pairs_in bs }
info_in g = record { home = module_in gnil; version = 0; name = []; arity = 0; level = 0; bindings = [] }

pub info_back : (i : Info) → info_in (stored_info i) ≡ i
info_back i = λ j. record { home = module_back i.home j; version = i.version; name = name_back i.name j; arity = i.arity; level = i.level; bindings = pairs_back i.bindings j }

abbrev stored_outcome : Outcome → Gv
stored_outcome (gave v) = gcons gnil (stored_datum v)
stored_outcome (threw c v) = gcons (gnum 0) (gcons (stored_class c) (stored_datum v))

abbrev outcome_in : Gv → Outcome
outcome_in (gcons gnil v) = gave (datum_in v)
outcome_in (gcons (gnum _) (gcons c v)) = threw (class_in c) (datum_in v)
outcome_in _ = gave term.nil

outcome_back : (x : Outcome) → outcome_in (stored_outcome x) ≡ x
outcome_back (gave v) = λ j. gave (datum_back v j)
outcome_back (threw c v) = λ j. threw (class_back c j) (datum_back v j)

abbrev stored_drawing : Drawing → Gv
stored_drawing d = gcons (stored_terms d.gathered) (gcons (stored_pat d.pattern) (gcons (stored_exp d.element) (stored_qualifiers d.rest)))

abbrev drawing_in : Gv → Drawing
drawing_in (gcons ts (gcons q (gcons e qs))) = record { gathered = terms_in ts; pattern = pat_in q; element = exp_in e; rest = qualifiers_in qs }
drawing_in g = record { gathered = []; pattern = pat_in gnil; element = exp_in gnil; rest = qualifiers_in gnil }

drawing_back : (d : Drawing) → drawing_in (stored_drawing d) ≡ d
drawing_back d = λ j. record { gathered = terms_back d.gathered j; pattern = pat_back d.pattern j; element = exp_back d.element j; rest = qualifiers_back d.rest j }

abbrev stored_leaf : Leaf → Gv
stored_leaf (string s) = gcons gnil (gcons gnil (gcons gnil (gcons gnil (stored_name s))))
stored_leaf (variable x) = gcons gnil (gcons gnil (gcons gnil (gcons (gnum 0) (stored_name x))))
stored_leaf (unbegun s) = gcons gnil (gcons gnil (gcons (gnum 0) (gcons gnil (stored_seq s))))
stored_leaf (conditions cs) = gcons gnil (gcons gnil (gcons (gnum 0) (gcons (gnum 0) (stored_clauses cs))))
stored_leaf (making i n) = gcons gnil (gcons (gnum 0) (gcons gnil (gcons gnil (gcons (gnum i) (gnum n)))))
stored_leaf (making_local i n) = gcons gnil (gcons (gnum 0) (gcons gnil (gcons (gnum 0) (gcons (gnum i) (gnum n)))))
stored_leaf (making_remote m f n) = gcons gnil (gcons (gnum 0) (gcons (gnum 0) (gcons gnil (gcons (stored_name m) (gcons (stored_name f) (gnum n))))))
stored_leaf (catching e) = gcons gnil (gcons (gnum 0) (gcons (gnum 0) (gcons (gnum 0) (stored_exp e))))
stored_leaf (trying s cs hs a) = gcons (gnum 0) (gcons gnil (gcons gnil (gcons gnil (gcons (stored_seq s) (gcons (stored_clauses cs) (gcons (stored_catches hs) (stored_after a)))))))
stored_leaf (failed c v s) = gcons (gnum 0) (gcons gnil (gcons gnil (gcons (gnum 0) (gcons (stored_class c) (gcons (stored_datum v) (stored_seq s))))))
stored_leaf (comprehension e qs) = gcons (gnum 0) (gcons gnil (gcons (gnum 0) (gcons gnil (gcons (stored_exp e) (stored_qualifiers qs)))))
stored_leaf (collecting e) = gcons (gnum 0) (gcons gnil (gcons (gnum 0) (gcons (gnum 0) (stored_exp e))))
stored_leaf (drawing d v) = gcons (gnum 0) (gcons (gnum 0) (gcons gnil (gcons gnil (gcons (stored_drawing d) (stored_datum v)))))
stored_leaf (missing k) = gcons (gnum 0) (gcons (gnum 0) (gcons gnil (gcons (gnum 0) (stored_act k))))

abbrev leaf_in : Gv → Leaf
leaf_in (gcons gnil (gcons gnil (gcons gnil (gcons gnil s)))) = string (name_in s)
leaf_in (gcons gnil (gcons gnil (gcons gnil (gcons (gnum _) x)))) = variable (name_in x)
leaf_in (gcons gnil (gcons gnil (gcons (gnum _) (gcons gnil s)))) = unbegun (seq_in s)
leaf_in (gcons gnil (gcons gnil (gcons (gnum _) (gcons (gnum _) cs)))) = conditions (clauses_in cs)
leaf_in (gcons gnil (gcons (gnum _) (gcons gnil (gcons gnil (gcons i n))))) = making (number i) (number n)
leaf_in (gcons gnil (gcons (gnum _) (gcons gnil (gcons (gnum _) (gcons i n))))) = making_local (number i) (number n)
leaf_in (gcons gnil (gcons (gnum _) (gcons (gnum _) (gcons gnil (gcons m (gcons f n)))))) = making_remote (name_in m) (name_in f) (number n)
leaf_in (gcons gnil (gcons (gnum _) (gcons (gnum _) (gcons (gnum _) e)))) = catching (exp_in e)
leaf_in (gcons (gnum _) (gcons gnil (gcons gnil (gcons gnil (gcons s (gcons cs (gcons hs a))))))) = trying (seq_in s) (clauses_in cs) (catches_in hs) (after_in a)
leaf_in (gcons (gnum _) (gcons gnil (gcons gnil (gcons (gnum _) (gcons c (gcons v s)))))) = failed (class_in c) (datum_in v) (seq_in s)
leaf_in (gcons (gnum _) (gcons gnil (gcons (gnum _) (gcons gnil (gcons e qs))))) = comprehension (exp_in e) (qualifiers_in qs)
leaf_in (gcons (gnum _) (gcons gnil (gcons (gnum _) (gcons (gnum _) e)))) = collecting (exp_in e)
leaf_in (gcons (gnum _) (gcons (gnum _) (gcons gnil (gcons gnil (gcons d v))))) = drawing (drawing_in d) (datum_in v)
leaf_in (gcons (gnum _) (gcons (gnum _) (gcons gnil (gcons (gnum _) k)))) = missing (act_in k)
leaf_in _ = string []

leaf_back : (x : Leaf) → leaf_in (stored_leaf x) ≡ x
leaf_back (string s) = λ j. string (name_back s j)
leaf_back (variable x) = λ j. variable (name_back x j)
leaf_back (unbegun s) = λ j. unbegun (seq_back s j)
leaf_back (conditions cs) = λ j. conditions (clauses_back cs j)
leaf_back (making i n) = refl
leaf_back (making_local i n) = refl
leaf_back (making_remote m f n) = λ j. making_remote (name_back m j) (name_back f j) n
leaf_back (catching e) = λ j. catching (exp_back e j)
leaf_back (trying s cs hs a) = λ j. trying (seq_back s j) (clauses_back cs j) (catches_back hs j) (after_back a j)
leaf_back (failed c v s) = λ j. failed (class_back c j) (datum_back v j) (seq_back s j)
leaf_back (comprehension e qs) = λ j. comprehension (exp_back e j) (qualifiers_back qs j)
leaf_back (collecting e) = λ j. collecting (exp_back e j)
leaf_back (drawing d v) = λ j. drawing (drawing_back d j) (datum_back v j)
leaf_back (missing k) = λ j. missing (act_back k j)

abbrev stored_frame : Frame → Gv
stored_frame (sequence l es) = gcons gnil (gcons gnil (gcons gnil (gcons gnil (gcons (gnum l) (stored_exps es)))))
stored_frame (match q) = gcons gnil (gcons gnil (gcons gnil (gcons (gnum 0) (stored_pat q))))
stored_frame (select cs) = gcons gnil (gcons gnil (gcons (gnum 0) (gcons gnil (stored_clauses cs))))
stored_frame (and_then e) = gcons gnil (gcons gnil (gcons (gnum 0) (gcons (gnum 0) (stored_exp e))))
stored_frame (or_then e) = gcons gnil (gcons (gnum 0) (gcons gnil (gcons gnil (stored_exp e))))
stored_frame (generate q e qs) = gcons gnil (gcons (gnum 0) (gcons gnil (gcons (gnum 0) (gcons (stored_pat q) (gcons (stored_exp e) (stored_qualifiers qs))))))
stored_frame (filter e qs) = gcons gnil (gcons (gnum 0) (gcons (gnum 0) (gcons gnil (gcons (stored_exp e) (stored_qualifiers qs)))))
stored_frame (gather d v) = gcons gnil (gcons (gnum 0) (gcons (gnum 0) (gcons (gnum 0) (gcons (stored_drawing d) (stored_datum v)))))
stored_frame (scope bs) = gcons (gnum 0) (gcons gnil (gcons gnil (gcons gnil (stored_pairs bs))))
stored_frame (caught bs) = gcons (gnum 0) (gcons gnil (gcons gnil (gcons (gnum 0) (stored_pairs bs))))
stored_frame (tried bs cs hs) = gcons (gnum 0) (gcons gnil (gcons (gnum 0) (gcons gnil (gcons (stored_pairs bs) (gcons (stored_clauses cs) (stored_catches hs))))))
stored_frame (waiting bs s) = gcons (gnum 0) (gcons gnil (gcons (gnum 0) (gcons (gnum 0) (gcons (stored_pairs bs) (stored_seq s)))))
stored_frame (resume o) = gcons (gnum 0) (gcons (gnum 0) (gcons gnil (gcons gnil (stored_outcome o))))

abbrev frame_in : Gv → Frame
frame_in (gcons gnil (gcons gnil (gcons gnil (gcons gnil (gcons l es))))) = sequence (number l) (exps_in es)
frame_in (gcons gnil (gcons gnil (gcons gnil (gcons (gnum _) q)))) = match (pat_in q)
frame_in (gcons gnil (gcons gnil (gcons (gnum _) (gcons gnil cs)))) = select (clauses_in cs)
frame_in (gcons gnil (gcons gnil (gcons (gnum _) (gcons (gnum _) e)))) = and_then (exp_in e)
frame_in (gcons gnil (gcons (gnum _) (gcons gnil (gcons gnil e)))) = or_then (exp_in e)
frame_in (gcons gnil (gcons (gnum _) (gcons gnil (gcons (gnum _) (gcons q (gcons e qs)))))) = generate (pat_in q) (exp_in e) (qualifiers_in qs)
frame_in (gcons gnil (gcons (gnum _) (gcons (gnum _) (gcons gnil (gcons e qs))))) = filter (exp_in e) (qualifiers_in qs)
frame_in (gcons gnil (gcons (gnum _) (gcons (gnum _) (gcons (gnum _) (gcons d v))))) = gather (drawing_in d) (datum_in v)
frame_in (gcons (gnum _) (gcons gnil (gcons gnil (gcons gnil bs)))) = scope (pairs_in bs)
frame_in (gcons (gnum _) (gcons gnil (gcons gnil (gcons (gnum _) bs)))) = caught (pairs_in bs)
frame_in (gcons (gnum _) (gcons gnil (gcons (gnum _) (gcons gnil (gcons bs (gcons cs hs)))))) = tried (pairs_in bs) (clauses_in cs) (catches_in hs)
frame_in (gcons (gnum _) (gcons gnil (gcons (gnum _) (gcons (gnum _) (gcons bs s))))) = waiting (pairs_in bs) (seq_in s)
frame_in (gcons (gnum _) (gcons (gnum _) (gcons gnil (gcons gnil o)))) = resume (outcome_in o)
frame_in _ = scope []

frame_back : (x : Frame) → frame_in (stored_frame x) ≡ x
frame_back (sequence l es) = λ j. sequence l (exps_back es j)
frame_back (match q) = λ j. match (pat_back q j)
frame_back (select cs) = λ j. select (clauses_back cs j)
frame_back (and_then e) = λ j. and_then (exp_back e j)
frame_back (or_then e) = λ j. or_then (exp_back e j)
frame_back (generate q e qs) = λ j. generate (pat_back q j) (exp_back e j) (qualifiers_back qs j)
frame_back (filter e qs) = λ j. filter (exp_back e j) (qualifiers_back qs j)
frame_back (gather d v) = λ j. gather (drawing_back d j) (datum_back v j)
frame_back (scope bs) = λ j. scope (pairs_back bs j)
frame_back (caught bs) = λ j. caught (pairs_back bs j)
frame_back (tried bs cs hs) = λ j. tried (pairs_back bs j) (clauses_back cs j) (catches_back hs j)
frame_back (waiting bs s) = λ j. waiting (pairs_back bs j) (seq_back s j)
frame_back (resume o) = λ j. resume (outcome_back o j)

abbrev mutual
  stored_run : Run → Gv
  stored_run (value v) = gcons gnil (gcons gnil (gcons gnil (stored_datum v)))
  stored_run (raised c v) = gcons gnil (gcons gnil (gcons (gnum 0) (gcons (stored_class c) (stored_datum v))))
  stored_run (leaf l) = gcons gnil (gcons (gnum 0) (gcons gnil (stored_leaf l)))
  stored_run (node o ts) = gcons gnil (gcons (gnum 0) (gcons (gnum 0) (gcons (stored_doing o) (stored_runs ts))))
  stored_run (around f t) = gcons (gnum 0) (gcons gnil (gcons gnil (gcons (stored_frame f) (stored_run t))))
  stored_run (body i t) = gcons (gnum 0) (gcons gnil (gcons (gnum 0) (gcons (stored_info i) (stored_run t))))

  stored_runs : Runs → Gv
  stored_runs none = gnil
  stored_runs (more t ts) = gcons (stored_run t) (stored_runs ts)

abbrev mutual
  run_in : Gv → Run
  run_in (gcons gnil (gcons gnil (gcons gnil v))) = value (datum_in v)
  run_in (gcons gnil (gcons gnil (gcons (gnum _) (gcons c v)))) = raised (class_in c) (datum_in v)
  run_in (gcons gnil (gcons (gnum _) (gcons gnil l))) = leaf (leaf_in l)
  run_in (gcons gnil (gcons (gnum _) (gcons (gnum _) (gcons o ts)))) = node (doing_in o) (runs_in ts)
  run_in (gcons (gnum _) (gcons gnil (gcons gnil (gcons f t)))) = around (frame_in f) (run_in t)
  run_in (gcons (gnum _) (gcons gnil (gcons (gnum _) (gcons i t)))) = body (info_in i) (run_in t)
  run_in _ = value term.nil

  runs_in : Gv → Runs
  runs_in (gcons t ts) = more (run_in t) (runs_in ts)
  runs_in _ = none

mutual
  pub run_back : (x : Run) → run_in (stored_run x) ≡ x
  run_back (value v) = λ j. value (datum_back v j)
  run_back (raised c v) = λ j. raised (class_back c j) (datum_back v j)
  run_back (leaf l) = λ j. leaf (leaf_back l j)
  run_back (node o ts) = λ j. node (doing_back o j) (runs_back ts j)
  run_back (around f t) = λ j. around (frame_back f j) (run_back t j)
  run_back (body i t) = λ j. body (info_back i j) (run_back t j)

  pub runs_back : (x : Runs) → runs_in (stored_runs x) ≡ x
  runs_back none = refl
  runs_back (more t ts) = λ j. more (run_back t j) (runs_back ts j)

abbrev pub coded_info : Coded Info
coded_info = code_by Gv coded_gv stored_info info_in info_back

abbrev pub coded_run : Coded Run
coded_run = code_by Gv coded_gv stored_run run_in run_back
