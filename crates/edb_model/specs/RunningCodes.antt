-- How running expressions are stored, as trees of numbers that give them back.

use Rattle.std.specs.Prelude.{◌≡◌, ℕ, zero, suc, Bool, true, false, List, [], ◌∷◌, refl}
use Rattle.std.proofs.Common.{ap}
use Rattle.std.specs.Coded.{Coded, code_by}
use base.Stored.{Gv, gnil, gnum, gcons}
use Rattle.edb_lang.specs.declared.small.Class.{Class}
use Rattle.edb_lang.specs.declared.small.Class.TheVariants.{Error, Exit, Throw}
use Rattle.edb_lang.specs.Stored.{coded_gv, number, stored_name, name_in, name_back}
use Rattle.edb_lang.specs.Pairs.{Pairs}
use Rattle.edb_lang.specs.TermCodes.{stored_datum, datum_in, datum_back}
use Rattle.edb_lang.specs.SyntaxCodes.{stored_op, op_in, op_back, stored_pat, pat_in, pat_back, stored_exps, exps_in, exps_back}
use Rattle.edb_model.specs.Running.{Operation, operate, local_call, remote_call, Info, Run, value, variable, node, match, sequence, body, raised, Runs, none, more}

abbrev stored_operation : Operation → Gv
stored_operation (operate o) = gcons (gnum 0) (stored_op o)
stored_operation (local_call f) = gcons (gnum 1) (stored_name f)
stored_operation remote_call = gnil

abbrev operation_in : Gv → Operation
operation_in (gcons (gnum zero) o) = operate (op_in o)
operation_in (gcons a f) = local_call (name_in f)
operation_in _ = remote_call

operation_back : (o : Operation) → operation_in (stored_operation o) ≡ o
operation_back (operate o) = ap operate (op_back o)
operation_back (local_call f) = ap local_call (name_back f)
operation_back remote_call = refl

abbrev stored_class : Class → Gv
stored_class Error = gnum 0
stored_class Exit = gnum 1
stored_class Throw = gnum 2

abbrev class_in : Gv → Class
class_in (gnum zero) = Error
class_in (gnum (suc zero)) = Exit
class_in _ = Throw

class_back : (c : Class) → class_in (stored_class c) ≡ c
class_back Error = refl
class_back Exit = refl
class_back Throw = refl

-- a truth value
abbrev stored_test : Bool → Gv
stored_test true = gnum 1
stored_test false = gnum 0

abbrev test_in : Gv → Bool
test_in (gnum zero) = false
test_in _ = true

test_back : (b : Bool) → test_in (stored_test b) ≡ b
test_back true = refl
test_back false = refl

abbrev stored_pairs : Pairs → Gv
stored_pairs [] = gnil
stored_pairs (p ∷ ps) = gcons (gcons (stored_name p.0) (stored_datum p.1)) (stored_pairs ps)

abbrev pairs_in : Gv → Pairs
pairs_in (gcons (gcons x t) ps) = (name_in x, datum_in t) ∷ pairs_in ps
pairs_in _ = []

pairs_back : (ps : Pairs) → pairs_in (stored_pairs ps) ≡ ps
pairs_back [] = refl
pairs_back (p ∷ ps) = λ i. (name_back p.0 i, datum_back p.1 i) ∷ pairs_back ps i

abbrev stored_info : Info → Gv
stored_info i =
    gcons (stored_name i.home) (gcons (gnum i.version) (gcons (stored_name i.name) (gcons (gnum i.arity) (gcons (gnum i.level) (stored_pairs i.bindings)))))

abbrev info_in : Gv → Info
info_in (gcons home (gcons version (gcons name (gcons arity (gcons level bindings))))) =
    record { home = name_in home; version = number version; name = name_in name; arity = number arity; level = number level; bindings = pairs_in bindings }
info_in _ = record { home = []; version = 0; name = []; arity = 0; level = 0; bindings = [] }

info_back : (i : Info) → info_in (stored_info i) ≡ i
info_back x = λ i. record { home = name_back x.home i; version = x.version; name = name_back x.name i; arity = x.arity; level = x.level; bindings = pairs_back x.bindings i }

abbrev mutual
  stored_run : Run → Gv
  stored_run (value v) = gcons (gnum 0) (stored_datum v)
  stored_run (variable x) = gcons (gnum 1) (stored_name x)
  stored_run (node o ts) = gcons (gnum 2) (gcons (stored_operation o) (stored_runs ts))
  stored_run (match q t) = gcons (gnum 3) (gcons (stored_pat q) (stored_run t))
  stored_run (sequence b l t es) = gcons (gnum 4) (gcons (stored_test b) (gcons (gnum l) (gcons (stored_run t) (stored_exps es))))
  stored_run (body i t) = gcons (gnum 5) (gcons (stored_info i) (stored_run t))
  stored_run (raised c v) = gcons (gnum 6) (gcons (stored_class c) (stored_datum v))

  stored_runs : Runs → Gv
  stored_runs none = gnil
  stored_runs (more t ts) = gcons (stored_run t) (stored_runs ts)

abbrev mutual
  run_in : Gv → Run
  run_in (gcons (gnum zero) v) = value (datum_in v)
  run_in (gcons (gnum (suc zero)) x) = variable (name_in x)
  run_in (gcons (gnum (suc (suc zero))) (gcons o ts)) = node (operation_in o) (runs_in ts)
  run_in (gcons (gnum (suc (suc (suc zero)))) (gcons q t)) = match (pat_in q) (run_in t)
  run_in (gcons (gnum (suc (suc (suc (suc zero))))) (gcons b (gcons l (gcons t es)))) = sequence (test_in b) (number l) (run_in t) (exps_in es)
  run_in (gcons (gnum (suc (suc (suc (suc (suc zero)))))) (gcons i t)) = body (info_in i) (run_in t)
  run_in (gcons (gnum (suc (suc (suc (suc (suc (suc zero))))))) (gcons c v)) = raised (class_in c) (datum_in v)
  run_in _ = variable []

  runs_in : Gv → Runs
  runs_in (gcons t ts) = more (run_in t) (runs_in ts)
  runs_in _ = none

mutual
  pub run_back : (t : Run) → run_in (stored_run t) ≡ t
  run_back (value v) = ap value (datum_back v)
  run_back (variable x) = ap variable (name_back x)
  run_back (node o ts) = λ i. node (operation_back o i) (runs_back ts i)
  run_back (match q t) = λ i. match (pat_back q i) (run_back t i)
  run_back (sequence b l t es) = λ i. sequence (test_back b i) l (run_back t i) (exps_back es i)
  run_back (body x t) = λ i. body (info_back x i) (run_back t i)
  run_back (raised c v) = λ i. raised (class_back c i) (datum_back v i)

  pub runs_back : (ts : Runs) → runs_in (stored_runs ts) ≡ ts
  runs_back none = refl
  runs_back (more t ts) = λ i. more (run_back t i) (runs_back ts i)

abbrev pub coded_run : Coded Run
coded_run = code_by Gv coded_gv stored_run run_in run_back
