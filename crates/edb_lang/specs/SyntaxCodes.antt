-- How syntax trees are stored, as trees of numbers that give them back.

use Rattle.std.specs.Prelude.{◌≡◌, ℕ, zero, suc, List, [], refl}
use Rattle.std.proofs.Common.{ap}
use Rattle.std.specs.Coded.{Coded, code_by, coded_ℕ, coded×, coded_list}
use base.Stored.{Gv, gnil, gnum, gcons}
use Rattle.edb_lang.specs.Stored.{coded_gv, number, stored_int, int_in, int_back, stored_name, name_in, name_back}
use Rattle.edb_lang.specs.declared.small.Op.{Op}
use Rattle.edb_lang.specs.declared.small.Op.TheVariants.{Add}
use Rattle.edb_lang.specs.declared.syntax.FunctionName.{FunctionName}
use Rattle.edb_lang.specs.contracts.syntax.FunctionName as function_name
use Rattle.edb_lang.specs.Syntax.{Pat, Exp, Exps, int, atom, variable, match, binary, call, remote, none, more, FunctionTree, ModuleTree}

abbrev pub stored_op : Op → Gv
stored_op Add = gnum 0

abbrev pub op_in : Gv → Op
op_in _ = Add

pub op_back : (o : Op) → op_in (stored_op o) ≡ o
op_back Add = refl

abbrev pub stored_pat : Pat → Gv
stored_pat (Pat.variable l x) = gcons (gnum l) (stored_name x)

abbrev pub pat_in : Gv → Pat
pat_in (gcons l x) = Pat.variable (number l) (name_in x)
pat_in _ = Pat.variable 0 []

pub pat_back : (p : Pat) → pat_in (stored_pat p) ≡ p
pat_back (Pat.variable l x) = ap (Pat.variable l) (name_back x)

abbrev mutual
  pub stored_exp : Exp → Gv
  stored_exp (int l i) = gcons (gnum 0) (gcons (gnum l) (stored_int i))
  stored_exp (atom l a) = gcons (gnum 1) (gcons (gnum l) (stored_name a))
  stored_exp (variable l x) = gcons (gnum 2) (gcons (gnum l) (stored_name x))
  stored_exp (match l p e) = gcons (gnum 3) (gcons (gnum l) (gcons (stored_pat p) (stored_exp e)))
  stored_exp (binary l o a b) = gcons (gnum 4) (gcons (gnum l) (gcons (stored_op o) (gcons (stored_exp a) (stored_exp b))))
  stored_exp (call l f es) = gcons (gnum 5) (gcons (gnum l) (gcons (stored_name f) (stored_exps es)))
  stored_exp (remote l m f es) = gcons (gnum 6) (gcons (gnum l) (gcons (stored_exp m) (gcons (stored_exp f) (stored_exps es))))

  pub stored_exps : Exps → Gv
  stored_exps none = gnil
  stored_exps (more e es) = gcons (stored_exp e) (stored_exps es)

abbrev mutual
  pub exp_in : Gv → Exp
  exp_in (gcons (gnum zero) (gcons l i)) = int (number l) (int_in i)
  exp_in (gcons (gnum (suc zero)) (gcons l a)) = atom (number l) (name_in a)
  exp_in (gcons (gnum (suc (suc zero))) (gcons l x)) = variable (number l) (name_in x)
  exp_in (gcons (gnum (suc (suc (suc zero)))) (gcons l (gcons p e))) = match (number l) (pat_in p) (exp_in e)
  exp_in (gcons (gnum (suc (suc (suc (suc zero))))) (gcons l (gcons o (gcons a b)))) = binary (number l) (op_in o) (exp_in a) (exp_in b)
  exp_in (gcons (gnum (suc (suc (suc (suc (suc zero)))))) (gcons l (gcons f es))) = call (number l) (name_in f) (exps_in es)
  exp_in (gcons (gnum (suc (suc (suc (suc (suc (suc zero))))))) (gcons l (gcons m (gcons f es)))) = remote (number l) (exp_in m) (exp_in f) (exps_in es)
  exp_in _ = atom 0 []

  pub exps_in : Gv → Exps
  exps_in (gcons e es) = more (exp_in e) (exps_in es)
  exps_in _ = none

mutual
  pub exp_back : (e : Exp) → exp_in (stored_exp e) ≡ e
  exp_back (int l i) = ap (int l) (int_back i)
  exp_back (atom l a) = ap (atom l) (name_back a)
  exp_back (variable l x) = ap (variable l) (name_back x)
  exp_back (match l p e) = λ i. match l (pat_back p i) (exp_back e i)
  exp_back (binary l o a b) = λ i. binary l (op_back o i) (exp_back a i) (exp_back b i)
  exp_back (call l f es) = λ i. call l (name_back f i) (exps_back es i)
  exp_back (remote l m f es) = λ i. remote l (exp_back m i) (exp_back f i) (exps_back es i)

  pub exps_back : (es : Exps) → exps_in (stored_exps es) ≡ es
  exps_back none = refl
  exps_back (more e es) = λ i. more (exp_back e i) (exps_back es i)

abbrev pub coded_pat : Coded Pat
coded_pat = code_by Gv coded_gv stored_pat pat_in pat_back

abbrev pub coded_exp : Coded Exp
coded_exp = code_by Gv coded_gv stored_exp exp_in exp_back

abbrev pub coded_exps : Coded Exps
coded_exps = code_by Gv coded_gv stored_exps exps_in exps_back

abbrev pub coded_function : Coded FunctionTree
coded_function =
    code_by (List ℕ × (List Pat × (Exp × Exps))) (coded× (coded_list coded_ℕ) (coded× (coded_list coded_pat) (coded× coded_exp coded_exps)))
    (λ f. (f.name, (f.parameters, (f.first, f.rest))))
    (λ p. record { name = p.0; parameters = p.1.0; first = p.1.1.0; rest = p.1.1.1 })
    (λ _. refl)

abbrev pub coded_module : Coded ModuleTree
coded_module =
    code_by (List ℕ × (List FunctionName × List FunctionTree)) (coded× (coded_list coded_ℕ) (coded× (coded_list function_name.the_row.coded) (coded_list coded_function)))
    (λ m. (m.name, (m.exports, m.functions)))
    (λ p. record { name = p.0; exports = p.1.0; functions = p.1.1 })
    (λ _. refl)
