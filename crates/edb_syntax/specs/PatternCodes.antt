-- How patterns are stored, as trees of numbers that give them back.

use Rattle.std.specs.Prelude.{◌≡◌, refl}
use Rattle.std.proofs.Common.{ap}
use Rattle.std.specs.Coded.{Coded, code_by}
use base.Stored.{Gv, gnil, gnum, gcons}
use Rattle.edb_lang.specs.Stored.{coded_gv, number, stored_int, int_in, int_back, stored_name, name_in, name_back}
use Rattle.edb_syntax.specs.Patterns.{Pat, Pats, int, atom, string, variable, any, tuple, list, list_with_tail, both, none, more}

-- the node's kind is told by a row of marks, `gnil` or a number
abbrev mutual
  pub stored_pat : Pat → Gv
  stored_pat (int l i) = gcons gnil (gcons gnil (gcons gnil (gcons (gnum l) (stored_int i))))
  stored_pat (atom l a) = gcons gnil (gcons gnil (gcons (gnum 0) (gcons (gnum l) (stored_name a))))
  stored_pat (string l s) = gcons gnil (gcons (gnum 0) (gcons gnil (gcons (gnum l) (stored_name s))))
  stored_pat (variable l x) = gcons gnil (gcons (gnum 0) (gcons (gnum 0) (gcons (gnum l) (stored_name x))))
  stored_pat (any l) = gnum l
  stored_pat (tuple l ps) = gcons (gnum 0) (gcons gnil (gcons gnil (gcons (gnum l) (stored_pats ps))))
  stored_pat (list l ps) = gcons (gnum 0) (gcons gnil (gcons (gnum 0) (gcons (gnum l) (stored_pats ps))))
  stored_pat (list_with_tail l ps t) = gcons (gnum 0) (gcons (gnum 0) (gcons gnil (gcons (gnum l) (gcons (stored_pats ps) (stored_pat t)))))
  stored_pat (both l p q) = gcons (gnum 0) (gcons (gnum 0) (gcons (gnum 0) (gcons (gnum l) (gcons (stored_pat p) (stored_pat q)))))

  pub stored_pats : Pats → Gv
  stored_pats none = gnil
  stored_pats (more p ps) = gcons (stored_pat p) (stored_pats ps)

abbrev mutual
  pub pat_in : Gv → Pat
  pat_in (gcons gnil (gcons gnil (gcons gnil (gcons l i)))) = int (number l) (int_in i)
  pat_in (gcons gnil (gcons gnil (gcons (gnum _) (gcons l a)))) = atom (number l) (name_in a)
  pat_in (gcons gnil (gcons (gnum _) (gcons gnil (gcons l s)))) = string (number l) (name_in s)
  pat_in (gcons gnil (gcons (gnum _) (gcons (gnum _) (gcons l x)))) = variable (number l) (name_in x)
  pat_in (gcons (gnum _) (gcons gnil (gcons gnil (gcons l ps)))) = tuple (number l) (pats_in ps)
  pat_in (gcons (gnum _) (gcons gnil (gcons (gnum _) (gcons l ps)))) = list (number l) (pats_in ps)
  pat_in (gcons (gnum _) (gcons (gnum _) (gcons gnil (gcons l (gcons ps t))))) = list_with_tail (number l) (pats_in ps) (pat_in t)
  pat_in (gcons (gnum _) (gcons (gnum _) (gcons (gnum _) (gcons l (gcons p q))))) = both (number l) (pat_in p) (pat_in q)
  pat_in g = any (number g)

  pub pats_in : Gv → Pats
  pats_in (gcons p ps) = more (pat_in p) (pats_in ps)
  pats_in _ = none

mutual
  pub pat_back : (p : Pat) → pat_in (stored_pat p) ≡ p
  pat_back (int l i) = ap (int l) (int_back i)
  pat_back (atom l a) = ap (atom l) (name_back a)
  pat_back (string l s) = ap (string l) (name_back s)
  pat_back (variable l x) = ap (variable l) (name_back x)
  pat_back (any l) = refl
  pat_back (tuple l ps) = ap (tuple l) (pats_back ps)
  pat_back (list l ps) = ap (list l) (pats_back ps)
  pat_back (list_with_tail l ps t) = λ i. list_with_tail l (pats_back ps i) (pat_back t i)
  pat_back (both l p q) = λ i. both l (pat_back p i) (pat_back q i)

  pub pats_back : (ps : Pats) → pats_in (stored_pats ps) ≡ ps
  pats_back none = refl
  pats_back (more p ps) = λ i. more (pat_back p i) (pats_back ps i)

abbrev pub coded_pat : Coded Pat
coded_pat = code_by Gv coded_gv stored_pat pat_in pat_back
