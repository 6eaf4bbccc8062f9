-- How terms are stored, as trees of numbers that give them back.

use Rattle.std.specs.Prelude.{◌≡◌, zero, suc, refl}
use Rattle.std.proofs.Common.{ap}
use Rattle.std.specs.Coded.{Coded, code_by, coded_ℕ, coded×, coded_list}
use base.Stored.{Gv, gnil, gnum, gcons}
use Rattle.edb_lang.specs.Stored.{coded_gv, number, stored_int, int_in, int_back, stored_name, name_in, name_back}
use Rattle.edb_lang.specs.Pairs.{Pairs}
use Rattle.edb_lang.specs.Terms.{Datum, int, atom, reference, made, named, pid, tuple, nil, cons, Datums, none, more, Captures, uncaptured, captured}

abbrev mutual
  pub stored_datum : Datum → Gv
  stored_datum (int i) = gcons (gnum 0) (stored_int i)
  stored_datum (atom a) = gcons (gnum 1) (stored_name a)
  stored_datum (reference r) = gcons (gnum 2) (gnum r)
  stored_datum (made m v i a cs) = gcons (gnum 3) (gcons (stored_name m) (gcons (gnum v) (gcons (gnum i) (gcons (gnum a) (stored_captures cs)))))
  stored_datum (named m f a) = gcons (gnum 4) (gcons (stored_name m) (gcons (stored_name f) (gnum a)))
  stored_datum (pid p) = gcons (gnum 5) (gnum p)
  stored_datum (tuple ts) = gcons (gnum 6) (stored_datums ts)
  stored_datum nil = gnil
  stored_datum (cons h t) = gcons (gnum 7) (gcons (stored_datum h) (stored_datum t))

  pub stored_datums : Datums → Gv
  stored_datums none = gnil
  stored_datums (more t ts) = gcons (stored_datum t) (stored_datums ts)

  pub stored_captures : Captures → Gv
  stored_captures uncaptured = gnil
  stored_captures (captured x t cs) = gcons (stored_name x) (gcons (stored_datum t) (stored_captures cs))

abbrev mutual
  pub datum_in : Gv → Datum
  datum_in (gcons (gnum zero) i) = int (int_in i)
  datum_in (gcons (gnum (suc zero)) a) = atom (name_in a)
  datum_in (gcons (gnum (suc (suc zero))) r) = reference (number r)
  datum_in (gcons (gnum (suc (suc (suc zero)))) (gcons m (gcons v (gcons i (gcons a cs))))) = made (name_in m) (number v) (number i) (number a) (captures_in cs)
  datum_in (gcons (gnum (suc (suc (suc (suc zero))))) (gcons m (gcons f a))) = named (name_in m) (name_in f) (number a)
  datum_in (gcons (gnum (suc (suc (suc (suc (suc zero)))))) p) = pid (number p)
  datum_in (gcons (gnum (suc (suc (suc (suc (suc (suc zero))))))) ts) = tuple (datums_in ts)
  datum_in (gcons (gnum (suc (suc (suc (suc (suc (suc (suc zero)))))))) (gcons h t)) = cons (datum_in h) (datum_in t)
  datum_in _ = nil

  pub datums_in : Gv → Datums
  datums_in (gcons t ts) = more (datum_in t) (datums_in ts)
  datums_in _ = none

  captures_in : Gv → Captures
  captures_in (gcons x (gcons t cs)) = captured (name_in x) (datum_in t) (captures_in cs)
  captures_in _ = uncaptured

mutual
  pub datum_back : (t : Datum) → datum_in (stored_datum t) ≡ t
  datum_back (int i) = ap int (int_back i)
  datum_back (atom a) = ap atom (name_back a)
  datum_back (reference r) = refl
  datum_back (made m v i a cs) = λ j. made (name_back m j) v i a (captures_back cs j)
  datum_back (named m f a) = λ j. named (name_back m j) (name_back f j) a
  datum_back (pid p) = refl
  datum_back (tuple ts) = ap tuple (datums_back ts)
  datum_back nil = refl
  datum_back (cons h t) = λ j. cons (datum_back h j) (datum_back t j)

  pub datums_back : (ts : Datums) → datums_in (stored_datums ts) ≡ ts
  datums_back none = refl
  datums_back (more t ts) = λ j. more (datum_back t j) (datums_back ts j)

  pub captures_back : (cs : Captures) → captures_in (stored_captures cs) ≡ cs
  captures_back uncaptured = refl
  captures_back (captured x t cs) = λ j. captured (name_back x j) (datum_back t j) (captures_back cs j)

abbrev pub coded_datum : Coded Datum
coded_datum = code_by Gv coded_gv stored_datum datum_in datum_back

abbrev pub coded_pairs : Coded Pairs
coded_pairs = coded_list (coded× (coded_list coded_ℕ) coded_datum)
