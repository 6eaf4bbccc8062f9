-- What is written is read again: sums and their operands.

use Rattle.std.proofs.Common.{◌≡◌, ℕ, zero, suc, ◌≤◌, pos, negsuc, true, false, List, [], ◌∷◌, ◌++◌, length, Option, None, Some, refl, sym, ap, ◌∙◌, subst, append_assoc, arith}
use Rattle.std.specs.Prelude.{◌&&◌, ◌==◌, nat_lt}
use Rattle.std.proofs.lemmas.List.{append-nil}
use Rattle.std.proofs.lemmas.Bool.{eqb-true}
use Rattle.std.proofs.lemmas.Bool.Decides.{nat_tests}
use Rattle.edb_lang.specs.declared.small.Op.TheVariants.{Add}
use Rattle.edb_lang.specs.Syntax.{Pat, Exp, Exps, exps_of, line_of}
use Rattle.edb_lang.specs.Syntax as syntax
use Rattle.edb_scan.specs.declared.lexeme.Mark.{Mark}
use Rattle.edb_scan.specs.declared.lexeme.Mark.TheVariants as mark
use Rattle.edb_scan.specs.declared.lexeme.Token.TheVariants as token
use Rattle.edb_scan.specs.declared.lexeme.Placed.{Placed}
use Rattle.edb_small.specs.Grammar.{Written, sign, dot, written, all_written, rest_written}
use Rattle.edb_small.specs.Conditions.{is_capital, is_operand, is_sum, are_sums, depth, all_depth}
use Rattle.edb_small.specs.Descent.{Read, same_mark, is_mark, behind, atom_at, variable_in, others, closed, called_at, display_name_at, is_display, displayed_at, applied_at, beyond_int, operand_at, added_at, sum_with, sum_at, target_at}
use Rattle.edb_small.proofs.Counts.{depth_some}
use Rattle.edb_small.proofs.Spelled.{Each, run, comma, rest_run, both}
use Rattle.edb_small.proofs.Complete.{Meets, meets_as, Reads, behind_goes, behind_none, atom_reads, variable_none, variable_reads, IsRead, Parts, reads_all, closed_empty, closed_some}

-- What the functions on lists give, step by step.

module _ (sub : Read Exp) where
  sum_alone : (ts : List Placed) (e : Exp) (rest : List Placed) → operand_at sub ts ≡ Some (e, rest) → behind mark.Plus rest ≡ None → sum_with sub ts ≡ Some (e, rest)
  unfolding sum_with
  sum_alone ts e rest o n =
      let alone_is : Option (Exp × List Placed) = Some (e, rest) in
      let P : Option (List Placed) → Type 0 = λ b. ◌≡◌ {A = Option (Exp × List Placed)} (elim b as (λ k. Option (Exp × List Placed)) [ Some after ↦ added_at sub e after | None ↦ alone_is ]) alone_is in
      rw o (subst P (sym n) refl)

  sum_added : (ts : List Placed) (e : Exp) (rest after : List Placed) (answer : Option (Exp × List Placed))
      → operand_at sub ts ≡ Some (e, rest) → behind mark.Plus rest ≡ Some after → added_at sub e after ≡ answer → sum_with sub ts ≡ answer
  unfolding sum_with
  sum_added ts e rest after answer o n k =
      let alone_is : Option (Exp × List Placed) = Some (e, rest) in
      let P : Option (List Placed) → Type 0 = λ b. ◌≡◌ {A = Option (Exp × List Placed)} (elim b as (λ k. Option (Exp × List Placed)) [ Some vs ↦ added_at sub e vs | None ↦ alone_is ]) answer in
      rw o (subst P (sym n) k)

  added : (a b : Exp) (ts rest : List Placed) → operand_at sub ts ≡ Some (b, rest) → added_at sub a ts ≡ Some (syntax.binary (line_of a) Add a b, rest)
  unfolding added_at
  added a b ts rest o = rw o refl

  applied_called : (l : ℕ) (f : List ℕ) (ts us : List Placed) (es : List Exp) (rest : List Placed) → behind mark.ParenOpen ts ≡ Some us → closed sub mark.ParenClose us ≡ Some (es, rest)
      → applied_at sub l f ts ≡ Some (syntax.call l f (exps_of es), rest)
  unfolding applied_at called_at
  applied_called l f ts us es rest n k = rw (n, applied_at) (rw k refl)

  applied_displayed : (l j : ℕ) (m f : List ℕ) (ts us vs xs ys rest : List Placed) (e : Exp) → behind mark.ParenOpen ts ≡ None → behind mark.Colon ts ≡ Some us
      → atom_at us ≡ Some ((j, f), vs) → behind mark.ParenOpen vs ≡ Some xs → is_display m f ≡ true → sub xs ≡ Some (e, ys) → behind mark.ParenClose ys ≡ Some rest
      → applied_at sub l m ts ≡ Some (syntax.remote l (syntax.atom l m) (syntax.atom j f) (syntax.more e syntax.none), rest)
  unfolding applied_at displayed_at display_name_at
  applied_displayed l j m f ts us vs xs ys rest e none colon name paren is value end = rw (none, applied_at) (rw (colon, name, paren, is, value, end) refl)

-- what may stand behind a sum
pub data Ends : List Written → Type 0 where
  at_comma : (ws : List Written) → Ends (sign mark.Comma ∷ ws)
  at_close : (ws : List Written) → Ends (sign mark.ParenClose ∷ ws)
  at_dot : (ws : List Written) → Ends (dot ∷ ws)

pub no_plus : (ws : List Written) → Ends ws → (ts : List Placed) → Meets ts ws → behind mark.Plus ts ≡ None
unfolding same_mark
no_plus ws (at_comma vs) ts h = behind_none mark.Plus (sign mark.Comma) ts vs refl h
no_plus ws (at_close vs) ts h = behind_none mark.Plus (sign mark.ParenClose) ts vs refl h
no_plus ws (at_dot vs) ts h = behind_none mark.Plus dot ts vs refl h

pub no_match : (ws : List Written) → Ends ws → (ts : List Placed) → Meets ts ws → behind mark.Match ts ≡ None
unfolding same_mark
no_match ws (at_comma vs) ts h = behind_none mark.Match (sign mark.Comma) ts vs refl h
no_match ws (at_close vs) ts h = behind_none mark.Match (sign mark.ParenClose) ts vs refl h
no_match ws (at_dot vs) ts h = behind_none mark.Match dot ts vs refl h

pub comma_close : is_mark mark.Comma (token.Mark mark.ParenClose) ≡ false
unfolding same_mark
comma_close = refl

open_colon : is_mark mark.ParenOpen (token.Mark mark.Colon) ≡ false
unfolding same_mark
open_colon = refl

match_plus : is_mark mark.Match (token.Mark mark.Plus) ≡ false
unfolding same_mark
match_plus = refl

-- Which token an operand begins with.

operand_no_mark : (x : Mark) (e : Exp) (ts : List Placed) (tail : List Written) → is_operand e ≡ true → Meets ts (written e ++ tail) → behind x ts ≡ None
operand_no_mark x (syntax.int l (pos n)) ts tail o h = behind_none x (Some l, token.Int n) ts tail refl h
operand_no_mark x (syntax.int l (negsuc n)) ts tail o h = absurd (cc)
operand_no_mark x (syntax.atom l a) ts tail o h = absurd (cc)
operand_no_mark x (syntax.variable l y) ts tail o h = behind_none x (Some l, token.Var y) ts tail refl h
operand_no_mark x (syntax.match l p e) ts tail o h = absurd (cc)
operand_no_mark x (syntax.binary l op a b) ts tail o h = absurd (cc)
operand_no_mark x (syntax.call l f es) ts tail o h = behind_none x (Some l, token.Atom f) ts ((sign mark.ParenOpen ∷ (all_written es ++ (sign mark.ParenClose ∷ []))) ++ tail) refl h
operand_no_mark x (syntax.remote l (syntax.atom k m) f es) ts tail o h =
    behind_none x (Some k, token.Atom m) ts ((sign mark.Colon ∷ (written f ++ (sign mark.ParenOpen ∷ (all_written es ++ (sign mark.ParenClose ∷ []))))) ++ tail) refl h
operand_no_mark x (syntax.remote l m f es) ts tail o h = absurd (cc)

sum_no_mark : (x : Mark) (e : Exp) (ts : List Placed) (tail : List Written) → is_sum e ≡ true → Meets ts (written e ++ tail) → behind x ts ≡ None
sum_no_mark x (syntax.binary l Add a b) ts tail s h =
    let good = both (l == line_of a) (is_operand a && is_operand b) s in
    let operands = both (is_operand a) (is_operand b) good.1 in
    operand_no_mark x a ts ((sign mark.Plus ∷ written b) ++ tail) operands.0 (meets_as ts ((written a ++ (sign mark.Plus ∷ written b)) ++ tail) (written a ++ ((sign mark.Plus ∷ written b) ++ tail)) (append_assoc (written a) (sign mark.Plus ∷ written b) tail) h)
sum_no_mark x (syntax.int l i) ts tail s h = operand_no_mark x (syntax.int l i) ts tail s h
sum_no_mark x (syntax.atom l a) ts tail s h = absurd (cc)
sum_no_mark x (syntax.variable l y) ts tail s h = operand_no_mark x (syntax.variable l y) ts tail s h
sum_no_mark x (syntax.match l p e) ts tail s h = absurd (cc)
sum_no_mark x (syntax.call l f es) ts tail s h = operand_no_mark x (syntax.call l f es) ts tail s h
sum_no_mark x (syntax.remote l m f es) ts tail s h = operand_no_mark x (syntax.remote l m f es) ts tail s h

-- no line that is a sum begins with a variable and `=`
no_variable : (w : Written) (ts : List Placed) (ws : List Written) → ((l : ℕ) (ps : List Placed) → variable_in l w.1 ps ≡ None) → Meets ts (w ∷ ws) → target_at ts ≡ None
unfolding target_at
no_variable w ts ws e h = rw (variable_none w ts ws e h) refl

operand_no_target : (e : Exp) (ts : List Placed) (tail : List Written) → is_operand e ≡ true → ((us : List Placed) → Meets us tail → behind mark.Match us ≡ None)
    → Meets ts (written e ++ tail) → target_at ts ≡ None
unfolding target_at
operand_no_target (syntax.int l (pos n)) ts tail o none h = no_variable (Some l, token.Int n) ts tail (λ k ps. refl) h
operand_no_target (syntax.int l (negsuc n)) ts tail o none h = absurd (cc)
operand_no_target (syntax.atom l a) ts tail o none h = absurd (cc)
operand_no_target (syntax.variable l y) ts tail o none h = let r = variable_reads l y ts tail o h in rw (r.found, none r.rest r.meets) refl
operand_no_target (syntax.match l p e) ts tail o none h = absurd (cc)
operand_no_target (syntax.binary l op a b) ts tail o none h = absurd (cc)
operand_no_target (syntax.call l f es) ts tail o none h = no_variable (Some l, token.Atom f) ts ((sign mark.ParenOpen ∷ (all_written es ++ (sign mark.ParenClose ∷ []))) ++ tail) (λ k ps. refl) h
operand_no_target (syntax.remote l (syntax.atom k m) f es) ts tail o none h =
    no_variable (Some k, token.Atom m) ts ((sign mark.Colon ∷ (written f ++ (sign mark.ParenOpen ∷ (all_written es ++ (sign mark.ParenClose ∷ []))))) ++ tail) (λ k ps. refl) h
operand_no_target (syntax.remote l m f es) ts tail o none h = absurd (cc)

pub sum_no_target : (e : Exp) (ts : List Placed) (tail : List Written) → is_sum e ≡ true → Ends tail → Meets ts (written e ++ tail) → target_at ts ≡ None
sum_no_target (syntax.binary l Add a b) ts tail s ends h =
    let good = both (l == line_of a) (is_operand a && is_operand b) s in
    let operands = both (is_operand a) (is_operand b) good.1 in
    operand_no_target a ts ((sign mark.Plus ∷ written b) ++ tail) operands.0 (λ us k. behind_none mark.Match (sign mark.Plus) us (written b ++ tail) match_plus k)
    (meets_as ts ((written a ++ (sign mark.Plus ∷ written b)) ++ tail) (written a ++ ((sign mark.Plus ∷ written b) ++ tail)) (append_assoc (written a) (sign mark.Plus ∷ written b) tail) h)
sum_no_target (syntax.int l i) ts tail s ends h = operand_no_target (syntax.int l i) ts tail s (no_match tail ends) h
sum_no_target (syntax.atom l a) ts tail s ends h = absurd (cc)
sum_no_target (syntax.variable l y) ts tail s ends h = operand_no_target (syntax.variable l y) ts tail s (no_match tail ends) h
sum_no_target (syntax.match l p e) ts tail s ends h = absurd (cc)
sum_no_target (syntax.call l f es) ts tail s ends h = operand_no_target (syntax.call l f es) ts tail s (no_match tail ends) h
sum_no_target (syntax.remote l m f es) ts tail s ends h = operand_no_target (syntax.remote l m f es) ts tail s (no_match tail ends) h

-- Sums are read again, at each number of levels from their depth on.

abbrev ReadsOperand : Exp → Type 0
ReadsOperand e = (n : ℕ) → depth e ≤ suc n → (ts : List Placed) (tail : List Written) → Meets ts (written e ++ tail) → Reads (operand_at (sum_at n) ts) e tail

abbrev ReadsSum : Exp → Type 0
ReadsSum e = (n : ℕ) → depth e ≤ n → (ts : List Placed) (tail : List Written) → Ends tail → Meets ts (written e ++ tail) → Reads (sum_at n ts) e tail

pub record Again (e : Exp) : Type 0 where
  pub operand : is_operand e ≡ true → ReadsOperand e
  pub sum : is_sum e ≡ true → ReadsSum e

abbrev pub AllAgain : Exps → Type 0
AllAgain syntax.none = Unit {0}
AllAgain (syntax.more e es) = Again e × AllAgain es

-- an operand by itself is a sum
alone : (e : Exp) → ReadsOperand e → ReadsSum e
unfolding sum_at
alone e r zero d ts tail ends h = absurd (omega (arith, depth_some e))
alone e r (suc n) d ts tail ends h =
    let one = r n d ts tail h in
    record { rest = one.rest; found = sum_alone (sum_at n) ts e one.rest one.found (no_plus tail ends one.rest one.meets); meets = one.meets }

added_reads : (l : ℕ) (a b : Exp) → Again a → Again b → is_sum (syntax.binary l Add a b) ≡ true → ReadsSum (syntax.binary l Add a b)
unfolding sum_at
added_reads l a b x y s zero d ts tail ends h = absurd (omega arith)
added_reads l a b x y s (suc n) d ts tail ends h =
    let good = both (l == line_of a) (is_operand a && is_operand b) s in
    let operands = both (is_operand a) (is_operand b) good.1 in
    let here = meets_as ts ((written a ++ (sign mark.Plus ∷ written b)) ++ tail) (written a ++ ((sign mark.Plus ∷ written b) ++ tail)) (append_assoc (written a) (sign mark.Plus ∷ written b) tail) h in
    let left_depth : depth a ≤ suc n = omega arith in
    let right_depth : depth b ≤ suc n = omega arith in
    let left = x.operand operands.0 n left_depth ts (sign mark.Plus ∷ (written b ++ tail)) here in
    let plus = behind_goes mark.Plus left.rest (written b ++ tail) left.meets in
    let right = y.operand operands.1 n right_depth plus.rest tail plus.meets in
    record {
      rest = right.rest;
      found = sum_added (sum_at n) ts a left.rest plus.rest (Some (syntax.binary l Add a b, right.rest)) left.found plus.found
          (added (sum_at n) a b plus.rest right.rest right.found ∙ ap (λ k. Some (syntax.binary k Add a b, right.rest)) (sym (eqb-true l (line_of a) good.0)));
      meets = right.meets;
    }

abbrev pub list_of : Exps → List Exp
list_of syntax.none = []
list_of (syntax.more e es) = e ∷ list_of es

pub list_back : (es : Exps) → exps_of (list_of es) ≡ es
list_back syntax.none = refl
list_back (syntax.more e es) = ap (λ fs. syntax.more e fs) (list_back es)

pub rest_of_list : (es : Exps) → rest_written es ≡ run Exp comma written (list_of es)
rest_of_list es = ap rest_written (sym (list_back es)) ∙ rest_run (list_of es)

each_reads : (n : ℕ) (es : Exps) → AllAgain es → are_sums es ≡ true → all_depth es ≤ n → Each Exp (IsRead Exp (sum_at n) written (behind mark.Comma) comma Ends) (list_of es)
each_reads n syntax.none all s d = tt
each_reads n (syntax.more e es) all s d =
    let good = both (is_sum e) (are_sums es) s in
    let first_depth : depth e ≤ n = omega arith in
    (record { reads = λ ts tail ends h. all.0.sum good.0 n first_depth ts tail ends h }, each_reads n es all.1 good.1 (omega arith))

pub parts_to : (f : Read Exp) (tail : List Written) → Ends tail → ((ts : List Placed) → Meets ts tail → behind mark.Comma ts ≡ None) → Parts Exp f written (behind mark.Comma) comma Ends tail
parts_to f tail ends none = record {
  goes = λ x ts ws h. behind_goes mark.Comma ts (written x ++ ws) h;
  grows = λ x. omega arith;
  follows = λ x ws. at_comma (written x ++ ws);
  follows_end = ends;
  ends = none;
}

after_first : (es : Exps) (tail : List Written) → Ends (rest_written es ++ (sign mark.ParenClose ∷ tail))
after_first syntax.none tail = at_close tail
after_first (syntax.more e es) tail = at_comma ((written e ++ rest_written es) ++ (sign mark.ParenClose ∷ tail))

arguments_read : (n : ℕ) (es : Exps) → AllAgain es → are_sums es ≡ true → all_depth es ≤ n → (ts : List Placed) (tail : List Written)
    → Meets ts ((all_written es ++ (sign mark.ParenClose ∷ [])) ++ tail) → Reads (closed (sum_at n) mark.ParenClose ts) (list_of es) tail
unfolding others
arguments_read n syntax.none all s d ts tail h =
    let end = behind_goes mark.ParenClose ts tail h in
    record { rest = end.rest; found = closed_empty Exp (sum_at n) mark.ParenClose ts end.rest end.found; meets = end.meets }
arguments_read n (syntax.more e es) all s d ts tail h =
    let good = both (is_sum e) (are_sums es) s in
    let first_depth : depth e ≤ n = omega arith in
    let rest_depth : all_depth es ≤ n = omega arith in
    let close = sign mark.ParenClose in
    let grouped : ((written e ++ rest_written es) ++ (close ∷ [])) ++ tail ≡ written e ++ (rest_written es ++ (close ∷ tail)) = simp append_assoc in
    let here = meets_as ts (((written e ++ rest_written es) ++ (close ∷ [])) ++ tail) (written e ++ (rest_written es ++ (close ∷ tail))) grouped h in
    let none = sum_no_mark mark.ParenClose e ts (rest_written es ++ (close ∷ tail)) good.0 here in
    let one = all.0.sum good.0 n first_depth ts (rest_written es ++ (close ∷ tail)) (after_first es tail) here in
    let rest_meets = meets_as one.rest (rest_written es ++ (close ∷ tail)) (run Exp comma written (list_of es) ++ (close ∷ tail)) (ap (λ ws. ws ++ (close ∷ tail)) (rest_of_list es)) one.meets in
    let parts = parts_to (sum_at n) (close ∷ tail) (at_close tail) (λ us k. behind_none mark.Comma close us tail comma_close k) in
    let others_found = reads_all Exp (sum_at n) written (behind mark.Comma) comma Ends (close ∷ tail) parts (list_of es) (each_reads n es all.1 good.1 rest_depth)
    (suc (length one.rest)) (e ∷ []) one.rest (omega arith) rest_meets in
    let end = behind_goes mark.ParenClose others_found.rest tail others_found.meets in
    record { rest = end.rest; found = closed_some Exp (sum_at n) mark.ParenClose ts one.rest others_found.rest end.rest e (e ∷ list_of es) none one.found others_found.found end.found; meets = end.meets }

call_reads : (l : ℕ) (f : List ℕ) (es : Exps) → AllAgain es → are_sums es ≡ true → ReadsOperand (syntax.call l f es)
unfolding operand_at
call_reads l f es all s n d [] tail h = absurd h
call_reads l f es all s n d (p ∷ ps) tail h =
    let paren = behind_goes mark.ParenOpen ps ((all_written es ++ (sign mark.ParenClose ∷ [])) ++ tail) h.3 in
    let args_depth : all_depth es ≤ n = omega arith in
    let args = arguments_read n es all s args_depth paren.rest tail paren.meets in
    let tree : syntax.call p.line f (exps_of (list_of es)) ≡ syntax.call l f es = λ i. syntax.call (sym h.1 i) f (list_back es i) in
    record { rest = args.rest; found = rw h.0 (applied_called (sum_at n) p.line f ps paren.rest (list_of es) args.rest paren.found args.found ∙ ap (λ e. Some (e, args.rest)) tree); meets = args.meets }

display_reads : (l k j : ℕ) (m f : List ℕ) (e : Exp) → Again e → is_operand (syntax.remote l (syntax.atom k m) (syntax.atom j f) (syntax.more e syntax.none)) ≡ true
    → ReadsOperand (syntax.remote l (syntax.atom k m) (syntax.atom j f) (syntax.more e syntax.none))
unfolding operand_at
display_reads l k j m f e x o n d [] tail h = absurd h
display_reads l k j m f e x o n d (p ∷ ps) tail h =
    let good = both (l == k && is_display m f) (is_sum e) o in
    let names = both (l == k) (is_display m f) good.0 in
    let close = sign mark.ParenClose in
    let args : List Written = ((written e ++ []) ++ (close ∷ [])) ++ tail in
    let none = behind_none mark.ParenOpen (sign mark.Colon) ps ((Some j, token.Atom f) ∷ (sign mark.ParenOpen ∷ args)) open_colon h.3 in
    let colon = behind_goes mark.Colon ps ((Some j, token.Atom f) ∷ (sign mark.ParenOpen ∷ args)) h.3 in
    let name = atom_reads j f colon.rest (sign mark.ParenOpen ∷ args) colon.meets in
    let paren = behind_goes mark.ParenOpen name.rest args name.meets in
    let grouped : args ≡ written e ++ (close ∷ tail) = simp (append_assoc, append-nil) in
    let arg_depth : depth e ≤ n = omega arith in
    let value = x.sum good.1 n arg_depth paren.rest (close ∷ tail) (at_close tail) (meets_as paren.rest args (written e ++ (close ∷ tail)) grouped paren.meets) in
    let end = behind_goes mark.ParenClose value.rest tail value.meets in
    let line_l : p.line ≡ l = sym h.1 ∙ sym (eqb-true l k names.0) in
    let tree : syntax.remote p.line (syntax.atom p.line m) (syntax.atom j f) (syntax.more e syntax.none) ≡ syntax.remote l (syntax.atom k m) (syntax.atom j f) (syntax.more e syntax.none)
    = λ i. syntax.remote (line_l i) (syntax.atom (sym h.1 i) m) (syntax.atom j f) (syntax.more e syntax.none) in
    record {
      rest = end.rest;
      found = rw h.0 (applied_displayed (sum_at n) p.line j m f ps colon.rest name.rest paren.rest value.rest end.rest e none colon.found name.found paren.found names.1 value.found end.found
          ∙ ap (λ z. Some (z, end.rest)) tree);
      meets = end.meets;
    }

int_reads : (l n : ℕ) → ReadsOperand (syntax.int l (pos n))
unfolding operand_at
int_reads l n levels d [] tail h = absurd h
int_reads l n levels d (p ∷ ps) tail h =
    let fits : nat_lt n beyond_int ≡ true = grind (arith, nat_tests, h.2) in
    record { rest = ps; found = rw (h.0, fits) (ap (λ k. Some (syntax.int k (pos n), ps)) (sym h.1)); meets = h.3 }

variable_operand : (l : ℕ) (y : List ℕ) → is_capital y ≡ true → ReadsOperand (syntax.variable l y)
unfolding operand_at
variable_operand l y c levels d [] tail h = absurd h
variable_operand l y c levels d (p ∷ ps) tail h =
    record { rest = ps; found = rw (h.0, c) (ap (λ k. Some (syntax.variable k y, ps)) (sym h.1)); meets = h.3 }

of_operand : (e : Exp) → is_sum e ≡ is_operand e → (is_operand e ≡ true → ReadsOperand e) → Again e
of_operand e same r = record { operand = r; sum = λ s. alone e (r (sym same ∙ s)) }

remote_again : (l : ℕ) (m f : Exp) (es : Exps) → AllAgain es → Again (syntax.remote l m f es)
remote_again l (syntax.atom k m) (syntax.atom j f) (syntax.more e syntax.none) all =
    of_operand (syntax.remote l (syntax.atom k m) (syntax.atom j f) (syntax.more e syntax.none)) refl (λ o. display_reads l k j m f e all.0 o)
remote_again l m f es all = record { operand = λ o. absurd (cc); sum = λ s. absurd (cc) }

mutual
  pub again : (e : Exp) → Again e
  again (syntax.int l (pos n)) = of_operand (syntax.int l (pos n)) refl (λ o. int_reads l n)
  again (syntax.int l (negsuc n)) = record { operand = λ o. absurd (cc); sum = λ s. absurd (cc) }
  again (syntax.atom l a) = record { operand = λ o. absurd (cc); sum = λ s. absurd (cc) }
  again (syntax.variable l y) = of_operand (syntax.variable l y) refl (λ o. variable_operand l y o)
  again (syntax.match l p e) = record { operand = λ o. absurd (cc); sum = λ s. absurd (cc) }
  again (syntax.binary l Add a b) = record { operand = λ o. absurd (cc); sum = λ s. added_reads l a b (again a) (again b) s }
  again (syntax.call l f es) = of_operand (syntax.call l f es) refl (λ o. call_reads l f es (all_again es) o)
  again (syntax.remote l m f es) = remote_again l m f es (all_again es)

  pub all_again : (es : Exps) → AllAgain es
  all_again syntax.none = tt
  all_again (syntax.more e es) = (again e, all_again es)
