-- The trees that are read agree with their spelling, and each form stands where it may.

use Rattle.std.proofs.Common.{◌≡◌, ◌⊎◌, inl, inr, ℕ, zero, suc, pos, true, List, [], ◌∷◌, ◌++◌, length, Option, None, Some, refl, sym, ap, ◌∙◌, subst, append_assoc}
use Rattle.std.specs.Prelude.{◌&&◌, ◌==◌, nat_lt}
use Rattle.std.specs.Option.{option_and_then}
use Rattle.std.proofs.lemmas.Option.{cond_some}
use Rattle.std.proofs.lemmas.List.{append-nil}
use Rattle.std.proofs.lemmas.Bool.{eq-eqb}
use Rattle.std.specs.Cmp.Derive.{both_true}
use Rattle.edb_lang.specs.declared.small.Op.TheVariants.{Add}
use Rattle.edb_lang.specs.Syntax.{Pat, Exp, Exps, exps_of, line_of, FunctionTree, ModuleTree}
use Rattle.edb_lang.specs.Syntax as syntax
use Rattle.edb_scan.specs.declared.lexeme.Mark.{Mark}
use Rattle.edb_scan.specs.declared.lexeme.Mark.TheVariants as mark
use Rattle.edb_scan.specs.declared.lexeme.Token.{Token}
use Rattle.edb_scan.specs.declared.lexeme.Token.TheVariants as token
use Rattle.edb_scan.specs.declared.lexeme.Placed.{Placed}
use Rattle.edb_small.specs.Grammar.{Written, sign, Agrees, written, all_written}
use Rattle.edb_small.specs.Descent.{Read, Found, behind, atom_at, more, others, some_closed, closed, called_at, display_name_at, is_display, displayed_at, applied_at, beyond_int, operand_in, operand_at, added_at, sum_with, sum_at}
use Rattle.edb_small.specs.Conditions.{is_capital, is_operand, is_sum, are_sums}
use Rattle.edb_small.proofs.Spelled.{Each, run, comma, rest_run, then_some}
use Rattle.edb_small.proofs.Sound.{Took, took_one, took_then, took_as, behind_took, took_lined, atom_is}

-- what a reader finds is good, and agrees with its spelling
abbrev pub Sound : (A : Type 0) → Read A → (A → Type 0) → (A → List Written) → Type 0
Sound A f Good w = (ts : List Placed) (q : A × List Placed) → f ts ≡ Some q → Good q.0 × Took ts q.1 (w q.0)

nothing_took : (ts us : List Placed) → ts ≡ us → Took ts us []
nothing_took ts us e = record { agrees = λ tail h. subst (λ xs. Agrees xs tail) (sym e) h }

-- Lists.

module _ (A : Type 0) (f : Read A) (Good : A → Type 0) (w : A → List Written) (sound : Sound A f Good w)
    (next : List Placed → Option (List Placed)) (before : List Written) (parted : (ts us : List Placed) → next ts ≡ Some us → Took ts us before) where
  -- what is found behind these things
  pub record Ran (xs : List A) (ts : List Placed) (q : List A × List Placed) : Type 0 where
    pub found : List A
    pub all_are : q.0 ≡ xs ++ found
    pub good : Each A Good found
    pub took : Took ts q.1 (run A before w found)
    pub ended : next q.1 ≡ None

  turn : ℕ → List A → List Placed → Option (List Placed) → Option (List A × List Placed)
  turn turns xs ts o = elim o [ None ↦ Some (xs, ts) | Some us ↦ option_and_then (λ q. more next f turns (xs ++ (q.0 ∷ [])) q.1) (f us) ]

  ran_turn : (turns : ℕ) → ((xs : List A) (ts : List Placed) (q : List A × List Placed) → more next f turns xs ts ≡ Some q → Ran xs ts q)
      → (o : Option (List Placed)) (xs : List A) (ts : List Placed) (q : List A × List Placed) → next ts ≡ o → turn turns xs ts o ≡ Some q → Ran xs ts q
  unfolding turn
  ran_turn turns again None xs ts q n e =
      let is : (xs, ts) ≡ q = cc in
      record { found = []; all_are = sym (ap (λ z. z.0) is) ∙ sym (append-nil xs); good = tt; took = nothing_took ts q.1 (ap (λ z. z.1) is); ended = ap (λ z. next z.1) (sym is) ∙ n }
  ran_turn turns again (Some us) xs ts q n e =
      let x = then_some (λ z. more next f turns (xs ++ (z.0 ∷ [])) z.1) (f us) q e in
      let one = sound us x.0 x.1 in
      let rest = again (xs ++ (x.0.0 ∷ [])) x.0.1 q x.2 in
      record {
        found = x.0.0 ∷ rest.found;
        all_are = rest.all_are ∙ append_assoc xs (x.0.0 ∷ []) rest.found;
        good = (one.0, rest.good);
        took = took_then ts us q.1 before (w x.0.0 ++ run A before w rest.found) (parted ts us n) (took_then us x.0.1 q.1 (w x.0.0) (run A before w rest.found) one.1 rest.took);
        ended = rest.ended;
      }

  pub ran : (turns : ℕ) (xs : List A) (ts : List Placed) (q : List A × List Placed) → more next f turns xs ts ≡ Some q → Ran xs ts q
  unfolding more turn
  ran zero xs ts q e = absurd (cc)
  ran (suc turns) xs ts q e = ran_turn turns (ran turns) (next ts) xs ts q refl e

module _ (A : Type 0) (f : Read A) (Good : A → Type 0) (w : A → List Written) (sound : Sound A f Good w) where
  pub others_ran : (xs : List A) (ts : List Placed) (q : List A × List Placed) → others f xs ts ≡ Some q → Ran A f Good w sound (behind mark.Comma) comma (behind_took mark.Comma) xs ts q
  unfolding others
  others_ran xs ts q e = ran A f Good w sound (behind mark.Comma) comma (behind_took mark.Comma) (suc (length ts)) xs ts q e

  -- what a list in brackets takes
  pub record IsList (close : Mark) (ts : List Placed) (q : List A × List Placed) : Type 0 where
    pub head : A
    pub rest : List A
    pub all_are : q.0 ≡ head ∷ rest
    pub good : Good head
    pub rest_good : Each A Good rest
    pub took : Took ts q.1 ((w head ++ run A comma w rest) ++ (sign close ∷ []))

  pub some_closed_is : (close : Mark) (ts : List Placed) (q : List A × List Placed) → some_closed f close ts ≡ Some q → IsList close ts q
  unfolding some_closed
  some_closed_is close ts q e =
      let x = then_some _ (f ts) q e in
      let xs = then_some _ (others f (x.0.0 ∷ []) x.0.1) q x.2 in
      let end = then_some _ (behind close xs.0.1) q xs.2 in
      let is : (xs.0.0, end.0) ≡ q = cc in
      let one = sound ts x.0 x.1 in
      let ran = others_ran (x.0.0 ∷ []) x.0.1 xs.0 xs.1 in
      let took_items = took_then ts x.0.1 xs.0.1 (w x.0.0) (run A comma w ran.found) one.1 ran.took in
      let took_all = took_then ts xs.0.1 end.0 (w x.0.0 ++ run A comma w ran.found) (sign close ∷ []) took_items (behind_took close xs.0.1 end.0 end.1) in
      record {
        head = x.0.0;
        rest = ran.found;
        all_are = sym (ap (λ z. z.0) is) ∙ ran.all_are;
        good = one.0;
        rest_good = ran.good;
        took = subst (λ us. Took ts us ((w x.0.0 ++ run A comma w ran.found) ++ (sign close ∷ []))) (ap (λ z. z.1) is) took_all;
      }

  closed_or : (close : Mark) (ts : List Placed) (q : List A × List Placed) (o : Option (List Placed)) → behind close ts ≡ o
      → (elim o [ Some rest ↦ Some ([], rest) | None ↦ some_closed f close ts ]) ≡ Some q
      → ((q.0 ≡ []) × Took ts q.1 (sign close ∷ [])) ⊎ IsList close ts q
  closed_or close ts q None n e = inr (some_closed_is close ts q e)
  closed_or close ts q (Some rest) n e =
      let is : ([], rest) ≡ q = cc in
      inl (sym (ap (λ z. z.0) is), subst (λ us. Took ts us (sign close ∷ [])) (ap (λ z. z.1) is) (behind_took close ts rest n))

  pub closed_is : (close : Mark) (ts : List Placed) (q : List A × List Placed) → closed f close ts ≡ Some q
      → ((q.0 ≡ []) × Took ts q.1 (sign close ∷ [])) ⊎ IsList close ts q
  unfolding closed
  closed_is close ts q e = closed_or close ts q (behind close ts) refl e

-- Expressions.

abbrev pub IsSum : Exp → Type 0
IsSum e = is_sum e ≡ true

abbrev pub IsOperand : Exp → Type 0
IsOperand e = (is_operand e ≡ true) × (is_sum e ≡ true)

sums_all : (es : List Exp) → Each Exp IsSum es → are_sums (exps_of es) ≡ true
sums_all [] g = refl
sums_all (e ∷ es) g = both_true g.0 (sums_all es g.1)

module _ (sub : Read Exp) (sound : Sound Exp sub IsSum written) where
  Listed : List Placed → List Exp → List Placed → Type 0
  Listed ts es rest = (are_sums (exps_of es) ≡ true) × Took ts rest (all_written (exps_of es) ++ (sign mark.ParenClose ∷ []))

  listed : (ts : List Placed) (q : List Exp × List Placed)
      → ((q.0 ≡ []) × Took ts q.1 (sign mark.ParenClose ∷ [])) ⊎ IsList Exp sub IsSum written sound mark.ParenClose ts q → Listed ts q.0 q.1
  unfolding Listed
  listed ts q (inl h) = subst (λ es. Listed ts es q.1) (sym h.0) (refl, h.1)
  listed ts q (inr h) =
      let spelled : written h.head ++ run Exp comma written h.rest ≡ all_written (exps_of (h.head ∷ h.rest)) = sym (ap (λ ws. written h.head ++ ws) (rest_run h.rest)) in
      let took = subst (λ ws. Took ts q.1 (ws ++ (sign mark.ParenClose ∷ []))) spelled h.took in
      subst (λ es. Listed ts es q.1) (sym h.all_are) (both_true h.good (sums_all h.rest h.rest_good), took)

  arguments_are : (ts : List Placed) (q : List Exp × List Placed) → closed sub mark.ParenClose ts ≡ Some q
      → (are_sums (exps_of q.0) ≡ true) × Took ts q.1 (all_written (exps_of q.0) ++ (sign mark.ParenClose ∷ []))
  unfolding Listed
  arguments_are ts q e = listed ts q (closed_is Exp sub IsSum written sound mark.ParenClose ts q e)

  called_is : (l : ℕ) (f : List ℕ) (ts us : List Placed) (q : Exp × List Placed) → Took ts us ((Some l, token.Atom f) ∷ (sign mark.ParenOpen ∷ []))
      → called_at sub l f us ≡ Some q → IsOperand q.0 × Took ts q.1 (written q.0)
  unfolding called_at
  called_is l f ts us q t e =
      let es = then_some _ (closed sub mark.ParenClose us) q e in
      let is : (syntax.call l f (exps_of es.0.0), es.0.1) ≡ q = cc in
      let are = arguments_are us es.0 es.1 in
      let took = took_then ts us es.0.1 ((Some l, token.Atom f) ∷ (sign mark.ParenOpen ∷ [])) (all_written (exps_of es.0.0) ++ (sign mark.ParenClose ∷ [])) t are.1 in
      subst (λ (z : Exp × List Placed). IsOperand z.0 × Took ts z.1 (written z.0)) is ((are.0, are.0), took)

  display_name_is : (m : List ℕ) (ts : List Placed) (q : Found × List Placed) → display_name_at m ts ≡ Some q
      → (is_display m q.0.1 ≡ true) × Took ts q.1 (sign mark.Colon ∷ ((Some q.0.0, token.Atom q.0.1) ∷ (sign mark.ParenOpen ∷ [])))
  unfolding display_name_at
  display_name_is m ts q e =
      let named = then_some _ (behind mark.Colon ts) q e in
      let f = then_some _ (atom_at named.0) q named.2 in
      let inner = then_some _ (behind mark.ParenOpen f.0.1) q f.2 in
      let h = cond_some (is_display m f.0.0.1) (f.0.0, inner.0) q inner.2 in
      let name_took = took_lined named.0 f.0.1 (token.Atom f.0.0.1) f.0.0.0 (atom_is named.0 f.0 f.1) in
      let two = took_then named.0 f.0.1 inner.0 ((Some f.0.0.0, token.Atom f.0.0.1) ∷ []) (sign mark.ParenOpen ∷ []) name_took (behind_took mark.ParenOpen f.0.1 inner.0 inner.1) in
      let three = took_then ts named.0 inner.0 (sign mark.Colon ∷ []) ((Some f.0.0.0, token.Atom f.0.0.1) ∷ (sign mark.ParenOpen ∷ [])) (behind_took mark.Colon ts named.0 named.1) two in
      subst (λ (z : Found × List Placed). (is_display m z.0.1 ≡ true) × Took ts z.1 (sign mark.Colon ∷ ((Some z.0.0, token.Atom z.0.1) ∷ (sign mark.ParenOpen ∷ [])))) h.1 (h.0, three)

  displayed_is : (l : ℕ) (m : List ℕ) (ts us : List Placed) (q : Exp × List Placed) → Took ts us ((Some l, token.Atom m) ∷ [])
      → displayed_at sub l m us ≡ Some q → IsOperand q.0 × Took ts q.1 (written q.0)
  unfolding displayed_at
  displayed_is l m ts us q t e =
      let f = then_some _ (display_name_at m us) q e in
      let x = then_some _ (sub f.0.1) q f.2 in
      let end = then_some _ (behind mark.ParenClose x.0.1) q x.2 in
      let is : (syntax.remote l (syntax.atom l m) (syntax.atom f.0.0.0 f.0.0.1) (syntax.more x.0.0 syntax.none), end.0) ≡ q = cc in
      let name = display_name_is m us f.0 f.1 in
      let one = sound f.0.1 x.0 x.1 in
      let close = sign mark.ParenClose ∷ [] in
      let inner = took_then f.0.1 x.0.1 end.0 (written x.0.0 ++ []) close (took_as f.0.1 x.0.1 (written x.0.0) (written x.0.0 ++ []) (sym (append-nil (written x.0.0))) one.1) (behind_took mark.ParenClose x.0.1 end.0 end.1) in
      let front : List Written = sign mark.Colon ∷ ((Some f.0.0.0, token.Atom f.0.0.1) ∷ (sign mark.ParenOpen ∷ [])) in
      let tail = took_then us f.0.1 end.0 front ((written x.0.0 ++ []) ++ close) name.1 inner in
      let whole = took_then ts us end.0 ((Some l, token.Atom m) ∷ []) (front ++ ((written x.0.0 ++ []) ++ close)) t tail in
      let good : ((l == l && is_display m f.0.0.1) && is_sum x.0.0) ≡ true = both_true (both_true (eq-eqb l l refl) name.0) one.0 in
      subst (λ (z : Exp × List Placed). IsOperand z.0 × Took ts z.1 (written z.0)) is ((good, good), whole)

  applied_or : (l : ℕ) (a : List ℕ) (ts us : List Placed) (q : Exp × List Placed) → Took ts us ((Some l, token.Atom a) ∷ []) → (o : Option (List Placed)) → behind mark.ParenOpen us ≡ o
      → (elim o [ Some inner ↦ called_at sub l a inner | None ↦ displayed_at sub l a us ]) ≡ Some q → IsOperand q.0 × Took ts q.1 (written q.0)
  applied_or l a ts us q t None n e = displayed_is l a ts us q t e
  applied_or l a ts us q t (Some inner) n e =
      called_is l a ts inner q (took_then ts us inner ((Some l, token.Atom a) ∷ []) (sign mark.ParenOpen ∷ []) t (behind_took mark.ParenOpen us inner n)) e

  applied_is : (l : ℕ) (a : List ℕ) (ts us : List Placed) (q : Exp × List Placed) → Took ts us ((Some l, token.Atom a) ∷ []) → applied_at sub l a us ≡ Some q → IsOperand q.0 × Took ts q.1 (written q.0)
  unfolding applied_at
  applied_is l a ts us q t e = applied_or l a ts us q t (behind mark.ParenOpen us) refl e

  operand_in_is : (p : Placed) (t : Token) (ps : List Placed) (q : Exp × List Placed) → p.token ≡ t → operand_in sub p.line t ps ≡ Some q → IsOperand q.0 × Took (p ∷ ps) q.1 (written q.0)
  operand_in_is p (token.Int n) ps q k e =
      let h = cond_some (nat_lt n beyond_int) (syntax.int p.line (pos n), ps) q e in
      let took = took_one (p ∷ ps) ps p (Some p.line, token.Int n) refl k refl in
      subst (λ (z : Exp × List Placed). IsOperand z.0 × Took (p ∷ ps) z.1 (written z.0)) h.1 ((refl, refl), took)
  operand_in_is p (token.Var x) ps q k e =
      let h = cond_some (is_capital x) (syntax.variable p.line x, ps) q e in
      let took = took_one (p ∷ ps) ps p (Some p.line, token.Var x) refl k refl in
      subst (λ (z : Exp × List Placed). IsOperand z.0 × Took (p ∷ ps) z.1 (written z.0)) h.1 ((h.0, h.0), took)
  operand_in_is p (token.Atom a) ps q k e = applied_is p.line a (p ∷ ps) ps q (took_one (p ∷ ps) ps p (Some p.line, token.Atom a) refl k refl) e
  operand_in_is p (token.Mark y) ps q k e = absurd (cc)
  operand_in_is p token.Float ps q k e = absurd (cc)
  operand_in_is p (token.Char n) ps q k e = absurd (cc)
  operand_in_is p (token.Str s) ps q k e = absurd (cc)
  operand_in_is p token.Dot ps q k e = absurd (cc)

  operand_is : Sound Exp (operand_at sub) IsOperand written
  unfolding operand_at
  operand_is [] q e = absurd (cc)
  operand_is (p ∷ ps) q e = operand_in_is p p.token ps q refl e

  added_is : (a : Exp) (ts us vs : List Placed) (q : Exp × List Placed) → IsOperand a → Took ts us (written a) → Took us vs (sign mark.Plus ∷ [])
      → added_at sub a vs ≡ Some q → IsSum q.0 × Took ts q.1 (written q.0)
  unfolding added_at
  added_is a ts us vs q good t plus e =
      let b = then_some _ (operand_at sub vs) q e in
      let is : (syntax.binary (line_of a) Add a b.0.0, b.0.1) ≡ q = cc in
      let one = operand_is vs b.0 b.1 in
      let right = took_then us vs b.0.1 (sign mark.Plus ∷ []) (written b.0.0) plus one.1 in
      let whole = took_then ts us b.0.1 (written a) (sign mark.Plus ∷ written b.0.0) t right in
      let is_good : (line_of a == line_of a && (is_operand a && is_operand b.0.0)) ≡ true = both_true (eq-eqb (line_of a) (line_of a) refl) (both_true good.0 one.0.0) in
      subst (λ (z : Exp × List Placed). IsSum z.0 × Took ts z.1 (written z.0)) is (is_good, whole)

  sum_or : (ts : List Placed) (a q : Exp × List Placed) → IsOperand a.0 → Took ts a.1 (written a.0) → (o : Option (List Placed)) → behind mark.Plus a.1 ≡ o
      → (elim o [ Some after ↦ added_at sub a.0 after | None ↦ Some a ]) ≡ Some q → IsSum q.0 × Took ts q.1 (written q.0)
  sum_or ts a q good t None n e = let is : a ≡ q = cc in subst (λ (z : Exp × List Placed). IsSum z.0 × Took ts z.1 (written z.0)) is (good.1, t)
  sum_or ts a q good t (Some after) n e = added_is a.0 ts a.1 after q good t (behind_took mark.Plus a.1 after n) e

  pub sum_with_is : Sound Exp (sum_with sub) IsSum written
  unfolding sum_with
  sum_with_is ts q e =
      let a = then_some _ (operand_at sub ts) q e in
      let one = operand_is ts a.0 a.1 in
      sum_or ts a.0 q one.0 one.1 (behind mark.Plus a.0.1) refl a.2

pub sum_is : (levels : ℕ) → Sound Exp (sum_at levels) IsSum written
unfolding sum_at
sum_is zero ts q e = absurd (cc)
sum_is (suc levels) ts q e = sum_with_is (sum_at levels) (sum_is levels) ts q e
