-- A move raises the greatest level by one at most, and the answer of an act doesn't raise it.

use Rattle.std.proofs.Common.{◌≡◌, ℕ, ◌+◌, ◌+ℤ◌, ◌≤◌, max, nat_lt, length, codes, refl, Bool, true, false, cond, List, [], ◌∷◌, Option, None, Some, arith}
use Rattle.edb_lang.specs.declared.small.Op.{Op}
use Rattle.edb_lang.specs.declared.small.Op.TheVariants.{Add}
use Rattle.edb_lang.specs.Terms as term
use Rattle.edb_lang.specs.declared.small.Class.TheVariants.{Error}
use Rattle.edb_lang.specs.Terms.{Datum, framed}
use Rattle.edb_lang.specs.Pairs.{Pairs, bound}
use Rattle.edb_lang.specs.Syntax as syntax
use Rattle.edb_lang.specs.Syntax.{Exp, Exps, FunctionTree, ModuleTree, line_of}
use Rattle.edb_model.specs.Running.{Operation, operate, local_call, remote_call, Run, Runs, Info, value, variable, node, match, sequence, body, raised, none, more, running, all_running, all_values, opening_call, value_of, values_of}
use Rattle.edb_model.specs.Lookup.{version_for, function_for}
use Rattle.edb_model.specs.Move.{Place, Handler, Redex, look, apply, bind, begin, follow, finished, Effect, turns, leaves, raises, tells, within, if_some, closed, operand, before, within_body, outside, go, go_first, settled, error, fits, all_matched, matched, badmatch, unbound, most_nested, body_of, operated, entered, called, home_of, applied, rewrite, moved, answered}
use Rattle.edb_eval.specs.declared.frames.Holder.{Holder}
use Rattle.edb_eval.specs.declared.frames.Holder.TheVariants as holder
use Rattle.edb_eval.specs.declared.frames.Frame.{Frame}
use Rattle.edb_eval.specs.declared.frames.Frame.TheVariants as frame
use Rattle.edb_eval.specs.Tree.{info_of, operands, held, plug}
use Rattle.edb_eval.specs.Levels.{highest, all_highest}
use Rattle.edb_eval.proofs.Heart.{before-level}

-- nothing runs in code
mutual
  pub highest-running : (e : Exp) → highest (running e) ≡ 0
  highest-running (syntax.int l i) = refl
  highest-running (syntax.atom l a) = refl
  highest-running (syntax.variable l x) = refl
  highest-running (syntax.match l p e) = highest-running e
  highest-running (syntax.binary l o a b) = omega (arith, highest-running a, highest-running b)
  highest-running (syntax.call l f es) = highest-all es
  highest-running (syntax.remote l m f es) = omega (arith, highest-running m, highest-running f, highest-all es)

  highest-all : (es : Exps) → all_highest (all_running es) ≡ 0
  highest-all syntax.none = refl
  highest-all (syntax.more e es) = omega (arith, highest-running e, highest-all es)

-- nor in values
highest-values : (vs : List Datum) → all_highest (all_values vs) ≡ 0
highest-values [] = refl
highest-values (v ∷ vs) = omega (arith, highest-values vs)

pub highest-opening : (m f : List ℕ) (args : List Datum) → highest (opening_call m f args) ≡ 0
highest-opening m f args = omega (arith, highest-values args)

-- the innermost Body's level, and what is in the hole, count in the whole tree
highest-operands : (vs : List Datum) (t : Run) (ts : Runs) → highest t ≤ all_highest (operands vs (more t ts))
highest-operands [] t ts = omega arith
highest-operands (v ∷ vs) t ts = omega (arith, highest-operands vs t ts)

highest-held : (k : Holder) (t : Run) → highest t ≤ highest (held k t)
highest-held (holder.Operands o done pending) t = highest-operands done t _
highest-held (holder.Match q) t = omega arith
highest-held (holder.Sequence l es) t = omega arith

highest-plug : (fs : List Frame) (i : Info) (t : Run) → max i.level (highest t) ≤ highest (plug fs i t)
highest-plug [] i t = omega arith
highest-plug (frame.Holder k ∷ fs) i t = omega (arith, highest-held k t, highest-plug fs i (held k t))
highest-plug (frame.Body outer ∷ fs) i t = omega (arith, highest-plug fs (info_of outer) (body i t))

pub level_le : (fs : List Frame) (i : Info) (t : Run) → i.level ≤ highest (plug fs i t)
level_le fs i t = omega (arith, highest-plug fs i t)

-- what an effect leaves is at most at this level
abbrev Within : {X : Type 0} → (X → ℕ) → ℕ → Effect X → Type 0
Within high n (turns bs x) = high x ≤ n
Within high n (leaves t) = highest t ≤ n
Within high n (raises c v) = Unit {0}
Within high n (tells p r) = Unit {0}

within_within : {X Y : Type 0} (hx : X → ℕ) (hy : Y → ℕ) (n : ℕ) (f : X → Y) → ((x : X) → hx x ≤ n → hy (f x) ≤ n) → (e : Effect X) → Within hx n e → Within hy n (within f e)
within_within hx hy n f k (turns bs x) h = k x h
within_within hx hy n f k (leaves t) h = h
within_within hx hy n f k (raises c v) h = tt
within_within hx hy n f k (tells p r) h = tt

if_some_within : {A X : Type 0} (high : X → ℕ) (n : ℕ) (o : Option A) (f : A → Effect X) (e : Effect X) → ((a : A) → Within high n (f a)) → Within high n e → Within high n (if_some o f e)
if_some_within high n None f e hf he = he
if_some_within high n (Some a) f e hf he = hf a

cond_within : {X : Type 0} (high : X → ℕ) (n : ℕ) (b : Bool) (d e : Effect X) → Within high n d → Within high n e → Within high n (cond b d e)
cond_within high n true d e hd he = hd
cond_within high n false d e hd he = he

closed_by : (p : Place) (i : Info) (n : ℕ) (bs : List (List ℕ × Datum)) (t : Run) (v : Option Datum) → value_of t ≡ v → i.level ≤ n → highest t ≤ n → Within highest n (closed p i (turns bs t))
closed_by p i n bs t None e hi ht = let h : max i.level (highest t) ≤ n = omega arith in rw e h
closed_by p i n bs t (Some v) e hi ht = let h : 0 ≤ n = omega arith in rw e h

closed_within : (p : Place) (i : Info) (n : ℕ) (e : Effect Run) → i.level ≤ n → Within highest n e → Within highest n (closed p i e)
closed_within p i n (turns bs t) hi h = closed_by p i n bs t (value_of t) refl hi h
closed_within p i n (leaves t) hi h = h
closed_within p i n (raises c v) hi h = tt
closed_within p i n (tells q r) hi h = tt

-- the level of the tree that a redex holds
abbrev redex_high : Redex → ℕ
redex_high (begin l t es) = highest t
redex_high _ = 0

-- a handler that keeps to a level, where its place and its redex are at most one lower
abbrev Keeps : Handler → ℕ → ℕ → Type 0
Keeps h n m = (p : Place) (r : Redex) → p.level ≤ n → redex_high r ≤ n → Within highest m (h p r)

mutual
  unfolding go

  go_within : (h : Handler) (n m : ℕ) → n ≤ m → Keeps h n m → (p : Place) (t : Run) → p.level ≤ n → highest t ≤ n → Within highest m (go h p t)
  go_within h n m le k p (value v) hp ht = k p finished hp (omega arith)
  go_within h n m le k p (raised c v) hp ht = k p finished hp (omega arith)
  go_within h n m le k p (variable x) hp ht = k p (look x) hp (omega arith)
  go_within h n m le k p (node o ts) hp ht =
      if_some_within highest m (values_of ts) (λ vs. h p (apply o vs)) (within (node o) (go_first h (operand p) ts)) (λ vs. k p (apply o vs) hp (omega arith))
      (within_within all_highest highest m (node o) (λ us u. u) (go_first h (operand p) ts) (first_within h n m le k (operand p) ts hp ht))
  go_within h n m le k p (match q t) hp ht =
      if_some_within highest m (value_of t) (λ v. h p (bind q v)) (within (match q) (go h (operand p) t)) (λ v. k p (bind q v) hp (omega arith))
      (within_within highest highest m (match q) (λ us u. u) (go h (operand p) t) (go_within h n m le k (operand p) t hp ht))
  go_within h n m le k p (sequence false l t es) hp ht = k p (begin l t es) hp ht
  go_within h n m le k p (sequence true l t es) hp ht =
      if_some_within highest m (value_of t) (λ v. h p (follow v es)) (within (λ u. sequence true l u es) (go h (before es p) t)) (λ v. k p (follow v es) hp (omega arith))
      (within_within highest highest m (λ u. sequence true l u es) (λ us u. u) (go h (before es p) t) (go_within h n m le k (before es p) t (omega (arith, before-level es p)) ht))
  go_within h n m le k p (body i t) hp ht =
      closed_within p i m (go h (within_body i p) t) (omega arith) (go_within h n m le k (within_body i p) t (omega arith) (omega arith))

  first_within : (h : Handler) (n m : ℕ) → n ≤ m → Keeps h n m → (p : Place) (ts : Runs) → p.level ≤ n → all_highest ts ≤ n → Within all_highest m (go_first h p ts)
  first_within h n m le k p none hp ht = tt
  first_within h n m le k p (more t ts) hp ht =
      if_some_within all_highest m (value_of t) (λ v. within (more t) (go_first h p ts)) (within (λ u. more u ts) (go h p t))
      (λ v. within_within all_highest all_highest m (more t) (λ us u. omega arith) (go_first h p ts) (first_within h n m le k p ts hp (omega arith)))
      (within_within highest all_highest m (λ u. more u ts) (λ us u. omega arith) (go h p t) (go_within h n m le k p t hp (omega arith)))

-- the table of moves keeps to one level more
operated_within : (n : ℕ) (p : Place) (o : Op) (vs : List Datum) → Within highest n (operated p o vs)
operated_within n p Add (term.int a ∷ (term.int b ∷ [])) =
    let least : 0 ≤ n = omega arith in
    cond_within highest n (fits (a +ℤ b)) (turns p.bindings (value (term.int (a +ℤ b)))) (error (codes "system_limit")) least tt
operated_within n p Add _ = tt

entered_within : (n : ℕ) (p : Place) (m : List ℕ) (k : ℕ) (g : FunctionTree) (vs : List Datum) → p.level ≤ n → Within highest (n + 1) (entered p m k g vs)
entered_within n p m k g vs hp =
    let le : max (p.level + 1) (highest (running g.first)) ≤ n + 1 = omega (arith, highest-running g.first) in
    let inner : Pairs → Effect Run = λ bs. cond (nat_lt (length p.bodies) most_nested) (turns p.bindings (body_of p m k g bs)) (error (codes "system_limit")) in
    if_some_within highest (n + 1) (all_matched g.parameters vs []) (λ bs. cond p.is_tail (leaves (body_of p m k g bs)) (inner bs)) (error (codes "function_clause"))
    (λ bs. cond_within highest (n + 1) p.is_tail (leaves (body_of p m k g bs)) (inner bs) le
    (cond_within highest (n + 1) (nat_lt (length p.bodies) most_nested) (turns p.bindings (body_of p m k g bs)) (error (codes "system_limit")) le tt))
    tt

called_within : (code : List ModuleTree) (current : List (List ℕ × ℕ)) (n : ℕ) (p : Place) (inside : Bool) (m f : List ℕ) (vs : List Datum) → p.level ≤ n → Within highest (n + 1) (called code current p inside m f vs)
called_within code current n p inside m f vs hp =
    let undef : Effect Run = error (codes "undef") in
    let at_version : ℕ → Effect Run = λ k. if_some (function_for code m k inside f (length vs)) (λ g. entered p m k g vs) undef in
    if_some_within highest (n + 1) (version_for m p.bodies current) at_version undef
    (λ k. if_some_within highest (n + 1) (function_for code m k inside f (length vs)) (λ g. entered p m k g vs) undef (λ g. entered_within n p m k g vs hp) tt) tt

remote_within : (code : List ModuleTree) (current : List (List ℕ × ℕ)) (n : ℕ) (p : Place) (vs : List Datum) → p.level ≤ n → Within highest (n + 1) (applied code current p remote_call vs)
remote_within code current n p (term.atom m ∷ (term.atom f ∷ vs)) hp = called_within code current n p false m f vs hp
remote_within code current n p _ hp = tt

applied_within : (code : List ModuleTree) (current : List (List ℕ × ℕ)) (n : ℕ) (p : Place) (o : Operation) (vs : List Datum) → p.level ≤ n → Within highest (n + 1) (applied code current p o vs)
applied_within code current n p (operate o) vs hp = operated_within (n + 1) p o vs
applied_within code current n p (local_call f) vs hp = called_within code current n p true (home_of p.bodies) f vs hp
applied_within code current n p remote_call vs hp = remote_within code current n p vs hp

rewrite_keeps : (code : List ModuleTree) (current : List (List ℕ × ℕ)) (n : ℕ) → Keeps (rewrite code current) n (n + 1)
rewrite_keeps code current n p (look x) hp hr =
    let least : 0 ≤ n + 1 = omega arith in
    if_some_within highest (n + 1) (bound x p.bindings) (λ v. turns p.bindings (value v)) (raises Error (framed unbound (term.atom x))) (λ v. least) tt
rewrite_keeps code current n p (apply o vs) hp hr = applied_within code current n p o vs hp
rewrite_keeps code current n p (bind q v) hp hr =
    let least : 0 ≤ n + 1 = omega arith in
    if_some_within highest (n + 1) (matched q v p.bindings) (λ bs. turns bs (value v)) (raises Error (framed badmatch v)) (λ bs. least) tt
rewrite_keeps code current n p (begin l t es) hp hr = omega arith
rewrite_keeps code current n p (follow v syntax.none) hp hr = omega arith
rewrite_keeps code current n p (follow v (syntax.more e es)) hp hr = omega (arith, highest-running e)
rewrite_keeps code current n p finished hp hr = tt

settled_within : (n : ℕ) (t : Run) (e : Effect Run) → highest t ≤ n → Within highest n e → highest (settled t e) ≤ n
settled_within n t (turns bs u) ht h = h
settled_within n t (leaves u) ht h = h
settled_within n t (raises c v) ht h = omega arith
settled_within n t (tells p r) ht h = ht

pub highest-moved : (code : List ModuleTree) (current : List (List ℕ × ℕ)) (t : Run) → highest (moved code current t) ≤ highest t + 1
unfolding moved
highest-moved code current t =
    settled_within (highest t + 1) t (go (rewrite code current) outside t) (omega arith)
    (go_within (rewrite code current) (highest t) (highest t + 1) (omega arith) (rewrite_keeps code current (highest t)) outside t (omega arith) (omega arith))

pub highest-answered : (v : Datum) (t : Run) → highest (answered v t) ≤ highest t
unfolding answered
highest-answered v t =
    let h : Handler = λ p r. turns p.bindings (value v) in
    settled_within (highest t) t (go h outside t) (omega arith)
    (go_within h (highest t) (highest t) (omega arith) (λ p r hp hr. omega arith) outside t (omega arith) (omega arith))
