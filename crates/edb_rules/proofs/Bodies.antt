-- Each Body of a running expression is within the bounds of a journal, where the code is: a Body is made only of a
-- function of the code.

use Rattle.std.proofs.Common.{◌≡◌, ◌⊎◌, inl, inr, ℕ, zero, suc, ◌+ℤ◌, ◌-◌, ◌<◌, ◌^◌, Bool, true, false, cond, if◌then◌else◌, ◌&&◌, ◌||◌, ◌==◌, nat_eq, nat_lt, List, [], ◌∷◌, length, codes, Option, None, Some, refl, subst, arith}
use Rattle.std.specs.List.{All}
use Rattle.std.proofs.lemmas.Str.{chars-nil}
use Rattle.std.proofs.lemmas.Bool.{and_parts, eqb-true}
use Rattle.std.proofs.lemmas.List.Elements.{All-head, All-tail}
use Rattle.std.proofs.lemmas.Option.{none-some, same_Some, option_and_then_some}
use Rattle.edb_lang.specs.declared.small.Op.{Op}
use Rattle.edb_lang.specs.declared.small.Op.TheVariants.{Add}
use Rattle.edb_lang.specs.declared.small.Class.TheVariants.{Error}
use Rattle.edb_lang.specs.Terms as term
use Rattle.edb_lang.specs.Terms.{Datum, framed}
use Rattle.edb_lang.specs.Pairs.{Pairs, bound}
use Rattle.edb_lang.specs.Syntax as syntax
use Rattle.edb_lang.specs.Syntax.{Exp, Exps, FunctionTree, ModuleTree}
use Rattle.edb_lang.specs.TermText.{same_name}
use Rattle.edb_lang.specs.declared.act.ActKind.TheVariants as act
use Rattle.edb_model.specs.Running.{Operation, operate, local_call, remote_call, Info, Run, value, variable, node, match, sequence, body, raised, Runs, none, more, running, all_running, all_values, opening_call, value_of, values_of}
use Rattle.edb_model.specs.Lookup.{version_in, function_in, exports, version_for, function_for}
use Rattle.edb_model.specs.Move.{Place, Handler, Redex, look, apply, bind, begin, follow, finished, Effect, turns, leaves, raises, tells, within, if_some, closed, operand, before, within_body, outside, go, go_first, settled, error, fits, all_matched, matched, badmatch, unbound, most_nested, body_of, operated, entered, called, is_display, home_of, applied, rewrite, moved, answered, acts, pure, next_at, told, redex, next}
use Rattle.edb_event.specs.Ranges.{IsShort}
use Rattle.edb_rules.specs.Slices.{after_moves}
use Rattle.edb_model.specs.Innermost.{or_else, innermost, innermost_of}
use Rattle.edb_rules.specs.SliceEnds.{place_of}
use Rattle.edb_rules.specs.Bounds.{IsBoundedFunction, IsBounded, AreBounded}
use Rattle.edb_rules.proofs.Listed.{when_some}

-- a Body's module and function have short names, and its arity is one that a journal can have
abbrev pub IsBoundedBody : Info → Type 0
IsBoundedBody i = IsShort i.home × IsShort i.name × (i.arity < 2 ^ 32)

-- each Body of an expression is
abbrev mutual
  pub AllBodies : Run → Type 0
  AllBodies (value v) = Unit {0}
  AllBodies (variable x) = Unit {0}
  AllBodies (node o ts) = AllBodiesOf ts
  AllBodies (match q t) = AllBodies t
  AllBodies (sequence b l t es) = AllBodies t
  AllBodies (body i t) = IsBoundedBody i × AllBodies t
  AllBodies (raised c v) = Unit {0}

  pub AllBodiesOf : Runs → Type 0
  AllBodiesOf none = Unit {0}
  AllBodiesOf (more t ts) = AllBodies t × AllBodiesOf ts

-- each Body round a place has a module with a short name
abbrev pub AllRound : List (List ℕ × ℕ) → Type 0
AllRound [] = Unit {0}
AllRound (b ∷ bs) = IsShort b.0 × AllRound bs

pub no_name : IsShort []
no_name = rw chars-nil (omega arith)

-- the innermost Body is one of them
either : (o u : Option Info) (i : Info) → or_else o u ≡ Some i → (o ≡ Some i) ⊎ (u ≡ Some i)
either (Some j) u i e = inl e
either None u i e = inr e

mutual
  pub innermost_is : (t : Run) (i : Info) → AllBodies t → innermost t ≡ Some i → IsBoundedBody i
  innermost_is (value v) i all e = absurd (none-some i e)
  innermost_is (variable x) i all e = absurd (none-some i e)
  innermost_is (node o ts) i all e = innermost_among ts i all e
  innermost_is (match q t) i all e = innermost_is t i all e
  innermost_is (sequence b l t es) i all e = innermost_is t i all e
  innermost_is (body j t) i all e = elim (either (innermost t) (Some j) i e) [
    | inl inner ↦ innermost_is t i all.1 inner
    | inr here ↦ subst IsBoundedBody (same_Some j i here) all.0
  ]
  innermost_is (raised c v) i all e = absurd (none-some i e)

  innermost_among : (ts : Runs) (i : Info) → AllBodiesOf ts → innermost_of ts ≡ Some i → IsBoundedBody i
  innermost_among none i all e = absurd (none-some i e)
  innermost_among (more t ts) i all e = elim (either (innermost t) (innermost_of ts) i e) [
    | inl first ↦ innermost_is t i all.0 first
    | inr later ↦ innermost_among ts i all.1 later
  ]

-- an expression of the syntax has no Body, nor have values
mutual
  in_syntax : (e : Exp) → AllBodies (running e)
  in_syntax (syntax.int l i) = tt
  in_syntax (syntax.atom l a) = tt
  in_syntax (syntax.variable l x) = tt
  in_syntax (syntax.match l p e) = in_syntax e
  in_syntax (syntax.binary l o a b) = (in_syntax a, (in_syntax b, tt))
  in_syntax (syntax.call l f es) = all_in_syntax es
  in_syntax (syntax.remote l m f es) = (in_syntax m, (in_syntax f, all_in_syntax es))

  all_in_syntax : (es : Exps) → AllBodiesOf (all_running es)
  all_in_syntax syntax.none = tt
  all_in_syntax (syntax.more e es) = (in_syntax e, all_in_syntax es)

in_values : (vs : List Datum) → AllBodiesOf (all_values vs)
in_values [] = tt
in_values (v ∷ vs) = (tt, in_values vs)

pub in_opening : (m f : List ℕ) (args : List Datum) → AllBodies (opening_call m f args)
in_opening m f args = (tt, (tt, in_values args))

-- the function that a call names is of the code, and so is the module
same_name_is : (a b : List ℕ) → same_name a b ≡ true → a ≡ b
same_name_is [] [] e = refl
same_name_is [] (y ∷ b) e = absurd (cc)
same_name_is (x ∷ a) [] e = absurd (cc)
same_name_is (x ∷ a) (y ∷ b) e = let both = and_parts (nat_eq x y) (same_name a b) e in λ i. eqb-true x y both.0 i ∷ same_name_is a b both.1 i

picked : (b c : Bool) (x y : ModuleTree) (o u : Option ModuleTree) → (if b then (if c then Some x else o) else u) ≡ Some y
    → ((b ≡ true) × (x ≡ y)) ⊎ ((o ≡ Some y) ⊎ (u ≡ Some y))
picked true true x y o u e = inl (refl, same_Some x y e)
picked true false x y o u e = inr (inl e)
picked false c x y o u e = inr (inr e)

version_is : (code : List ModuleTree) (m : List ℕ) (k : ℕ) (y : ModuleTree) → AreBounded code → version_in code m k ≡ Some y → IsBounded y × (y.name ≡ m)
version_is [] m k y bounded e = absurd (none-some y e)
version_is (x ∷ xs) m k y bounded e = elim (picked (same_name x.name m) (k == 1) x y (version_in xs m (k - 1)) (version_in xs m k) e) [
  | inl here ↦ (
    subst IsBounded here.1 (All-head IsBounded x xs bounded),
    subst (λ (z : ModuleTree). z.name ≡ m) here.1 (same_name_is x.name m here.0),
  )
  | inr (inl earlier) ↦ version_is xs m (k - 1) y (All-tail IsBounded x xs bounded) earlier
  | inr (inr other) ↦ version_is xs m k y (All-tail IsBounded x xs bounded) other
]

chosen : (b : Bool) (g h : FunctionTree) (o : Option FunctionTree) → (if b then Some g else o) ≡ Some h → (g ≡ h) ⊎ (o ≡ Some h)
chosen true g h o e = inl (same_Some g h e)
chosen false g h o e = inr e

function_is : (gs : List FunctionTree) (f : List ℕ) (n : ℕ) (h : FunctionTree) → All IsBoundedFunction gs → function_in gs f n ≡ Some h → IsBoundedFunction h
function_is [] f n h bounded e = absurd (none-some h e)
function_is (g ∷ gs) f n h bounded e = elim (chosen (same_name g.name f && length g.parameters == n) g h (function_in gs f n) e) [
  | inl here ↦ subst IsBoundedFunction here (All-head IsBoundedFunction g gs bounded)
  | inr later ↦ function_is gs f n h (All-tail IsBoundedFunction g gs bounded) later
]

named : (code : List ModuleTree) (m : List ℕ) (k : ℕ) (inside : Bool) (f : List ℕ) (n : ℕ) (g : FunctionTree) → AreBounded code
    → function_for code m k inside f n ≡ Some g → IsShort m × IsBoundedFunction g
named code m k inside f n g bounded e =
    option_and_then_some _ (version_in code m k) g e (λ x there is.
    let names = version_is code m k x bounded there in (
      subst IsShort names.1 names.0.0,
      function_is x.functions f n g names.0.1 (when_some (inside || exports x f n) (function_in x.functions f n) g is).1,
    ))

-- What a handler answers keeps to the bounds: what the redex becomes, and the Bodies round it.
abbrev Keeps : {X : Type 0} → (X → Type 0) → Effect X → Type 0
Keeps P (turns bs t) = P t
Keeps P (leaves u) = AllBodies u
Keeps P (raises c v) = Unit {0}
Keeps P (tells p r) = AllRound p.bodies

abbrev IsFine : Redex → Type 0
IsFine (begin l t es) = AllBodies t
IsFine _ = Unit {0}

abbrev IsKeeper : Handler → Type 0
IsKeeper h = (p : Place) (r : Redex) → AllRound p.bodies → IsFine r → Keeps AllBodies (h p r)

if_some_keeps : {A X : Type 0} (P : X → Type 0) (o : Option A) (f : A → Effect X) (e : Effect X) → ((a : A) → o ≡ Some a → Keeps P (f a)) → Keeps P e → Keeps P (if_some o f e)
if_some_keeps P (Some a) f e there not = there a refl
if_some_keeps P None f e there not = not

within_keeps : {X Y : Type 0} (P : X → Type 0) (Q : Y → Type 0) (f : X → Y) (e : Effect X) → ((x : X) → P x → Q (f x)) → Keeps P e → Keeps Q (within f e)
within_keeps P Q f (turns bs t) goes kept = goes t kept
within_keeps P Q f (leaves u) goes kept = kept
within_keeps P Q f (raises c v) goes kept = tt
within_keeps P Q f (tells p r) goes kept = kept

closed_keeps : (p : Place) (i : Info) (e : Effect Run) → IsBoundedBody i → Keeps AllBodies e → Keeps AllBodies (closed p i e)
closed_keeps p i (turns bs t) bounded kept =
    if_some_keeps AllBodies (value_of t) (λ v. turns p.bindings (value v)) (turns p.bindings (body (record i { bindings = bs }) t)) (λ v is. tt) (bounded, kept)
closed_keeps p i (leaves t) bounded kept = kept
closed_keeps p i (raises c v) bounded kept = tt
closed_keeps p i (tells q r) bounded kept = kept

before_round : (es : Exps) (p : Place) → AllRound p.bodies → AllRound (before es p).bodies
before_round syntax.none p round = round
before_round (syntax.more e es) p round = round

mutual
  unfolding go

  go_keeps : (h : Handler) → IsKeeper h → (p : Place) (t : Run) → AllRound p.bodies → AllBodies t → Keeps AllBodies (go h p t)
  go_keeps h k p (value v) round all = k p finished round tt
  go_keeps h k p (raised c v) round all = k p finished round tt
  go_keeps h k p (variable x) round all = k p (look x) round tt
  go_keeps h k p (node o ts) round all =
      if_some_keeps AllBodies (values_of ts) (λ vs. h p (apply o vs)) (within (node o) (go_first h (operand p) ts)) (λ vs is. k p (apply o vs) round tt)
      (within_keeps AllBodiesOf AllBodies (node o) (go_first h (operand p) ts) (λ us a. a) (first_keeps h k (operand p) ts round all))
  go_keeps h k p (match q t) round all =
      if_some_keeps AllBodies (value_of t) (λ v. h p (bind q v)) (within (match q) (go h (operand p) t)) (λ v is. k p (bind q v) round tt)
      (within_keeps AllBodies AllBodies (match q) (go h (operand p) t) (λ u a. a) (go_keeps h k (operand p) t round all))
  go_keeps h k p (sequence false l t es) round all = k p (begin l t es) round all
  go_keeps h k p (sequence true l t es) round all =
      if_some_keeps AllBodies (value_of t) (λ v. h p (follow v es)) (within (λ u. sequence true l u es) (go h (before es p) t)) (λ v is. k p (follow v es) round tt)
      (within_keeps AllBodies AllBodies (λ u. sequence true l u es) (go h (before es p) t) (λ u a. a) (go_keeps h k (before es p) t (before_round es p round) all))
  go_keeps h k p (body i t) round all =
      closed_keeps p i (go h (within_body i p) t) all.0 (go_keeps h k (within_body i p) t (all.0.0, round) all.1)

  first_keeps : (h : Handler) → IsKeeper h → (p : Place) (ts : Runs) → AllRound p.bodies → AllBodiesOf ts → Keeps AllBodiesOf (go_first h p ts)
  first_keeps h k p none round all = round
  first_keeps h k p (more t ts) round all =
      if_some_keeps AllBodiesOf (value_of t) (λ v. within (more t) (go_first h p ts)) (within (λ u. more u ts) (go h p t))
      (λ v is. within_keeps AllBodiesOf AllBodiesOf (more t) (go_first h p ts) (λ us a. (all.0, a)) (first_keeps h k p ts round all.1))
      (within_keeps AllBodies AllBodiesOf (λ u. more u ts) (go h p t) (λ u a. (a, all.1)) (go_keeps h k p t round all.0))

-- the table of moves keeps to them
cond_keeps : {X : Type 0} (P : X → Type 0) (b : Bool) (d e : Effect X) → Keeps P d → Keeps P e → Keeps P (cond b d e)
cond_keeps P true d e left right = left
cond_keeps P false d e left right = right

operated_keeps : (p : Place) (o : Op) (vs : List Datum) → Keeps AllBodies (operated p o vs)
operated_keeps p Add (term.int a ∷ (term.int b ∷ [])) =
    cond_keeps AllBodies (fits (a +ℤ b)) (turns p.bindings (value (term.int (a +ℤ b)))) (error (codes "system_limit")) tt tt
operated_keeps p Add _ = tt

body_keeps : (p : Place) (m : List ℕ) (k : ℕ) (g : FunctionTree) (bs : Pairs) → IsShort m → IsBoundedFunction g → AllBodies (body_of p m k g bs)
body_keeps p m k g bs home of_g = ((home, of_g.0, of_g.1), in_syntax g.first)

entered_keeps : (p : Place) (m : List ℕ) (k : ℕ) (g : FunctionTree) (vs : List Datum) → IsShort m → IsBoundedFunction g → Keeps AllBodies (entered p m k g vs)
entered_keeps p m k g vs home of_g =
    let inner : Pairs → Effect Run = λ bs. cond (nat_lt (length p.bodies) most_nested) (turns p.bindings (body_of p m k g bs)) (error (codes "system_limit")) in
    if_some_keeps AllBodies (all_matched g.parameters vs []) (λ bs. cond p.is_tail (leaves (body_of p m k g bs)) (inner bs)) (error (codes "function_clause"))
    (λ bs is. cond_keeps AllBodies p.is_tail (leaves (body_of p m k g bs)) (inner bs) (body_keeps p m k g bs home of_g)
    (cond_keeps AllBodies (nat_lt (length p.bodies) most_nested) (turns p.bindings (body_of p m k g bs)) (error (codes "system_limit")) (body_keeps p m k g bs home of_g) tt))
    tt

called_keeps : (code : List ModuleTree) (current : List (List ℕ × ℕ)) → AreBounded code → (p : Place) (inside : Bool) (m f : List ℕ) (vs : List Datum)
    → Keeps AllBodies (called code current p inside m f vs)
called_keeps code current bounded p inside m f vs =
    let undef : Effect Run = error (codes "undef") in
    let at_version : ℕ → Effect Run = λ k. if_some (function_for code m k inside f (length vs)) (λ g. entered p m k g vs) undef in
    if_some_keeps AllBodies (version_for m p.bodies current) at_version undef
    (λ k is. if_some_keeps AllBodies (function_for code m k inside f (length vs)) (λ g. entered p m k g vs) undef
    (λ g there. let names = named code m k inside f (length vs) g bounded there in entered_keeps p m k g vs names.0 names.1) tt)
    tt

remote_keeps : (code : List ModuleTree) (current : List (List ℕ × ℕ)) → AreBounded code → (p : Place) (vs : List Datum) → Keeps AllBodies (applied code current p remote_call vs)
remote_keeps code current bounded p (term.atom m ∷ (term.atom f ∷ vs)) = called_keeps code current bounded p false m f vs
remote_keeps code current bounded p _ = tt

applied_keeps : (code : List ModuleTree) (current : List (List ℕ × ℕ)) → AreBounded code → (p : Place) (o : Operation) (vs : List Datum)
    → Keeps AllBodies (applied code current p o vs)
applied_keeps code current bounded p (operate o) vs = operated_keeps p o vs
applied_keeps code current bounded p (local_call f) vs = called_keeps code current bounded p true (home_of p.bodies) f vs
applied_keeps code current bounded p remote_call vs = remote_keeps code current bounded p vs

rewrite_keeps : (code : List ModuleTree) (current : List (List ℕ × ℕ)) → AreBounded code → IsKeeper (rewrite code current)
rewrite_keeps code current bounded p (look x) round fine =
    if_some_keeps AllBodies (bound x p.bindings) (λ v. turns p.bindings (value v)) (raises Error (framed unbound (term.atom x))) (λ v is. tt) tt
rewrite_keeps code current bounded p (apply o vs) round fine = applied_keeps code current bounded p o vs
rewrite_keeps code current bounded p (bind q v) round fine =
    if_some_keeps AllBodies (matched q v p.bindings) (λ bs. turns bs (value v)) (raises Error (framed badmatch v)) (λ bs is. tt) tt
rewrite_keeps code current bounded p (begin l t es) round fine = fine
rewrite_keeps code current bounded p (follow v syntax.none) round fine = tt
rewrite_keeps code current bounded p (follow v (syntax.more e es)) round fine = in_syntax e
rewrite_keeps code current bounded p finished round fine = round

settled_keeps : (t : Run) (e : Effect Run) → AllBodies t → Keeps AllBodies e → AllBodies (settled t e)
settled_keeps t (turns bs u) all kept = kept
settled_keeps t (leaves u) all kept = kept
settled_keeps t (raises c v) all kept = tt
settled_keeps t (tells p r) all kept = all

-- so a move keeps to them, and the answer of an act
pub moved_is : (code : List ModuleTree) (versions : List (List ℕ × ℕ)) (t : Run) → AreBounded code → AllBodies t → AllBodies (moved code versions t)
unfolding moved
moved_is code versions t bounded all =
    settled_keeps t (go (rewrite code versions) outside t) all (go_keeps (rewrite code versions) (rewrite_keeps code versions bounded) outside t tt all)

pub answered_is : (v : Datum) (t : Run) → AllBodies t → AllBodies (answered v t)
unfolding answered
answered_is v t all =
    let h : Handler = λ p r. turns p.bindings (value v) in
    settled_keeps t (go h outside t) all (go_keeps h (λ p r round fine. tt) outside t tt all)

pub moves_are : (code : List ModuleTree) (versions : List (List ℕ × ℕ)) (n : ℕ) (t : Run) → AreBounded code → AllBodies t → AllBodies (after_moves code versions n t)
moves_are code versions zero t bounded all = all
moves_are code versions (suc n) t bounded all = moved_is code versions (after_moves code versions n t) bounded (moves_are code versions n t bounded all)

-- what is begun is in a module with a short name
home_is : (bs : List (List ℕ × ℕ)) → AllRound bs → IsShort (home_of bs)
home_is [] round = no_name
home_is (b ∷ bs) round = round.0

told_round : (e : Effect Run) → Keeps AllBodies e → AllRound (told e).0.bodies
told_round (turns bs t) kept = tt
told_round (leaves t) kept = tt
told_round (raises c v) kept = tt
told_round (tells p r) kept = kept

display_place : (b : Bool) → IsShort (place_of (if b then acts act.Print else pure)).0
display_place true = no_name
display_place false = no_name

at_place : (p : Place) (r : Redex) → AllRound p.bodies → IsShort (place_of (next_at p r)).0
at_place p (begin l t es) round = home_is p.bodies round
at_place p (apply o vs) round = display_place (is_display o vs)
at_place p _ round = no_name

pub place_is : (t : Run) → AllBodies t → IsShort (place_of (next t)).0
unfolding next redex
place_is t all = at_place (redex t).0 (redex t).1 (told_round (go tells outside t) (go_keeps tells (λ p r round fine. round) outside t tt all))
