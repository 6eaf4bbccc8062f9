-- BODIES KEPT. What holds of each Body of an expression before a move holds of each Body after it, if it doesn't look at
-- bindings and holds of the Bodies that calls make. Said once, for any such fact: that levels stay low, that names are
-- short, and others.

use Rattle.std.proofs.Common.{◌≡◌, ◌⊎◌, inl, inr, ℕ, ◌+◌, Bool, true, false, cond, ◌&&◌, ◌==◌, nat_lt, List, [], ◌∷◌, ◌++◌, length, slice_get, codes, Option, None, Some, Ok, Err, refl, subst, arith}
use Rattle.std.proofs.lemmas.Option.{none-some, same_Some, option_and_then_some}
use Rattle.std.proofs.lemmas.Bool.{eqb-true}
use Rattle.std.specs.Option.{option_or, option_map}
use Rattle.edb_lang.specs.declared.small.Class.{Class}
use Rattle.edb_lang.specs.Terms as term
use Rattle.edb_lang.specs.Terms.{Datum, Captures, is_within, elements}
use Rattle.edb_lang.specs.ListTerms.{list_of, string_of, elements_of}
use Rattle.edb_lang.specs.Pairs.{Pairs, bound, captures_of, bindings_of}
use Rattle.edb_table.specs.BuiltIns.{BuiltIn, same_built_in}
use Rattle.edb_table.specs.Marking.{is_auto}
use Rattle.edb_syntax.specs.declared.operation.Operation.{Operation}
use Rattle.edb_syntax.specs.declared.operation.Operation.TheVariants as operation
use Rattle.edb_syntax.specs.Patterns as pattern
use Rattle.edb_syntax.specs.Patterns.{Pats, pats_count}
use Rattle.edb_syntax.specs.Syntax as syntax
use Rattle.edb_syntax.specs.Syntax.{Exp, Exps, Seq, Guards, After, ClauseTree, Clauses, FunctionTree, ModuleTree, Qualifiers}
use Rattle.edb_syntax.specs.Lookup.{version_in, function_in, exports}
use Rattle.edb_syntax.specs.FunForms.{Form, with_clauses, local, form_at}
use Rattle.edb_pure.specs.Answers.{Answer, limited_answer}
use Rattle.edb_pure.specs.Operators.{operate, operate_one}
use Rattle.edb_pure.specs.Table.{pure, of_one, of_two}
use Rattle.edb_pure.specs.Truths.{truth_of}
use Rattle.edb_moves.specs.Running.{Doing, written, call_in, Info, Outcome, gave, threw, Drawing, Leaf, string, variable, unbegun, conditions, making, making_local, making_remote, catching, trying, failed, comprehension, collecting, drawing, missing, Frame, sequence, match, select, and_then, or_then, generate, filter, gather, scope, caught, tried, waiting, resume, Run, value, raised, leaf, node, around, body, Runs, none, more, running, all_running, done_with, all_values, opening_call, value_of, values_of}
use Rattle.edb_moves.specs.Built.{tuple_built, list_built, list_with_tail_built}
use Rattle.edb_moves.specs.Matching.{matched, all_matched}
use Rattle.edb_moves.specs.Clauses.{chosen, chosen_clause, handler}
use Rattle.edb_moves.specs.Raises.{fails, fails_with, fails_by_arity}
use Rattle.edb_moves.specs.Versions.{version_for, by_name}
use Rattle.edb_moves.specs.Calls.{answered, most_nested, nested, entered, entered_in, apply_key, is_unshared, applied_fun, applied_name, built_in, own_call, local_call, called_module, remote_call, captured_pairs, form_call, fun_call}
use Rattle.edb_moves.specs.Comprehensions.{listed, with_more, drawn}
use Rattle.edb_moves.specs.Moves.{made_in, behind, outcome_of, leaf_move, operation_move, frame_move, rewrite, moved}
use Rattle.edb_moves.specs.Next.{told, redex}
use Rattle.edb_moves.specs.Plugging.{plugged}
use Rattle.edb_moves.specs.Innermost.{bodies_on_way, bodies_among, innermost}
use Rattle.edb_moves.specs.Going.{taken, Place, outside, operand, inside, within_body, Redex, at, apply, filled, finished, Effect, turns, leaves, raises, tells, Handler, if_some, within, raised_in, turned_in, passes, closed, go, go_first, settled}

-- some clause has so many patterns
abbrev pub HasCount : Clauses → ℕ → Type 0
HasCount syntax.no_clauses n = ⊥
HasCount (syntax.more_clauses (syntax.clause ps g s) cs) n = (pats_count ps ≡ n) ⊎ HasCount cs n

-- How a module names what a Body is of: the name and the arity of a function, or `fun` and how many patterns some clause of
-- a fun form has.
pub data IsNamedIn (x : ModuleTree) : List ℕ → ℕ → Type 0 where
  function : (f : List ℕ) (n : ℕ) (g : FunctionTree) → function_in x.functions f n ≡ Some g → IsNamedIn x g.name g.arity
  fun_form : (i j : ℕ) (cs : Clauses) (n : ℕ) → form_at x i ≡ Some (with_clauses j cs) → HasCount cs n → IsNamedIn x (codes "fun") n

mapped : {A B P : Type 0} (f : A → B) (o : Option A) (y : B) → option_map f o ≡ Some y → ((x : A) → o ≡ Some x → f x ≡ y → P) → P
mapped f None y e k = absurd (none-some y e)
mapped f (Some x) y e k = k x refl (same_Some (f x) y e)

-- a clause that is chosen has as many patterns as there are terms
count_of_matched : (ps : Pats) (vs : List Datum) (bs cs : Pairs) → all_matched ps vs bs ≡ Some cs → pats_count ps ≡ length vs
count_of_matched pattern.none [] bs cs e = refl
count_of_matched pattern.none (v ∷ vs) bs cs e = absurd (none-some cs e)
count_of_matched (pattern.more p ps) [] bs cs e = absurd (none-some cs e)
count_of_matched (pattern.more p ps) (v ∷ vs) bs cs e =
    option_and_then_some _ (matched p v bs) cs e (λ ds there is. let same : pats_count ps ≡ length vs = count_of_matched ps vs ds cs is in omega (arith, same))

first_or : {A : Type 0} (o u : Option A) (a : A) → option_or o u ≡ Some a → (o ≡ Some a) ⊎ (u ≡ Some a)
first_or (Some b) u a e = inl e
first_or None u a e = inr e

chosen_count : (me : ℕ) (sees hidden : Pairs) (cs : Clauses) (vs : List Datum) (c : Pairs × Seq) → chosen me sees hidden cs vs ≡ Some c → HasCount cs (length vs)
chosen_count me sees hidden syntax.no_clauses vs c e = absurd (none-some c e)
chosen_count me sees hidden (syntax.more_clauses (syntax.clause ps g s) cs) vs c e =
    elim (first_or (chosen_clause me sees hidden (syntax.clause ps g s) vs) (chosen me sees hidden cs vs) c e) [
      | inl first ↦ inl (option_and_then_some _ (all_matched ps vs sees) c first (λ bs there is. count_of_matched ps vs sees bs there))
      | inr later ↦ inr (chosen_count me sees hidden cs vs c later)
    ]

-- a fact of the module of a local call's stand-in
abbrev pub OfDoing : (ModuleTree → ℕ → Type 0) → Doing → Type 0
OfDoing M (written o) = Unit {0}
OfDoing M (call_in x k f) = M x k

-- B holds of each Body of an expression, and M of the module and version of each call that stands for a fun
abbrev mutual
  pub AllBodies : (Info → Type 0) → (ModuleTree → ℕ → Type 0) → Run → Type 0
  AllBodies B M (value v) = Unit {0}
  AllBodies B M (raised c v) = Unit {0}
  AllBodies B M (leaf l) = Unit {0}
  AllBodies B M (node o ts) = OfDoing M o × AllBodiesOf B M ts
  AllBodies B M (around f t) = AllBodies B M t
  AllBodies B M (body i t) = B i × AllBodies B M t

  pub AllBodiesOf : (Info → Type 0) → (ModuleTree → ℕ → Type 0) → Runs → Type 0
  AllBodiesOf B M none = Unit {0}
  AllBodiesOf B M (more t ts) = AllBodies B M t × AllBodiesOf B M ts

-- an expression of the syntax has no Body, nor have values
abbrev pub in_done : (B : Info → Type 0) (M : ModuleTree → ℕ → Type 0) (o : Operation) (ts : Runs) → AllBodiesOf B M ts → AllBodies B M (done_with o ts)
in_done B M operation.Tuple ts all = (tt, all)
in_done B M operation.List ts all = (tt, all)
in_done B M operation.ListWithTail ts all = (tt, all)
in_done B M (operation.Unary o) ts all = (tt, all)
in_done B M (operation.Binary o) ts all = (tt, all)
in_done B M operation.Send ts all = tt
in_done B M (operation.LocalCall f) ts all = (tt, all)
in_done B M operation.RemoteCall ts all = (tt, all)
in_done B M operation.FunCall ts all = (tt, all)

mutual
  pub in_syntax : (B : Info → Type 0) (M : ModuleTree → ℕ → Type 0) (e : Exp) → AllBodies B M (running e)
  in_syntax B M (syntax.int l i) = tt
  in_syntax B M (syntax.atom l a) = tt
  in_syntax B M (syntax.string l s) = tt
  in_syntax B M (syntax.float l) = tt
  in_syntax B M (syntax.variable l x) = tt
  in_syntax B M (syntax.apply l o es) = in_done B M o (all_running es) (all_in_syntax B M es)
  in_syntax B M (syntax.and_also l a b) = in_syntax B M a
  in_syntax B M (syntax.or_else l a b) = in_syntax B M a
  in_syntax B M (syntax.match l p e) = in_syntax B M e
  in_syntax B M (syntax.catch l e) = tt
  in_syntax B M (syntax.begin l s) = tt
  in_syntax B M (syntax.case l e cs) = in_syntax B M e
  in_syntax B M (syntax.if_clauses l cs) = tt
  in_syntax B M (syntax.receive l cs) = tt
  in_syntax B M (syntax.receive_after l cs e s) = tt
  in_syntax B M (syntax.try l s cs hs a) = tt
  in_syntax B M (syntax.fun_clauses l i cs) = tt
  in_syntax B M (syntax.fun_local l i f n) = tt
  in_syntax B M (syntax.fun_remote l m f n) = tt
  in_syntax B M (syntax.comprehension l e qs) = tt

  pub all_in_syntax : (B : Info → Type 0) (M : ModuleTree → ℕ → Type 0) (es : Exps) → AllBodiesOf B M (all_running es)
  all_in_syntax B M syntax.none = tt
  all_in_syntax B M (syntax.more e es) = (in_syntax B M e, all_in_syntax B M es)

pub in_values : (B : Info → Type 0) (M : ModuleTree → ℕ → Type 0) (vs : List Datum) → AllBodiesOf B M (all_values vs)
in_values B M [] = tt
in_values B M (v ∷ vs) = (tt, in_values B M vs)

pub in_opening : (B : Info → Type 0) (M : ModuleTree → ℕ → Type 0) (m f : List ℕ) (args : List Datum) → AllBodies B M (opening_call m f args)
in_opening B M m f args = (tt, (tt, (tt, in_values B M args)))

-- What goes from before a walk to after it: B and M hold before, B' and M' after; R holds of the level and the Bodies of a
-- place.
pub record Stays (B B' : Info → Type 0) (M M' : ModuleTree → ℕ → Type 0) (R : ℕ → List (ModuleTree × ℕ) → Type 0) : Type 0 where
  pub of_body : (i : Info) (bs : Pairs) → B i → B' (record i { bindings = bs })
  pub of_module : (x : ModuleTree) (k : ℕ) → M x k → M' x k
  pub of_place : (i : Info) (l : ℕ) (bodies : List (ModuleTree × ℕ)) → B i → R l bodies → R i.level ((i.home, i.version) ∷ bodies)

-- What the code has, and what calls make: M holds of each module of the code and of those that run, and a Body that a call
-- makes is in such a module, is named there, and is one level above the Body round it.
pub record CallsMake (code : List ModuleTree) (B' : Info → Type 0) (M : ModuleTree → ℕ → Type 0) (R : ℕ → List (ModuleTree × ℕ) → Type 0) : Type 0 where
  pub of_code : (m : List ℕ) (k : ℕ) (x : ModuleTree) → version_in code m k ≡ Some x → M x k
  pub of_round : (x : ModuleTree) (k l : ℕ) (bodies : List (ModuleTree × ℕ)) → R l ((x, k) ∷ bodies) → M x k
  pub of_call : (x : ModuleTree) (k l arity : ℕ) (name : List ℕ) (bodies : List (ModuleTree × ℕ)) (bs : Pairs) → M x k → R l bodies → IsNamedIn x name arity
      → B' (record { home = x; version = k; name = name; arity = arity; level = l + 1; bindings = bs })

module _ (B B' : Info → Type 0) (M M' : ModuleTree → ℕ → Type 0) (R : ℕ → List (ModuleTree × ℕ) → Type 0) (s : Stays B B' M M' R) where
  stays_doing : (o : Doing) → OfDoing M o → OfDoing M' o
  stays_doing (written o) all = tt
  stays_doing (call_in x k f) all = s.of_module x k all

  mutual
    pub stays : (t : Run) → AllBodies B M t → AllBodies B' M' t
    stays (value v) all = tt
    stays (raised c v) all = tt
    stays (leaf l) all = tt
    stays (node o ts) all = (stays_doing o all.0, all_stay ts all.1)
    stays (around f t) all = stays t all
    stays (body i t) all = (s.of_body i i.bindings all.0, stays t all.1)

    pub all_stay : (ts : Runs) → AllBodiesOf B M ts → AllBodiesOf B' M' ts
    all_stay none all = tt
    all_stay (more t ts) all = (stays t all.0, all_stay ts all.1)

  -- what a handler answers keeps to it: what the redex becomes, and, where nothing moves, the place
  abbrev pub Keeps : {X : Type 0} → (X → Type 0) → Effect X → Type 0
  Keeps S (turns bs t) = S t
  Keeps S (leaves u) = AllBodies B' M' u
  Keeps S (raises c v) = Unit {0}
  Keeps S (tells p r) = R p.level p.bodies

  abbrev pub Kept : Run → Type 0
  Kept = AllBodies B' M'

  abbrev pub OfRedex : Redex → Type 0
  OfRedex (apply o vs) = OfDoing M o
  OfRedex _ = Unit {0}

  abbrev pub IsKeeper : Handler → Type 0
  IsKeeper h = (p : Place) (r : Redex) → R p.level p.bodies → OfRedex r → Keeps Kept (h p r)

  pub if_some_keeps : {A X : Type 0} (S : X → Type 0) (o : Option A) (f : A → Effect X) (e : Effect X) → ((a : A) → o ≡ Some a → Keeps S (f a)) → Keeps S e → Keeps S (if_some o f e)
  if_some_keeps S (Some a) f e there not = there a refl
  if_some_keeps S None f e there not = not

  within_keeps : {X Y : Type 0} (S : X → Type 0) (T : Y → Type 0) (f : X → Y) (e : Effect X) → ((x : X) → S x → T (f x)) → Keeps S e → Keeps T (within f e)
  within_keeps S T f (turns bs t) goes kept = goes t kept
  within_keeps S T f (leaves u) goes kept = kept
  within_keeps S T f (raises c v) goes kept = tt
  within_keeps S T f (tells p r) goes kept = kept

  closed_keeps : (p : Place) (i : Info) (e : Effect Run) → B i → Keeps Kept e → Keeps Kept (closed p i e)
  closed_keeps p i (turns bs t) holds kept =
      if_some_keeps Kept (value_of t) (λ v. turns p.bindings (value v)) (turns p.bindings (body (record i { bindings = bs }) t)) (λ v is. tt) (s.of_body i bs holds, kept)
  closed_keeps p i (leaves t) holds kept = kept
  closed_keeps p i (raises c v) holds kept = tt
  closed_keeps p i (tells q r) holds kept = kept

  inside_round : (f : Frame) (p : Place) → R p.level p.bodies → R (inside f p).level (inside f p).bodies
  inside_round (sequence l syntax.none) p round = round
  inside_round (sequence l (syntax.more e es)) p round = round
  inside_round (match q) p round = round
  inside_round (select cs) p round = round
  inside_round (and_then e) p round = round
  inside_round (or_then e) p round = round
  inside_round (generate q e qs) p round = round
  inside_round (filter e qs) p round = round
  inside_round (gather d v) p round = round
  inside_round (scope bs) p round = round
  inside_round (caught bs) p round = round
  inside_round (tried bs cs hs) p round = round
  inside_round (waiting bs q) p round = round
  inside_round (resume o) p round = round

  raised_keeps : (f : Frame) (p : Place) (c : Class) (v : Datum) → Keeps Kept (raised_in f p c v)
  raised_keeps (sequence l es) p c v = tt
  raised_keeps (match q) p c v = tt
  raised_keeps (select cs) p c v = tt
  raised_keeps (and_then e) p c v = tt
  raised_keeps (or_then e) p c v = tt
  raised_keeps (generate q e qs) p c v = tt
  raised_keeps (filter e qs) p c v = tt
  raised_keeps (gather d w) p c v = tt
  raised_keeps (scope bs) p c v = tt
  raised_keeps (caught bs) p c v = tt
  raised_keeps (tried bs cs hs) p c v = if_some_keeps Kept (handler p.me bs hs c v) taken (raises c v) (λ chosen is. tt) tt
  raised_keeps (waiting bs q) p c v = tt
  raised_keeps (resume o) p c v = tt

  turned_keeps : (f : Frame) (p : Place) (cs : Pairs) (t : Run) → Kept t → Keeps Kept (turned_in f p cs t)
  turned_keeps (sequence l es) p cs t kept = kept
  turned_keeps (match q) p cs t kept = kept
  turned_keeps (select ds) p cs t kept = kept
  turned_keeps (and_then e) p cs t kept = kept
  turned_keeps (or_then e) p cs t kept = kept
  turned_keeps (generate q e qs) p cs t kept = kept
  turned_keeps (filter e qs) p cs t kept = kept
  turned_keeps (gather d w) p cs t kept = kept
  turned_keeps (scope bs) p cs t kept = kept
  turned_keeps (caught bs) p cs t kept = kept
  turned_keeps (tried bs ds hs) p cs t kept = kept
  turned_keeps (waiting bs q) p cs t kept = kept
  turned_keeps (resume o) p cs t kept = kept

  passes_keeps : (f : Frame) (p : Place) (e : Effect Run) → Keeps Kept e → Keeps Kept (passes f p e)
  passes_keeps f p (turns cs t) kept = turned_keeps f p cs t kept
  passes_keeps f p (leaves t) kept = kept
  passes_keeps f p (raises c v) kept = raised_keeps f p c v
  passes_keeps f p (tells q r) kept = kept

  mutual
    unfolding go

    pub go_keeps : (h : Handler) → IsKeeper h → (p : Place) (t : Run) → R p.level p.bodies → AllBodies B M t → Keeps Kept (go h p t)
    go_keeps h k p (value v) round all = k p finished round tt
    go_keeps h k p (raised c v) round all = k p finished round tt
    go_keeps h k p (leaf l) round all = k p (at l) round tt
    go_keeps h k p (node o ts) round all =
        if_some_keeps Kept (values_of ts) (λ vs. h p (apply o vs)) (within (node o) (go_first h (operand p) ts)) (λ vs is. k p (apply o vs) round all.0)
        (within_keeps (AllBodiesOf B' M') Kept (node o) (go_first h (operand p) ts) (λ us a. (stays_doing o all.0, a)) (first_keeps h k (operand p) ts round all.1))
    go_keeps h k p (around f t) round all =
        if_some_keeps Kept (value_of t) (λ v. h p (filled f v)) (passes f p (go h (inside f p) t)) (λ v is. k p (filled f v) round tt)
        (passes_keeps f p (go h (inside f p) t) (go_keeps h k (inside f p) t (inside_round f p round) all))
    go_keeps h k p (body i t) round all =
        closed_keeps p i (go h (within_body i p) t) all.0 (go_keeps h k (within_body i p) t (s.of_place i p.level p.bodies all.0 round) all.1)

    first_keeps : (h : Handler) → IsKeeper h → (p : Place) (ts : Runs) → R p.level p.bodies → AllBodiesOf B M ts → Keeps (AllBodiesOf B' M') (go_first h p ts)
    first_keeps h k p none round all = round
    first_keeps h k p (more t ts) round all =
        if_some_keeps (AllBodiesOf B' M') (value_of t) (λ v. within (more t) (go_first h p ts)) (within (λ u. more u ts) (go h p t))
        (λ v is. within_keeps (AllBodiesOf B' M') (AllBodiesOf B' M') (more t) (go_first h p ts) (λ us a. (stays t all.0, a)) (first_keeps h k p ts round all.1))
        (within_keeps Kept (AllBodiesOf B' M') (λ u. more u ts) (go h p t) (λ u a. (a, all_stay ts all.1)) (go_keeps h k p t round all.0))

  pub settled_keeps : (t : Run) (e : Effect Run) → AllBodies B M t → Keeps Kept e → Kept (settled t e)
  settled_keeps t (turns bs u) all kept = kept
  settled_keeps t (leaves u) all kept = kept
  settled_keeps t (raises c v) all kept = tt
  settled_keeps t (tells p r) all kept = stays t all

  -- THE TABLE OF MOVES keeps to it.
  cond_keeps : (b : Bool) (d e : Effect Run) → Keeps Kept d → Keeps Kept e → Keeps Kept (cond b d e)
  cond_keeps true d e left right = left
  cond_keeps false d e left right = right

  answered_keeps : (p : Place) (a : Answer) → Keeps Kept (answered p a)
  answered_keeps p (Ok v) = tt
  answered_keeps p (Err r) = tt

  nested_keeps : (p : Place) (b : Run) → Kept b → Keeps Kept (nested p b)
  nested_keeps p b kept =
      let inner : Effect Run = cond (nat_lt (length p.bodies) most_nested) (turns p.bindings b) (fails (codes "system_limit")) in
      cond_keeps p.is_tail (leaves b) inner kept (cond_keeps (nat_lt (length p.bodies) most_nested) (turns p.bindings b) (fails (codes "system_limit")) kept tt)

  applied_fun_keeps : (p : Place) (f list : Datum) → Keeps Kept (applied_fun p f list)
  applied_fun_keeps p f list =
      if_some_keeps Kept (elements_of list) (λ us. turns p.bindings (node (written operation.FunCall) (all_values (f ∷ us)))) (fails (codes "badarg"))
      (λ us is. (tt, in_values B' M' (f ∷ us))) tt

  applied_name_keeps : (p : Place) (m f list : Datum) → Keeps Kept (applied_name p m f list)
  applied_name_keeps p m f list =
      if_some_keeps Kept (elements_of list) (λ us. turns p.bindings (node (written operation.RemoteCall) (all_values (m ∷ f ∷ us)))) (fails (codes "badarg"))
      (λ us is. (tt, in_values B' M' (m ∷ f ∷ us))) tt

  built_in_keeps : (p : Place) (key : BuiltIn) (vs : List Datum) → Keeps Kept (built_in p key vs)
  built_in_keeps p key [] = answered_keeps p (pure key p.me [])
  built_in_keeps p key (a ∷ []) = answered_keeps p (pure key p.me (a ∷ []))
  built_in_keeps p key (a ∷ b ∷ []) =
      cond_keeps (same_built_in key (apply_key 2)) (applied_fun p a b) (answered p (pure key p.me (a ∷ b ∷ []))) (applied_fun_keeps p a b) (answered_keeps p (pure key p.me (a ∷ b ∷ [])))
  built_in_keeps p key (a ∷ b ∷ c ∷ []) =
      cond_keeps (same_built_in key (apply_key 3)) (applied_name p a b c) (answered p (pure key p.me (a ∷ b ∷ c ∷ []))) (applied_name_keeps p a b c) (answered_keeps p (pure key p.me (a ∷ b ∷ c ∷ [])))
  built_in_keeps p key (a ∷ b ∷ c ∷ (d ∷ vs)) = answered_keeps p (pure key p.me (a ∷ b ∷ c ∷ (d ∷ vs)))

  module _ (code : List ModuleTree) (current : List (List ℕ × ℕ)) (m : CallsMake code B' M R) where
    entered_keeps : (p : Place) (x : ModuleTree) (k : ℕ) (name : List ℕ) (arity : ℕ) (cs : Clauses) (hidden : Pairs) (vs : List Datum) → R p.level p.bodies → M x k
        → ((c : Pairs × Seq) → chosen p.me [] hidden cs vs ≡ Some c → IsNamedIn x name arity) → Keeps Kept (entered p x k name arity cs hidden vs)
    entered_keeps p x k name arity cs hidden vs round home named =
        let becomes : Pairs × Seq → Run = λ c. body (record { home = x; version = k; name = name; arity = arity; level = p.level + 1; bindings = c.0 }) (leaf (unbegun c.1)) in
        if_some_keeps Kept (chosen p.me [] hidden cs vs) (λ c. nested p (becomes c)) (fails (codes "function_clause"))
        (λ c is. nested_keeps p (becomes c) (m.of_call x k p.level arity name p.bodies c.0 home round (named c is), tt)) tt

    entered_in_keeps : (p : Place) (x : ModuleTree) (k : ℕ) (f : List ℕ) (vs : List Datum) (e : Effect Run) → R p.level p.bodies → M x k → Keeps Kept e
        → Keeps Kept (entered_in p x k f vs e)
    entered_in_keeps p x k f vs e round home other =
        if_some_keeps Kept (function_in x.functions f (length vs)) (λ g. entered p x k g.name g.arity g.clauses [] vs) e
        (λ g is. entered_keeps p x k g.name g.arity g.clauses [] vs round home (λ c there. function f (length vs) g is)) other

    own_keeps : (p : Place) (x : ModuleTree) (k : ℕ) (f : List ℕ) (vs : List Datum) → R p.level p.bodies → M x k → Keeps Kept (own_call p x k f vs)
    own_keeps p x k f vs round home =
        let key : BuiltIn = (codes "erlang", (f, length vs)) in
        entered_in_keeps p x k f vs (cond (is_auto key && is_unshared key) (built_in p key vs) (fails (codes "undef"))) round home
        (cond_keeps (is_auto key && is_unshared key) (built_in p key vs) (fails (codes "undef")) (built_in_keeps p key vs) tt)

    local_keeps : (p : Place) (bodies : List (ModuleTree × ℕ)) (f : List ℕ) (vs : List Datum) → R p.level p.bodies → R p.level bodies → Keeps Kept (local_call p bodies f vs)
    local_keeps p [] f vs round here = tt
    local_keeps p (b ∷ bs) f vs round here = own_keeps p b.0 b.1 f vs round (m.of_round b.0 b.1 p.level bs here)

    pub of_called : (p : Place) (h : List ℕ) (x : ModuleTree × ℕ) → called_module code current p h ≡ Some x → M x.0 x.1
    of_called p h x e =
        option_and_then_some _ (version_for current (by_name p.bodies) h) x e (λ k there is.
        mapped (λ (y : ModuleTree). (y, k)) (version_in code h k) x is (λ y found same. subst (λ (z : ModuleTree × ℕ). M z.0 z.1) same (m.of_code h k y found)))

    remote_keeps : (p : Place) (h f : List ℕ) (vs : List Datum) → R p.level p.bodies → Keeps Kept (remote_call code current p h f vs)
    remote_keeps p h f vs round =
        let key : BuiltIn = (h, (f, length vs)) in
        let undef : Effect Run = fails (codes "undef") in
        let enters : ModuleTree × ℕ → Effect Run = λ x. cond (exports x.0 f (length vs)) (entered_in p x.0 x.1 f vs undef) undef in
        cond_keeps (is_unshared key) (built_in p key vs) (if_some (called_module code current p h) enters undef) (built_in_keeps p key vs)
        (if_some_keeps Kept (called_module code current p h) enters undef
        (λ x is. cond_keeps (exports x.0 f (length vs)) (entered_in p x.0 x.1 f vs undef) undef (entered_in_keeps p x.0 x.1 f vs undef round (of_called p h x is) tt) tt) tt)

    form_keeps : (p : Place) (x : ModuleTree) (k i arity : ℕ) (cs : Captures) (form : Form) (vs : List Datum) → R p.level p.bodies → M x k → form_at x i ≡ Some form → arity ≡ length vs
        → Keeps Kept (form_call p x k arity cs form vs)
    form_keeps p x k i arity cs (with_clauses j clauses) vs round home is same =
        entered_keeps p x k (codes "fun") arity clauses (captured_pairs cs) vs round home
        (λ c there. fun_form i j clauses arity is (rw same (chosen_count p.me [] (captured_pairs cs) clauses vs c there)))
    form_keeps p x k i arity cs (local j f n) vs round home is same = (s.of_module x k home, in_values B' M' vs)

    made_keeps : (p : Place) (h : List ℕ) (k i a : ℕ) (cs : Captures) (vs : List Datum) (b : Bool) → (a == length vs) ≡ b → R p.level p.bodies
        → Keeps Kept (cond b (if_some (version_in code h k) (λ x. if_some (form_at x i) (λ form. form_call p x k a cs form vs) (fails (codes "undef"))) (fails (codes "undef"))) (fails_by_arity (term.made h k i a cs) vs))
    made_keeps p h k i a cs vs false same round = tt
    made_keeps p h k i a cs vs true same round =
        if_some_keeps Kept (version_in code h k) (λ x. if_some (form_at x i) (λ form. form_call p x k a cs form vs) (fails (codes "undef"))) (fails (codes "undef"))
        (λ x found. if_some_keeps Kept (form_at x i) (λ form. form_call p x k a cs form vs) (fails (codes "undef"))
        (λ form is. form_keeps p x k i a cs form vs round (m.of_code h k x found) is (eqb-true a (length vs) same)) tt) tt

    fun_keeps : (p : Place) (f : Datum) (vs : List Datum) → R p.level p.bodies → Keeps Kept (fun_call code p f vs)
    fun_keeps p (term.made h k i a cs) vs round = made_keeps p h k i a cs vs (a == length vs) refl round
    fun_keeps p (term.named h f a) vs round =
        cond_keeps (a == length vs) (turns p.bindings (node (written operation.RemoteCall) (all_values (term.atom h ∷ term.atom f ∷ vs)))) (fails_by_arity (term.named h f a) vs)
        (tt, in_values B' M' (term.atom h ∷ term.atom f ∷ vs)) tt
    fun_keeps p _ vs round = tt

    remote_operands : (p : Place) (vs : List Datum) → R p.level p.bodies → Keeps Kept (operation_move code current p (written operation.RemoteCall) vs)
    remote_operands p (term.atom h ∷ term.atom f ∷ vs) round = remote_keeps p h f vs round
    remote_operands p _ round = tt

    operation_keeps : (p : Place) (o : Doing) (vs : List Datum) → R p.level p.bodies → OfDoing M o → Keeps Kept (operation_move code current p o vs)
    operation_keeps p (written operation.Tuple) vs round of = answered_keeps p (tuple_built vs)
    operation_keeps p (written operation.List) vs round of = answered_keeps p (list_built vs)
    operation_keeps p (written operation.ListWithTail) vs round of = answered_keeps p (list_with_tail_built vs)
    operation_keeps p (written (operation.Unary o)) vs round of = answered_keeps p (of_one (operate_one o) p.me vs)
    operation_keeps p (written (operation.Binary o)) vs round of = answered_keeps p (of_two (operate o) p.me vs)
    operation_keeps p (written (operation.LocalCall f)) vs round of = local_keeps p p.bodies f vs round round
    operation_keeps p (call_in x k f) vs round of = own_keeps p x k f vs round of
    operation_keeps p (written operation.RemoteCall) vs round of = remote_operands p vs round
    operation_keeps p (written operation.FunCall) (f ∷ vs) round of = fun_keeps p f vs round
    operation_keeps p (written operation.FunCall) [] round of = tt
    operation_keeps p (written operation.Send) vs round of = round

    listed_keeps : (e : Exp) (qs : Qualifiers) → Kept (listed e qs)
    listed_keeps e syntax.no_qualifiers = tt
    listed_keeps e (syntax.more_qualifiers (syntax.generator q x) qs) = in_syntax B' M' x
    listed_keeps e (syntax.more_qualifiers (syntax.filter x) qs) = in_syntax B' M' x

    drawn_keeps : (p : Place) (d : Drawing) (v : Datum) → Keeps Kept (drawn p d v)
    drawn_keeps p d term.nil = tt
    drawn_keeps p d (term.cons h t) =
        if_some_keeps Kept (matched d.pattern h [])
        (λ new. turns p.bindings (around (gather d t) (around (scope (new ++ p.bindings)) (listed d.element d.rest))))
        (turns p.bindings (leaf (drawing d t)))
        (λ new is. listed_keeps d.element d.rest) tt
    drawn_keeps p d _ = tt

    made_in_keeps : (p : Place) (bodies : List (ModuleTree × ℕ)) (i n : ℕ) (along : Pairs) → Keeps Kept (made_in p bodies i n along)
    made_in_keeps p [] i n along = tt
    made_in_keeps p (b ∷ bs) i n along = answered_keeps p (limited_answer (term.made b.0.name b.1 i n (captures_of along)))

    behind_keeps : (kept : Pairs) (a : After) (t : Run) → Kept t → Kept (behind kept a t)
    behind_keeps kept syntax.no_after t all = all
    behind_keeps kept (syntax.after q) t all = all

    leaf_keeps : (p : Place) (l : Leaf) → R p.level p.bodies → Keeps Kept (leaf_move p l)
    leaf_keeps p (unbegun (syntax.sequence e es)) round = in_syntax B' M' e
    leaf_keeps p (variable x) round =
        if_some_keeps Kept (bound x p.bindings) (λ v. turns p.bindings (value v)) (fails_with (codes "unbound") (term.atom x)) (λ v is. tt) tt
    leaf_keeps p (string q) round = answered_keeps p (limited_answer (string_of q))
    leaf_keeps p (conditions cs) round = if_some_keeps Kept (chosen p.me p.bindings [] cs []) taken (fails (codes "if_clause")) (λ c is. tt) tt
    leaf_keeps p (making i n) round = made_in_keeps p p.bodies i n (bindings_of p.bindings)
    leaf_keeps p (making_local i n) round = made_in_keeps p p.bodies i n []
    leaf_keeps p (making_remote h f n) round = answered_keeps p (limited_answer (term.named h f n))
    leaf_keeps p (catching e) round = in_syntax B' M' e
    leaf_keeps p (trying q cs hs a) round = behind_keeps p.bindings a (around (tried p.bindings cs hs) (leaf (unbegun q))) tt
    leaf_keeps p (failed c v q) round = tt
    leaf_keeps p (comprehension e qs) round = listed_keeps e qs
    leaf_keeps p (collecting e) round = (tt, (in_syntax B' M' e, tt))
    leaf_keeps p (drawing d v) round = drawn_keeps p d v
    leaf_keeps p (missing k) round = round

    outcome_keeps : (p : Place) (o : Outcome) → Keeps Kept (outcome_of p o)
    outcome_keeps p (gave v) = tt
    outcome_keeps p (threw c v) = tt

    frame_keeps : (p : Place) (f : Frame) (v : Datum) → Keeps Kept (frame_move p f v)
    frame_keeps p (sequence l syntax.none) v = tt
    frame_keeps p (sequence l (syntax.more e es)) v = tt
    frame_keeps p (match q) v = if_some_keeps Kept (matched q v p.bindings) (λ bs. turns bs (value v)) (fails_with (codes "badmatch") v) (λ bs is. tt) tt
    frame_keeps p (select cs) v = if_some_keeps Kept (chosen p.me p.bindings [] cs (v ∷ [])) taken (fails_with (codes "case_clause") v) (λ c is. tt) tt
    frame_keeps p (and_then e) v =
        let goes : Bool → Effect Run = λ b. cond b (turns p.bindings (running e)) (turns p.bindings (value v)) in
        if_some_keeps Kept (truth_of v) goes (fails (codes "badarg"))
        (λ b is. cond_keeps b (turns p.bindings (running e)) (turns p.bindings (value v)) (in_syntax B' M' e) tt) tt
    frame_keeps p (or_then e) v =
        let goes : Bool → Effect Run = λ b. cond b (turns p.bindings (value v)) (turns p.bindings (running e)) in
        if_some_keeps Kept (truth_of v) goes (fails (codes "badarg"))
        (λ b is. cond_keeps b (turns p.bindings (value v)) (turns p.bindings (running e)) tt (in_syntax B' M' e)) tt
    frame_keeps p (generate q e qs) v = drawn_keeps p (record { gathered = []; pattern = q; element = e; rest = qs }) v
    frame_keeps p (gather d rest) v =
        let e : Drawing = with_more d (elements v) in
        cond_keeps (is_within (list_of e.gathered term.nil)) (turns p.bindings (leaf (drawing e rest))) (fails (codes "system_limit")) tt tt
    frame_keeps p (filter e qs) v =
        let goes : Bool → Effect Run = λ b. cond b (turns p.bindings (listed e qs)) (turns p.bindings (value term.nil)) in
        if_some_keeps Kept (truth_of v) goes (fails_with (codes "bad_filter") v)
        (λ b is. cond_keeps b (turns p.bindings (listed e qs)) (turns p.bindings (value term.nil)) (listed_keeps e qs) tt) tt
    frame_keeps p (scope bs) v = tt
    frame_keeps p (caught kept) v = tt
    frame_keeps p (tried kept syntax.no_clauses hs) v = tt
    frame_keeps p (tried kept (syntax.more_clauses c cs) hs) v =
        if_some_keeps Kept (chosen p.me p.bindings [] (syntax.more_clauses c cs) (v ∷ [])) taken (fails_with (codes "try_clause") v) (λ c is. tt) tt
    frame_keeps p (waiting kept q) v = tt
    frame_keeps p (resume o) v = outcome_keeps p o

    pub rewrite_keeps : IsKeeper (rewrite code current)
    rewrite_keeps p (at l) round of = leaf_keeps p l round
    rewrite_keeps p (apply o vs) round of = operation_keeps p o vs round of
    rewrite_keeps p (filled f v) round of = frame_keeps p f v
    rewrite_keeps p finished round of = round

    -- ONE MOVE
    pub moved_keeps : (me : ℕ) (t : Run) → R 0 [] → AllBodies B M t → AllBodies B' M' (moved code current me t)
    unfolding moved
    moved_keeps me t round all = settled_keeps t (go (rewrite code current) (outside me) t) all (go_keeps (rewrite code current) rewrite_keeps (outside me) t round all)

  -- THE ANSWER OF AN ACT
  pub plugged_keeps : (me : ℕ) (answer : Answer) (t : Run) → R 0 [] → AllBodies B M t → AllBodies B' M' (plugged me answer t)
  unfolding plugged
  plugged_keeps me answer t round all =
      let h : Handler = λ p r. answered p answer in
      settled_keeps t (go h (outside me) t) all (go_keeps h (λ p r round of. answered_keeps p answer) (outside me) t round all)

  -- THE PLACE OF THE REDEX
  told_round : (outer : Place) (e : Effect Run) → R outer.level outer.bodies → Keeps Kept e → R (told outer e).0.level (told outer e).0.bodies
  told_round outer (turns bs t) round kept = round
  told_round outer (leaves t) round kept = round
  told_round outer (raises c v) round kept = round
  told_round outer (tells p r) round kept = kept

  pub redex_round : (me : ℕ) (t : Run) → R 0 [] → AllBodies B M t → R (redex me t).0.level (redex me t).0.bodies
  unfolding redex
  redex_round me t round all = told_round (outside me) (go tells (outside me) t) round (go_keeps tells (λ p r round of. round) (outside me) t round all)

-- Bodies on the way to the redex are among them.
abbrev pub EachOnWay : (Info → Type 0) → List (Info × Run) → Type 0
EachOnWay B [] = Unit {0}
EachOnWay B (b ∷ bs) = B b.0 × EachOnWay B bs

joined : (B : Info → Type 0) (xs ys : List (Info × Run)) → EachOnWay B xs → EachOnWay B ys → EachOnWay B (xs ++ ys)
joined B [] ys left right = right
joined B (x ∷ xs) ys left right = (left.0, joined B xs ys left.1 right)

if_some_each : (B : Info → Type 0) (o : Option Datum) (xs ys : List (Info × Run)) → EachOnWay B xs → EachOnWay B ys → EachOnWay B (if_some o (λ v. xs) ys)
if_some_each B (Some v) xs ys left right = left
if_some_each B None xs ys left right = right

mutual
  pub each_on_way : (B : Info → Type 0) (M : ModuleTree → ℕ → Type 0) (t : Run) → AllBodies B M t → EachOnWay B (bodies_on_way t)
  each_on_way B M (value v) all = tt
  each_on_way B M (raised c v) all = tt
  each_on_way B M (leaf l) all = tt
  each_on_way B M (node o ts) all = each_among B M ts all.1
  each_on_way B M (around f t) all = each_on_way B M t all
  each_on_way B M (body i t) all = joined B (bodies_on_way t) ((i, t) ∷ []) (each_on_way B M t all.1) (all.0, tt)

  pub each_among : (B : Info → Type 0) (M : ModuleTree → ℕ → Type 0) (ts : Runs) → AllBodiesOf B M ts → EachOnWay B (bodies_among ts)
  each_among B M none all = tt
  each_among B M (more t ts) all = if_some_each B (value_of t) (bodies_among ts) (bodies_on_way t) (each_among B M ts all.1) (each_on_way B M t all.0)

first_holds : (B : Info → Type 0) (bs : List (Info × Run)) (i : Info) → EachOnWay B bs → option_map (λ b. b.0) (slice_get bs 0) ≡ Some i → B i
first_holds B [] i all e = absurd (none-some i e)
first_holds B (b ∷ bs) i all e = subst B (same_Some b.0 i e) all.0

-- and so is the innermost
pub innermost_holds : (B : Info → Type 0) (M : ModuleTree → ℕ → Type 0) (t : Run) (i : Info) → AllBodies B M t → innermost t ≡ Some i → B i
innermost_holds B M t i all e = first_holds B (bodies_on_way t) i (each_on_way B M t all) e
