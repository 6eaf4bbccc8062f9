-- The pure move: one step of a running expression.
--
-- `go` walks from the root to the leftmost innermost redex and hands it, with its place, to a handler.
-- What the handler answers comes back out through the nodes round the redex: a tree is put back into its
-- node, a raise goes outward, a tail call takes the place of the innermost Body. `rewrite` is the table
-- of moves, a row a clause. What is next and an act's answer are the same walk with other handlers.

use Rattle.std.specs.Prelude.{ℕ, ℤ, pos, negsuc, ◌+◌, ◌+ℤ◌, ◌^◌, Bool, true, false, if◌then◌else◌, ◌&&◌, ◌==◌, nat_lt, List, [], ◌∷◌, length, Option, None, Some, codes}
use Rattle.std.specs.Ordering.{is_eq}
use Rattle.edb_lang.specs.declared.small.Op.{Op}
use Rattle.edb_lang.specs.declared.small.Op.TheVariants.{Add}
use Rattle.edb_lang.specs.declared.small.Class.{Class}
use Rattle.edb_lang.specs.declared.small.Class.TheVariants.{Error, Exit, Throw}
use Rattle.edb_lang.specs.Terms as term
use Rattle.edb_lang.specs.Terms.{Datum, framed}
use Rattle.edb_lang.specs.Order.{term_cmp}
use Rattle.edb_lang.specs.Pairs.{Pairs, bound, with_pair}
use Rattle.edb_lang.specs.Syntax as syntax
use Rattle.edb_lang.specs.Syntax.{Pat, Exp, Exps, FunctionTree, ModuleTree, line_of}
use Rattle.edb_lang.specs.TermText.{same_name}
use Rattle.edb_lang.specs.declared.act.ActKind.{ActKind}
use Rattle.edb_lang.specs.declared.act.ActKind.TheVariants as act
use Rattle.edb_model.specs.Running.{Operation, operate, local_call, remote_call, Info, Run, value, variable, node, match, sequence, body, raised, Runs, none, more, running, unbegun, value_of, values_of}
use Rattle.edb_model.specs.Lookup.{version_for, function_for}

-- What a redex sees of the tree round it: the level and bindings of the innermost Body, whether the redex
-- is all that is left of that Body, and the module and version of each Body, innermost first.
pub record Place : Type 0 where
  pub level : ℕ
  pub bindings : Pairs
  pub is_tail : Bool
  pub bodies : List (List ℕ × ℕ)

-- outside of every Body
abbrev pub outside : Place
outside = record { level = 0; bindings = []; is_tail = false; bodies = [] }

-- an operand is never all that is left
abbrev pub operand : Place → Place
operand p = record p { is_tail = false }

-- the first expression of a sequence is all that is left where no other follows
abbrev pub before : Exps → Place → Place
before syntax.none p = p
before (syntax.more e es) p = operand p

-- within a Body
abbrev pub within_body : Info → Place → Place
within_body i p = record { level = i.level; bindings = i.bindings; is_tail = true; bodies = (i.home, i.version) ∷ p.bodies }

-- What stands at the redex: a variable; an operation on values; a match of a value; a sequence whose
-- first expression isn't begun; one whose first expression is a value; nothing, where the whole
-- expression is a value or an exception.
pub data Redex : Type 0 where
  look : List ℕ → Redex
  apply : Operation → List Datum → Redex
  bind : Pat → Datum → Redex
  begin : ℕ → Run → Exps → Redex
  follow : Datum → Exps → Redex
  finished : Redex

-- What a handler answers: the redex becomes this tree, under these bindings; the innermost Body is
-- replaced by this one; an exception is raised; nothing moves, and this is what stands there.
pub data Effect (X : Type 0) : Type 0 where
  turns : Pairs → X → Effect X
  leaves : Run → Effect X
  raises : Class → Datum → Effect X
  tells : Place → Redex → Effect X

abbrev pub within : {X Y : Type 0} → (X → Y) → Effect X → Effect Y
within f (turns bs t) = turns bs (f t)
within f (leaves t) = leaves t
within f (raises c v) = raises c v
within f (tells p r) = tells p r

-- what becomes of a value that may be there
abbrev pub if_some : {A B : Type 0} → Option A → (A → B) → B → B
if_some (Some a) then_ else_ = then_ a
if_some None then_ else_ = else_

-- A Body keeps the bindings that its redex left; once its sequence is one value it becomes that value,
-- and what is round it keeps its own bindings.
abbrev pub closed : Place → Info → Effect Run → Effect Run
closed p i (turns bs t) = if_some (value_of t) (λ v. turns p.bindings (value v)) (turns p.bindings (body (record i { bindings = bs }) t))
closed p i (leaves t) = turns p.bindings t
closed p i (raises c v) = raises c v
closed p i (tells q r) = tells q r

abbrev pub Handler : Type 0
Handler = Place → Redex → Effect Run

unfoldable mutual
  pub go : Handler → Place → Run → Effect Run
  go h p (value v) = h p finished
  go h p (raised c v) = h p finished
  go h p (variable x) = h p (look x)
  go h p (node o ts) = if_some (values_of ts) (λ vs. h p (apply o vs)) (within (node o) (go_first h (operand p) ts))
  go h p (match q t) = if_some (value_of t) (λ v. h p (bind q v)) (within (match q) (go h (operand p) t))
  go h p (sequence false l t es) = h p (begin l t es)
  go h p (sequence true l t es) =
      if_some (value_of t) (λ v. h p (follow v es)) (within (λ u. sequence true l u es) (go h (before es p) t))
  go h p (body i t) = closed p i (go h (within_body i p) t)

  -- the first operand that is no value
  pub go_first : Handler → Place → Runs → Effect Runs
  go_first h p none = tells p finished
  go_first h p (more t ts) =
      if_some (value_of t) (λ v. within (more t) (go_first h p ts)) (within (λ u. more u ts) (go h p t))

-- the whole expression after the answer; where nothing moves it stays
abbrev pub settled : Run → Effect Run → Run
settled t (turns bs u) = u
settled t (leaves u) = u
settled t (raises c v) = raised c v
settled t (tells p r) = t

-- an error whose reason is this atom
abbrev pub error : {X : Type 0} → List ℕ → Effect X
error reason = raises Error (term.atom reason)

-- integers go from -2^127 to 2^127 - 1
abbrev pub fits : ℤ → Bool
fits (pos n) = nat_lt n (2 ^ 127)
fits (negsuc n) = nat_lt n (2 ^ 127)

-- a sum of integers, `system_limit` where it doesn't fit; `badarith` of anything else
abbrev pub operated : Place → Op → List Datum → Effect Run
operated p Add (term.int a ∷ (term.int b ∷ [])) =
    if fits (a +ℤ b) then turns p.bindings (value (term.int (a +ℤ b))) else error (codes "system_limit")
operated p o vs = error (codes "badarith")

-- A variable without a value takes it; one that has a value matches an equal one. The new bindings.
abbrev pub matched : Pat → Datum → Pairs → Option Pairs
matched (syntax.variable l x) v bs =
    if_some (bound x bs) (λ w. if is_eq (term_cmp w v) then Some bs else None) (Some (with_pair x v bs))

-- patterns and values one by one, each seeing what those before it bound
abbrev pub all_matched : List Pat → List Datum → Pairs → Option Pairs
all_matched [] [] bs = Some bs
all_matched (q ∷ qs) (v ∷ vs) bs = if_some (matched q v bs) (λ cs. all_matched qs vs cs) None
all_matched _ _ bs = None

-- calls nest at most this deep
abbrev pub most_nested : ℕ
most_nested = 16384

-- The Body of a function's call: its level is one more than that of the innermost Body round the call.
abbrev pub body_of : Place → List ℕ → ℕ → FunctionTree → Pairs → Run
body_of p m k g bs =
    body (record { home = m; version = k; name = g.name; arity = length g.parameters; level = p.level + 1; bindings = bs })
    (unbegun g.first g.rest)

-- A function entered. A call that is all that is left of a Body replaces that Body.
abbrev pub entered : Place → List ℕ → ℕ → FunctionTree → List Datum → Effect Run
entered p m k g vs =
    if_some (all_matched g.parameters vs [])
    (λ bs. if p.is_tail then leaves (body_of p m k g bs)
    else if nat_lt (length p.bodies) most_nested then turns p.bindings (body_of p m k g bs)
    else error (codes "system_limit"))
    (error (codes "function_clause"))

-- A call of m:f with these arguments, from inside the module or not.
abbrev pub called : List ModuleTree → List (List ℕ × ℕ) → Place → Bool → List ℕ → List ℕ → List Datum → Effect Run
called code current p inside m f vs =
    if_some (version_for m p.bodies current)
    (λ k. if_some (function_for code m k inside f (length vs)) (λ g. entered p m k g vs) (error (codes "undef")))
    (error (codes "undef"))

-- `erlang:display` of one operand is no pure move but a shared act
abbrev pub is_display : Operation → List Datum → Bool
is_display remote_call (term.atom m ∷ (term.atom f ∷ (v ∷ []))) = same_name m (codes "erlang") && same_name f (codes "display")
is_display _ _ = false

-- the module of the innermost Body
abbrev pub home_of : List (List ℕ × ℕ) → List ℕ
home_of [] = []
home_of (b ∷ bs) = b.0

-- an operation on values
abbrev pub applied : List ModuleTree → List (List ℕ × ℕ) → Place → Operation → List Datum → Effect Run
applied code current p (operate o) vs = operated p o vs
applied code current p (local_call f) vs = called code current p true (home_of p.bodies) f vs
applied code current p remote_call (term.atom m ∷ (term.atom f ∷ vs)) = called code current p false m f vs
applied code current p remote_call vs = error (codes "badarg")

-- the reason of a match that fails
abbrev pub badmatch : Datum → Datum
badmatch v = term.tuple (term.more (term.atom (codes "badmatch")) (term.more v term.none))

-- the reason of a look at a variable that has no value
abbrev pub unbound : Datum → Datum
unbound v = term.tuple (term.more (term.atom (codes "unbound")) (term.more v term.none))

-- the table of moves
abbrev pub rewrite : List ModuleTree → List (List ℕ × ℕ) → Handler
rewrite code current p (look x) = if_some (bound x p.bindings) (λ v. turns p.bindings (value v)) (raises Error (framed unbound (term.atom x)))
rewrite code current p (apply o vs) = applied code current p o vs
rewrite code current p (bind q v) = if_some (matched q v p.bindings) (λ bs. turns bs (value v)) (raises Error (framed badmatch v))
rewrite code current p (begin l t es) = turns p.bindings (sequence true l t es)
rewrite code current p (follow v syntax.none) = turns p.bindings (value v)
rewrite code current p (follow v (syntax.more e es)) = turns p.bindings (unbegun e es)
rewrite code current p finished = tells p finished

-- one move
unfoldable pub moved : List ModuleTree → List (List ℕ × ℕ) → Run → Run
moved code current t = settled t (go (rewrite code current) outside t)

-- What is next: an expression of a sequence is begun, at this module and line; a shared act; another move.
pub data Next : Type 0 where
  begins : List ℕ → ℕ → Next
  acts : ActKind → Next
  pure : Next

abbrev pub next_at : Place → Redex → Next
next_at p (begin l t es) = begins (home_of p.bodies) l
next_at p (apply o vs) = if is_display o vs then acts act.Print else pure
next_at p finished = acts act.End
next_at p _ = pure

-- what stands at the redex
abbrev pub told : Effect Run → Place × Redex
told (tells p r) = (p, r)
told _ = (outside, finished)

unfoldable pub redex : Run → Place × Redex
redex t = told (go tells outside t)

unfoldable pub next : Run → Next
next t = next_at (redex t).0 (redex t).1

-- whether a pure move is next
abbrev pub is_move : Next → Bool
is_move (acts k) = false
is_move _ = true

-- the answer of an act at its place
unfoldable pub answered : Datum → Run → Run
answered v t = settled t (go (λ p r. turns p.bindings (value v)) outside t)
