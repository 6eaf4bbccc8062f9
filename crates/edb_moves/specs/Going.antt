-- The walk to a redex, and back.
--
-- `go` walks from the root to the leftmost innermost redex and hands it, with its place, to a handler. What the handler
-- answers comes back out through what stands round the redex: a tree is put back into its place, a raise goes outward
-- to what catches it, a tail call takes the place of the innermost Body. The pure move, what is next, and an act's answer
-- are this walk with different handlers.

use Rattle.std.specs.Prelude.{ℕ, Bool, true, false, List, [], ◌∷◌, codes, Option, None, Some}
use Rattle.edb_lang.specs.declared.small.Class.{Class}
use Rattle.edb_lang.specs.declared.small.Class.TheVariants.{Error, Exit, Throw}
use Rattle.edb_lang.specs.Terms as term
use Rattle.edb_lang.specs.Terms.{Datum, framed}
use Rattle.edb_lang.specs.Pairs.{Pairs}
use Rattle.edb_syntax.specs.Syntax as syntax
use Rattle.edb_syntax.specs.Syntax.{Seq, ModuleTree}
use Rattle.edb_pure.specs.Lists.{pair}
use Rattle.edb_moves.specs.Running.{Doing, Info, Leaf, unbegun, failed, Frame, sequence, scope, caught, tried, waiting, Run, value, raised, leaf, node, around, body, Runs, none, more, value_of, values_of}
use Rattle.edb_moves.specs.Clauses.{handler}

-- What a redex sees of the tree round it: the process whose expression this is; the level of the innermost Body, or 0; the
-- bindings of the innermost Body or scope; whether the redex is all that is left of the innermost Body; and the module
-- and version of each Body, innermost first.
pub record Place : Type 0 where
  pub me : ℕ
  pub level : ℕ
  pub bindings : Pairs
  pub is_tail : Bool
  pub bodies : List (ModuleTree × ℕ)

-- outside of every Body
abbrev pub outside : ℕ → Place
outside me = record { me = me; level = 0; bindings = []; is_tail = false; bodies = [] }

-- an operand is never all that is left
abbrev pub operand : Place → Place
operand p = record p { is_tail = false }

-- Within a frame. What a sequence waits for is all that is left where nothing follows it; what any other frame waits for
-- never is. A scope has bindings of its own.
abbrev pub inside : Frame → Place → Place
inside (sequence l syntax.none) p = p
inside (scope bs) p = record p { is_tail = false; bindings = bs }
inside _ p = record p { is_tail = false }

-- within a Body
abbrev pub within_body : Info → Place → Place
within_body i p = record { me = p.me; level = i.level; bindings = i.bindings; is_tail = true; bodies = (i.home, i.version) ∷ p.bodies }

-- What stands at the redex: a leaf; something to be done with operands, all of them values; a frame with the value that it
-- waited for; nothing, where the whole expression is a value or an exception.
pub data Redex : Type 0 where
  at : Leaf → Redex
  apply : Doing → List Datum → Redex
  filled : Frame → Datum → Redex
  finished : Redex

-- What a handler answers: the redex becomes this tree, under these bindings; the innermost Body is replaced by this one;
-- an exception is raised; nothing moves, and this is what stands there.
pub data Effect (X : Type 0) : Type 0 where
  turns : Pairs → X → Effect X
  leaves : Run → Effect X
  raises : Class → Datum → Effect X
  tells : Place → Redex → Effect X

abbrev pub Handler : Type 0
Handler = Place → Redex → Effect Run

-- what becomes of a value that may be there
abbrev pub if_some : {A B : Type 0} → Option A → (A → B) → B → B
if_some (Some a) then_ else_ = then_ a
if_some None then_ else_ = else_

-- a clause that was chosen: its sequence, under its bindings
abbrev pub taken : Pairs × Seq → Effect Run
taken c = turns c.0 (leaf (unbegun c.1))

-- what a tree becomes when it is put back among operands
abbrev pub within : {X Y : Type 0} → (X → Y) → Effect X → Effect Y
within f (turns bs t) = turns bs (f t)
within f (leaves t) = leaves t
within f (raises c v) = raises c v
within f (tells p r) = tells p r

-- the value of `catch` for an exception: what was thrown, and a tuple for an exit and for an error
abbrev pub exit_tuple : Datum → Datum
exit_tuple r = pair (term.atom (codes "EXIT")) r

abbrev pub error_tuple : Datum → Datum
error_tuple r = exit_tuple (pair r term.nil)

abbrev pub caught_value : Class → Datum → Datum
caught_value Throw v = v
caught_value Exit r = framed exit_tuple r
caught_value Error r = framed error_tuple r

-- A RAISE GOES OUTWARD through a frame. An opened `catch` becomes its value; an opened `try` becomes the sequence of the
-- first clause behind `catch` that is chosen; an `after` that waits has its outcome. Each restores the bindings that it
-- keeps. All other frames let the exception pass.
abbrev pub raised_in : Frame → Place → Class → Datum → Effect Run
raised_in (caught kept) p c v = turns kept (value (caught_value c v))
raised_in (tried kept cs hs) p c v = if_some (handler p.me kept hs c v) taken (raises c v)
raised_in (waiting kept s) p c v = turns kept (leaf (failed c v s))
raised_in _ p c v = raises c v

-- A tree put back into a frame, under the bindings that it left. A scope keeps these to itself.
abbrev pub turned_in : Frame → Place → Pairs → Run → Effect Run
turned_in (scope bs) p cs t = turns p.bindings (around (scope cs) t)
turned_in f p cs t = turns cs (around f t)

-- how an answer comes out through a frame
abbrev pub passes : Frame → Place → Effect Run → Effect Run
passes f p (turns cs t) = turned_in f p cs t
passes f p (leaves t) = leaves t
passes f p (raises c v) = raised_in f p c v
passes f p (tells q r) = tells q r

-- How an answer comes out through a Body. It keeps the bindings that its redex left; once its sequence is one value it
-- becomes that value. What is round it keeps its own bindings.
abbrev pub closed : Place → Info → Effect Run → Effect Run
closed p i (turns bs t) = if_some (value_of t) (λ v. turns p.bindings (value v)) (turns p.bindings (body (record i { bindings = bs }) t))
closed p i (leaves t) = turns p.bindings t
closed p i (raises c v) = raises c v
closed p i (tells q r) = tells q r

unfoldable mutual
  pub go : Handler → Place → Run → Effect Run
  go h p (value v) = h p finished
  go h p (raised c v) = h p finished
  go h p (leaf l) = h p (at l)
  go h p (node o ts) = if_some (values_of ts) (λ vs. h p (apply o vs)) (within (node o) (go_first h (operand p) ts))
  go h p (around f t) = if_some (value_of t) (λ v. h p (filled f v)) (passes f p (go h (inside f p) t))
  go h p (body i t) = closed p i (go h (within_body i p) t)

  -- the first operand that is no value
  pub go_first : Handler → Place → Runs → Effect Runs
  go_first h p none = tells p finished
  go_first h p (more t ts) =
      if_some (value_of t) (λ v. within (more t) (go_first h p ts)) (within (λ u. more u ts) (go h p t))

-- the whole expression after an answer; where nothing moves it stays
abbrev pub settled : Run → Effect Run → Run
settled t (turns bs u) = u
settled t (leaves u) = u
settled t (raises c v) = raised c v
settled t (tells p r) = t
