-- THE TABLE OF MOVES: what a redex becomes. Each row is one move, and a raise is made within the move that causes it.

use Rattle.std.specs.Prelude.{ℕ, if◌then◌else◌, List, [], ◌∷◌, codes}
use Rattle.edb_lang.specs.Terms as term
use Rattle.edb_lang.specs.Terms.{Datum}
use Rattle.edb_lang.specs.ListTerms.{string_of}
use Rattle.edb_lang.specs.Pairs.{Pairs, bound, captures_of, bindings_of}
use Rattle.edb_syntax.specs.declared.operation.Operation.TheVariants as operation
use Rattle.edb_syntax.specs.Syntax as syntax
use Rattle.edb_syntax.specs.Syntax.{Exp, Seq, After, Clauses, Catches, ModuleTree, line_of}
use Rattle.edb_pure.specs.Operators.{operate, operate_one}
use Rattle.edb_pure.specs.Table.{of_one, of_two}
use Rattle.edb_pure.specs.Truths.{truth_of}
use Rattle.edb_moves.specs.Running.{Doing, written, call_in, Outcome, gave, threw, Leaf, string, variable, unbegun, conditions, making, making_local, making_remote, catching, trying, failed, comprehension, collecting, drawing, missing, Frame, sequence, match, select, and_then, or_then, generate, filter, gather, scope, caught, tried, waiting, resume, Run, value, leaf, node, around, none, more, running}
use Rattle.edb_moves.specs.Built.{tuple_built, list_built, list_with_tail_built}
use Rattle.edb_moves.specs.Matching.{matched}
use Rattle.edb_moves.specs.Clauses.{chosen}
use Rattle.edb_moves.specs.Going.{Place, outside, at, apply, filled, finished, Effect, turns, raises, tells, Handler, if_some, taken, go, settled}
use Rattle.edb_moves.specs.Raises.{fails, fails_with}
use Rattle.edb_moves.specs.Calls.{answered, limited, own_call, local_call, remote_call, fun_call}
use Rattle.edb_moves.specs.Comprehensions.{listed, drawn, appended, filtered}

-- The fun of a form of the module of the innermost Body, with what it takes along.
abbrev pub made_in : Place → List (ModuleTree × ℕ) → ℕ → ℕ → Pairs → Effect Run
made_in p [] i n taken_along = fails (codes "undef")
made_in p (b ∷ bs) i n taken_along = limited p (term.made b.0.name b.1 i n (captures_of taken_along))

-- a `try` under the `after` that waits for its outcome, where it has one
abbrev pub behind : Pairs → After → Run → Run
behind kept syntax.no_after t = t
behind kept (syntax.after s) t = around (waiting kept s) t

-- what comes of an outcome
abbrev pub outcome_of : Place → Outcome → Effect Run
outcome_of p (gave v) = turns p.bindings (value v)
outcome_of p (threw c v) = raises c v

-- the sequence of an `after`, and then the outcome again
abbrev pub resuming : Place → Outcome → Seq → Effect Run
resuming p o s = turns p.bindings (around (resume o) (leaf (unbegun s)))

-- LEAVES.
abbrev pub leaf_move : Place → Leaf → Effect Run
-- a sequence whose first expression isn't begun: it is begun
leaf_move p (unbegun (syntax.sequence e es)) = turns p.bindings (around (sequence (line_of e) es) (running e))
-- a variable: its value
leaf_move p (variable x) = if_some (bound x p.bindings) (λ v. turns p.bindings (value v)) (fails_with (codes "unbound") (term.atom x))
-- a string: its list
leaf_move p (string s) = limited p (string_of s)
-- `if`: the sequence of the first clause whose guard holds
leaf_move p (conditions cs) = if_some (chosen p.me p.bindings [] cs []) taken (fails (codes "if_clause"))
-- fun forms: the fun; one with clauses keeps all bindings that are visible, by name
leaf_move p (making i n) = made_in p p.bodies i n (bindings_of p.bindings)
leaf_move p (making_local i n) = made_in p p.bodies i n []
leaf_move p (making_remote m f n) = limited p (term.named m f n)
-- `catch` and `try` open, and keep the bindings; an `after` waits round its `try`
leaf_move p (catching e) = turns p.bindings (around (caught p.bindings) (running e))
leaf_move p (trying s cs hs a) = turns p.bindings (behind p.bindings a (around (tried p.bindings cs hs) (leaf (unbegun s))))
-- a waiting `after` whose outcome, an exception, is there: its sequence, then the exception again
leaf_move p (failed c v s) = resuming p (threw c v) s
-- a comprehension opens: a scope with a copy of the bindings
leaf_move p (comprehension e qs) = turns p.bindings (around (scope p.bindings) (listed e qs))
-- no qualifier left: the list of the element is to be evaluated
leaf_move p (collecting e) = turns p.bindings (node (written operation.List) (more (running e) none))
-- a generator goes on
leaf_move p (drawing d v) = drawn p d v
-- what doesn't come yet
leaf_move p (missing k) = tells p (at (missing k))

-- OPERATIONS ON VALUES.
abbrev pub operation_move : List ModuleTree → List (List ℕ × ℕ) → Place → Doing → List Datum → Effect Run
-- tuple and list: the term
operation_move code current p (written operation.Tuple) vs = answered p (tuple_built vs)
operation_move code current p (written operation.List) vs = answered p (list_built vs)
operation_move code current p (written operation.ListWithTail) vs = answered p (list_with_tail_built vs)
-- unary or binary operator: the result or a raise
operation_move code current p (written (operation.Unary o)) vs = answered p (of_one (operate_one o) p.me vs)
operation_move code current p (written (operation.Binary o)) vs = answered p (of_two (operate o) p.me vs)
-- a call without a module, as it is written, or as a fun stands for it
operation_move code current p (written (operation.LocalCall f)) vs = local_call p p.bodies f vs
operation_move code current p (call_in x k f) vs = own_call p x k f vs
-- a call with a module, whose module and name are atoms
operation_move code current p (written operation.RemoteCall) (term.atom m ∷ term.atom f ∷ vs) = remote_call code current p m f vs
operation_move code current p (written operation.RemoteCall) vs = fails (codes "badarg")
-- a call of a fun
operation_move code current p (written operation.FunCall) (f ∷ vs) = fun_call code p f vs
operation_move code current p (written operation.FunCall) [] = fails (codes "badarg")
-- what doesn't come yet
operation_move code current p (written operation.Send) vs = tells p (apply (written operation.Send) vs)

-- FRAMES WITH THEIR VALUE.
abbrev pub frame_move : Place → Frame → Datum → Effect Run
-- a sequence: its one value, or the first is dropped where more follow
frame_move p (sequence l syntax.none) v = turns p.bindings (value v)
frame_move p (sequence l (syntax.more e es)) v = turns p.bindings (leaf (unbegun (syntax.sequence e es)))
-- `P = v` binds, and becomes v
frame_move p (match q) v = if_some (matched q v p.bindings) (λ bs. turns bs (value v)) (fails_with (codes "badmatch") v)
-- `case v`: the sequence of the first clause that matches and whose guard holds
frame_move p (select cs) v = if_some (chosen p.me p.bindings [] cs (v ∷ [])) taken (fails_with (codes "case_clause") v)
-- `andalso`, `orelse`: the deciding value, else the right operand
frame_move p (and_then e) v =
    if_some (truth_of v) (λ b. if b then turns p.bindings (running e) else turns p.bindings (value v)) (fails (codes "badarg"))
frame_move p (or_then e) v =
    if_some (truth_of v) (λ b. if b then turns p.bindings (value v) else turns p.bindings (running e)) (fails (codes "badarg"))
-- a generator over a value, the part that its current element gave, and a filter
frame_move p (generate q e qs) v = drawn p (record { gathered = []; pattern = q; element = e; rest = qs }) v
frame_move p (gather d rest) v = appended p d rest v
frame_move p (filter e qs) v = filtered p e qs v
-- a scope whose expression is a value: the value
frame_move p (scope bs) v = turns p.bindings (value v)
-- an opened `catch`: the value
frame_move p (caught kept) v = turns p.bindings (value v)
-- an opened `try`: the value, or with `of` the sequence of the first clause, outside the clauses behind `catch`
frame_move p (tried kept syntax.no_clauses hs) v = turns p.bindings (value v)
frame_move p (tried kept (syntax.more_clauses c cs) hs) v =
    if_some (chosen p.me p.bindings [] (syntax.more_clauses c cs) (v ∷ [])) taken (fails_with (codes "try_clause") v)
-- a waiting `after` whose outcome, a value, is there: its sequence, then the value again
frame_move p (waiting kept s) v = resuming p (gave v) s
-- the sequence of an `after` is done: the outcome
frame_move p (resume o) v = outcome_of p o

-- the table of moves
abbrev pub rewrite : List ModuleTree → List (List ℕ × ℕ) → Handler
rewrite code current p (at l) = leaf_move p l
rewrite code current p (apply o vs) = operation_move code current p o vs
rewrite code current p (filled f v) = frame_move p f v
rewrite code current p finished = tells p finished

-- ONE MOVE of the expression of process `me`, under these current versions.
unfoldable pub moved : List ModuleTree → List (List ℕ × ℕ) → ℕ → Run → Run
moved code current me t = settled t (go (rewrite code current) (outside me) t)
