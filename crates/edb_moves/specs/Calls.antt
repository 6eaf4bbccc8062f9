-- Calls: the Body that a call becomes, and which function a call names.

use Rattle.std.specs.Prelude.{ℕ, ◌+◌, Bool, if◌then◌else◌, ◌&&◌, ◌||◌, ◌==◌, nat_lt, List, [], ◌∷◌, length, codes, Option, Ok, Err}
use Rattle.std.specs.Option.{option_and_then, option_map}
use Rattle.edb_lang.specs.Terms as term
use Rattle.edb_lang.specs.Terms.{Datum, Captures, uncaptured, captured}
use Rattle.edb_lang.specs.ListTerms.{elements_of}
use Rattle.edb_lang.specs.Pairs.{Pairs}
use Rattle.edb_table.specs.BuiltIns.{BuiltIn, same_built_in}
use Rattle.edb_table.specs.Marking.{is_auto}
use Rattle.edb_syntax.specs.declared.operation.Operation.TheVariants as operation
use Rattle.edb_syntax.specs.Syntax.{Clauses, ModuleTree}
use Rattle.edb_syntax.specs.Lookup.{version_in, function_in, exports}
use Rattle.edb_syntax.specs.FunForms.{Form, with_clauses, local, form_at}
use Rattle.edb_pure.specs.Answers.{Answer, limited_answer}
use Rattle.edb_pure.specs.Table.{pure, is_pure}
use Rattle.edb_moves.specs.Running.{written, call_in, Run, value, leaf, unbegun, node, body, all_values}
use Rattle.edb_moves.specs.Clauses.{chosen}
use Rattle.edb_moves.specs.Going.{Place, Effect, turns, leaves, raises, if_some}
use Rattle.edb_moves.specs.Raises.{fails, fails_with, fails_by_arity}
use Rattle.edb_moves.specs.Versions.{version_for, by_name}

-- an answer: the value, or the raise
abbrev pub answered : Place → Answer → Effect Run
answered p (Ok v) = turns p.bindings (value v)
answered p (Err r) = raises r.class r.reason

-- a term that is made, within the limits of a term
abbrev pub limited : Place → Datum → Effect Run
limited p t = answered p (limited_answer t)

-- calls nest at most this deep
abbrev pub most_nested : ℕ
most_nested = 16384

-- A Body takes the place of the call. A call that is all that is left of the innermost Body replaces that Body, and
-- never makes a call nest deeper; any other one is refused where it would.
abbrev pub nested : Place → Run → Effect Run
nested p b =
    if p.is_tail then leaves b
    else if nat_lt (length p.bodies) most_nested then turns p.bindings b
    else fails (codes "system_limit")

-- Clauses entered with these arguments: a Body, one level above the innermost Body round the call, with the bindings
-- and the sequence of the clause that is chosen.
abbrev pub entered : Place → ModuleTree → ℕ → List ℕ → ℕ → Clauses → Pairs → List Datum → Effect Run
entered p x k name arity cs hidden vs =
    if_some (chosen p.me [] hidden cs vs)
    (λ c. nested p (body (record { home = x; version = k; name = name; arity = arity; level = p.level + 1; bindings = c.0 }) (leaf (unbegun c.1))))
    (fails (codes "function_clause"))

-- the function of this name in this module, as many arguments as there are, entered; none where there isn't one
abbrev pub entered_in : Place → ModuleTree → ℕ → List ℕ → List Datum → Effect Run → Effect Run
entered_in p x k f vs else_ = if_some (function_in x.functions f (length vs)) (λ g. entered p x k g.name g.arity g.clauses [] vs) else_

-- `apply` of this number of arguments
abbrev pub apply_key : ℕ → BuiltIn
apply_key n = (codes "erlang", (codes "apply", n))

-- the built-ins that are no shared acts: those that only compute, and `apply`
abbrev pub is_unshared : BuiltIn → Bool
is_unshared key = is_pure key || (same_built_in key (apply_key 2) || same_built_in key (apply_key 3))

-- `apply` becomes the call that it stands for: of a fun with a list of arguments, or of a module's function. No other list
-- has arguments.
abbrev pub applied_fun : Place → Datum → Datum → Effect Run
applied_fun p f list =
    if_some (elements_of list) (λ us. turns p.bindings (node (written operation.FunCall) (all_values (f ∷ us)))) (fails (codes "badarg"))

abbrev pub applied_name : Place → Datum → Datum → Datum → Effect Run
applied_name p m f list =
    if_some (elements_of list) (λ us. turns p.bindings (node (written operation.RemoteCall) (all_values (m ∷ f ∷ us)))) (fails (codes "badarg"))

-- a built-in that is no shared act
abbrev pub built_in : Place → BuiltIn → List Datum → Effect Run
built_in p key (f ∷ list ∷ []) =
    if same_built_in key (apply_key 2) then applied_fun p f list else answered p (pure key p.me (f ∷ list ∷ []))
built_in p key (m ∷ f ∷ list ∷ []) =
    if same_built_in key (apply_key 3) then applied_name p m f list else answered p (pure key p.me (m ∷ f ∷ list ∷ []))
built_in p key vs = answered p (pure key p.me vs)

-- A call without a module, as written in this module: its function of that name and arity, and else a built-in that is
-- called so.
abbrev pub own_call : Place → ModuleTree → ℕ → List ℕ → List Datum → Effect Run
own_call p x k f vs =
    let key : BuiltIn = (codes "erlang", (f, length vs)) in
    entered_in p x k f vs (if is_auto key && is_unshared key then built_in p key vs else fails (codes "undef"))

-- A call without a module: it stands in the module of the innermost Body.
abbrev pub local_call : Place → List (ModuleTree × ℕ) → List ℕ → List Datum → Effect Run
local_call p [] f vs = fails (codes "undef")
local_call p (b ∷ bs) f vs = own_call p b.0 b.1 f vs

-- the version of a module that a call takes, where the code has it
abbrev pub called_module : List ModuleTree → List (List ℕ × ℕ) → Place → List ℕ → Option (ModuleTree × ℕ)
called_module code current p m =
    option_and_then (λ k. option_map (λ x. (x, k)) (version_in code m k)) (version_for current (by_name p.bodies) m)

-- A call with a module: a built-in, or a function that the module exports.
abbrev pub remote_call : List ModuleTree → List (List ℕ × ℕ) → Place → List ℕ → List ℕ → List Datum → Effect Run
remote_call code current p m f vs =
    let key : BuiltIn = (m, (f, length vs)) in
    if is_unshared key then built_in p key vs
    else if_some (called_module code current p m)
    (λ x. if exports x.0 f (length vs) then entered_in p x.0 x.1 f vs (fails (codes "undef")) else fails (codes "undef"))
    (fails (codes "undef"))

-- what a fun took along, as bindings
abbrev pub captured_pairs : Captures → Pairs
captured_pairs uncaptured = []
captured_pairs (captured x t cs) = (x, t) ∷ captured_pairs cs

-- A fun that was made, called: the form that made it, in its module and version. One with clauses is entered, and its
-- patterns don't see what it took along; one that names a function becomes the call of that function.
abbrev pub form_call : Place → ModuleTree → ℕ → ℕ → Captures → Form → List Datum → Effect Run
form_call p x k arity cs (with_clauses i clauses) vs = entered p x k (codes "fun") arity clauses (captured_pairs cs) vs
form_call p x k arity cs (local i f n) vs = turns p.bindings (node (call_in x k f) (all_values vs))

-- The call of a fun, which has to be one and to have as many parameters as there are arguments. One that names a module's
-- function becomes that call. (Every fun that was made has its form in the code; `undef` stands for one that has none.)
abbrev pub fun_call : List ModuleTree → Place → Datum → List Datum → Effect Run
fun_call code p (term.made m k i a cs) vs =
    if a == length vs
    then if_some (version_in code m k)
    (λ x. if_some (form_at x i) (λ form. form_call p x k a cs form vs) (fails (codes "undef")))
    (fails (codes "undef"))
    else fails_by_arity (term.made m k i a cs) vs
fun_call code p (term.named m f a) vs =
    if a == length vs
    then turns p.bindings (node (written operation.RemoteCall) (all_values (term.atom m ∷ term.atom f ∷ vs)))
    else fails_by_arity (term.named m f a) vs
fun_call code p v vs = fails_with (codes "badfun") v
