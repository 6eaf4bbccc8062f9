-- What operations and calls come to, as effects.

use Rattle.std.specs.Prelude.{◌≡◌, ◌≢◌, ℕ, ℤ, ◌<◌, Bool, true, false, if◌then◌else◌, nat_lt, List, [], ◌∷◌, length, Option, None, Some, codes}
use Rattle.edb_lang.specs.declared.small.Class.TheVariants.{Error}
use Rattle.edb_lang.specs.Terms as term
use Rattle.edb_lang.specs.Terms.{Datum}
use Rattle.edb_lang.specs.Pairs.{Pairs}
use Rattle.edb_lang.specs.Syntax.{exps_of, line_of}
use Rattle.edb_model.specs.Running.{Run, value, body, running, unbegun}
use Rattle.edb_model.specs.Move as move
use Rattle.edb_model.specs.Move.{Place, Effect, turns, leaves, raises, error, most_nested}
use Rattle.edb_eval.specs.declared.calls.Entry.{Entry}
use Rattle.edb_eval.specs.declared.calls.Called.{Called}
use Rattle.edb_eval.specs.declared.calls.Called.TheVariants as called
use Rattle.edb_eval.specs.declared.running.Applied.{Applied}
use Rattle.edb_eval.specs.declared.running.Applied.TheVariants as applied
use Rattle.edb_eval.specs.declared.focus.Redex.{Redex}
use Rattle.edb_eval.specs.declared.focus.Redex.TheVariants as redex
use Rattle.edb_eval.specs.Tree.{info_of, operation_of}

-- what a match found: the new bindings, or that there are none
abbrev pub Answers : Option Pairs → Pairs → Bool → Type 0
Answers found bs true = found ≡ Some bs
Answers found bs false = found ≡ None

-- the Body of a function that is entered
abbrev pub entry_body : Entry → Run
entry_body e = body (info_of e.here) (unbegun e.first.now (exps_of e.rest.now))

-- a function that is entered: its Body replaces the innermost one, or comes into it
abbrev pub entering : Place → Run → Effect Run
entering p t =
    if p.is_tail then leaves t else if nat_lt (length p.bodies) most_nested then turns p.bindings t else error (codes "system_limit")

abbrev pub called_effect : Place → Called → Effect Run
called_effect p (called.Enters e) = entering p (entry_body e)
called_effect p (called.Fails r) = raises Error r

abbrev pub applied_effect : Place → Applied → Effect Run
applied_effect p (applied.Gives v) = turns p.bindings (value v)
applied_effect p (applied.Enters e) = turns p.bindings (entry_body e)
applied_effect p (applied.Replaces e) = leaves (entry_body e)
applied_effect p (applied.Fails r) = raises Error r

-- whether there is room for one more Body where one is entered
abbrev pub Fits : ℕ → Applied → Type 0
Fits n (applied.Enters e) = n < 16384
Fits n _ = Unit {0}

-- the redex, as the table of moves sees it
abbrev pub redex_of : Redex → move.Redex
redex_of (redex.Look x) = move.look x.now
redex_of (redex.Apply o vs) = move.apply (operation_of o) vs
redex_of (redex.Bind q v) = move.bind q.now v
redex_of (redex.Begin e es) = move.begin (line_of e.now) (running e.now) (exps_of es.now)
redex_of (redex.Follow v l es) = move.follow v (exps_of es.now)

-- values that are not two integers
abbrev pub IsNoSum : List Datum → Type 0
IsNoSum vs = (a b : ℤ) → vs ≢ term.int a ∷ (term.int b ∷ [])

-- values of which the first two are not both atoms
abbrev pub IsNoCall : List Datum → Type 0
IsNoCall vs = (m f : List ℕ) (args : List Datum) → vs ≢ term.atom m ∷ (term.atom f ∷ args)
