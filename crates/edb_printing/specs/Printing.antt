-- What prints: the bytes that `erlang:display/1`, `io:format/1` and `io:format/2` write, and what each answers.

use Rattle.std.specs.Prelude.{ℕ, if◌then◌else◌, ◌++◌, List, [], ◌∷◌, codes, Option, None, Some, Ok}
use Rattle.std.specs.Option.{option_map_or}
use Rattle.edb_lang.specs.Terms as term
use Rattle.edb_lang.specs.Terms.{Datum}
use Rattle.edb_lang.specs.TermText.{term_text}
use Rattle.edb_table.specs.BuiltIns.{BuiltIn, same_built_in}
use Rattle.edb_syntax.specs.declared.operation.Operation.TheVariants as operation
use Rattle.edb_pure.specs.Answers.{Answer, badarg}
use Rattle.edb_format.specs.Formats.{format_text_of}
use Rattle.edb_moves.specs.Running.{written}
use Rattle.edb_moves.specs.Going.{Redex, apply}

-- what an act that prints writes, and its answer
abbrev pub Printed : Type 0
Printed = List ℕ × Answer

-- the text of a term and a newline; the answer is `true`
abbrev pub displayed : Datum → Printed
displayed v = (term_text v ++ 10 ∷ [], Ok (term.atom (codes "true")))

-- the text that a format makes of its arguments; the answer is `ok`. A bad format prints nothing, and raises `badarg`.
abbrev pub formatted : Datum → Datum → Printed
formatted format args = option_map_or (λ text. (text, Ok (term.atom (codes "ok")))) (format_text_of format args) ([], badarg)

-- a built-in called with these arguments; none, if it isn't one that prints
abbrev pub printed_by : BuiltIn → List Datum → Option Printed
printed_by key (v ∷ []) =
    if same_built_in key (codes "erlang", (codes "display", 1)) then Some (displayed v)
    else if same_built_in key (codes "io", (codes "format", 1)) then Some (formatted v term.nil)
    else None
printed_by key (format ∷ args ∷ []) = if same_built_in key (codes "io", (codes "format", 2)) then Some (formatted format args) else None
printed_by key _ = None

-- what prints at a redex, which is a call with its module
abbrev pub printing : Redex → Option Printed
printing (apply (written operation.RemoteCall) (term.atom m ∷ term.atom f ∷ v ∷ [])) = printed_by (m, (f, 1)) (v ∷ [])
printing (apply (written operation.RemoteCall) (term.atom m ∷ term.atom f ∷ v ∷ w ∷ [])) = printed_by (m, (f, 2)) (v ∷ w ∷ [])
printing _ = None
