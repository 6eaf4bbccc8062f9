-- Reading forms: the descent above expressions.

use Rattle.std.specs.Prelude.{ℕ, Bool, true, false, ◌&&◌, if◌then◌else◌, nat_le, List, [], ◌∷◌, length, Option, Some, None, codes}
use Rattle.std.specs.Option.{option_map}
use Rattle.edb_scan.specs.declared.lexeme.Mark.TheVariants as mark
use Rattle.edb_scan.specs.declared.lexeme.Token.TheVariants.{Atom, Dot}
use Rattle.edb_lang.specs.TermText.{same_name}
use Rattle.edb_syntax.specs.Depths.{clauses_depth}
use Rattle.edb_syntax.specs.declared.modules.Export.{Export}
use Rattle.edb_syntax.specs.Syntax.{Exp, ClauseTree, Clauses, FunctionTree}
use Rattle.edb_grammar.specs.Toks.{Tok, tok, line_at, most_open}
use Rattle.edb_grammar.specs.Forms.{FormTree, names, exports, skipped, defines, deepest, most_brackets, is_passed_over}
use Rattle.edb_grammar.specs.Reading.{Read, behind, closed, items, onward, made, fork, refuse, provided}
use Rattle.edb_grammar.specs.ExpressionReading.{read_parameters_clause, read_clauses, first_arity, is_fun, read_name, read_arity, read_expression}

-- a clause of the function of this name
abbrev pub read_named_clause : List ℕ → ℕ → Read Exp → Read ClauseTree
read_named_clause f n part ts = onward (read_name ts) (λ g us. provided (same_name g f) (read_parameters_clause n part) us)

-- the dot that ends a form, behind which nothing stands
abbrev pub is_end : List Tok → Bool
is_end (tok s Dot ∷ []) = true
is_end _ = false

abbrev pub part_of_form : Read Exp
part_of_form ts = read_expression deepest most_brackets 10 ts

abbrev pub function_of : ℕ → List ℕ → Clauses → FunctionTree
function_of l f cs = record { name = f; arity = first_arity cs; line = l; clauses = cs }

-- a function from its clauses, where they have one arity, the dot stands behind them, and they aren't too deep
abbrev pub function_at : ℕ → List ℕ → Option (Clauses × List Tok) → Option FunctionTree
function_at l f (Some q) = if (is_fun q.0 && is_end q.1) && nat_le (clauses_depth q.0) deepest then Some (function_of l f q.0) else None
function_at l f None = None

-- A function: its first token names it. The descent itself goes no deeper than the limit.
abbrev pub read_function : List Tok → Option FunctionTree
read_function (tok s (Atom f) ∷ ts) =
    function_at s.line f (read_clauses (read_named_clause f deepest part_of_form) (tok s (Atom f) ∷ ts))
read_function _ = None

-- what was read, where the dot stands behind it and nothing else
abbrev pub ended : {A : Type 0} → Option (A × List Tok) → Option A
ended (Some q) = if is_end q.1 then Some q.0 else None
ended None = None

-- `f/2`, on the line of its name
abbrev pub entry_of : ℕ → List ℕ → ℕ → Export
entry_of l f n = record { name = f; arity = n; line = l }

abbrev pub read_entry : Read Export
read_entry (tok s (Atom f) ∷ ts) = fork (behind mark.Slash ts) (λ us. made (entry_of s.line f) (read_arity us)) refuse ts
read_entry _ = None

-- entries or none, and the bracket that closes them
abbrev pub read_entries : Read (List Export)
read_entries ts =
    fork (behind mark.BracketClose ts) (λ us. Some ([], us))
    (λ us. closed mark.BracketClose (items ◌∷◌ [] mark.Comma read_entry (length us) us)) ts

-- `([f/1, g/2]).` behind the name of an export
abbrev pub read_export : List Tok → Option (List Export)
read_export ts =
    ended (fork (behind mark.ParenOpen ts) (λ us. fork (behind mark.BracketOpen us) (λ vs. closed mark.ParenClose (read_entries vs)) refuse us) refuse ts)

-- `(m).` behind the name of the module form
abbrev pub read_naming : List Tok → Option (List ℕ)
read_naming ts = ended (fork (behind mark.ParenOpen ts) (λ us. closed mark.ParenClose (read_name us)) refuse ts)

-- whether the last token is a dot
abbrev pub last_is_dot : List Tok → Bool
last_is_dot [] = false
last_is_dot (t ∷ []) = is_end (t ∷ [])
last_is_dot (t ∷ u ∷ ts) = last_is_dot (u ∷ ts)

-- what stands behind the name of an attribute that is passed over: any tokens with a dot at their end, of which the
-- round brackets count
abbrev pub is_skipped : List Tok → Bool
is_skipped ts = last_is_dot ts && nat_le (most_open 0 ts) most_brackets

-- an attribute with `-` on line l, behind its name
abbrev pub attribute_of : ℕ → List ℕ → List Tok → Option FormTree
attribute_of l a ts =
    if same_name a (codes "module") then option_map (names l) (read_naming ts)
    else if same_name a (codes "export") then option_map exports (read_export ts)
    else if is_passed_over a && is_skipped ts then Some skipped else None

abbrev pub read_attribute : ℕ → List Tok → Option FormTree
read_attribute l (tok s (Atom a) ∷ ts) = attribute_of l a ts
read_attribute l _ = None

-- a form: an attribute where `-` stands first, and else a function
abbrev pub form_at : List Tok → Option (List Tok) → Option FormTree
form_at ts (Some us) = read_attribute (line_at ts) us
form_at ts None = option_map defines (read_function ts)

abbrev pub read_form : List Tok → Option FormTree
read_form ts = form_at ts (behind mark.Minus ts)
