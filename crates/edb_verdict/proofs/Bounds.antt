-- A module is within its bounds: each name is the atom of a token, and a token keeps to the limits; and the grammar
-- lets no arity be above 255.

use Rattle.std.proofs.Common.{ℕ, List, [], ◌∷◌, subst}
use Rattle.std.specs.List.{All}
use Rattle.std.proofs.lemmas.List.Elements.{All-nil, All-cons, All-append}
use Rattle.edb_scan.specs.declared.lexeme.Mark.TheVariants as mark
use Rattle.edb_scan.specs.declared.lexeme.Placed.{Placed}
use Rattle.edb_scan.specs.declared.lexeme.Token.TheVariants.{Dot}
use Rattle.edb_syntax.specs.declared.modules.Export.{Export}
use Rattle.edb_syntax.specs.Syntax.{FunctionTree, ModuleTree, ClauseTree, Clauses}
use Rattle.edb_grammar.specs.Toks.{Tok, tok, word}
use Rattle.edb_grammar.specs.Expressions.{Head, one_pattern, guard_alone, parameters, named, ReadsClause, pattern_clause, guard_clause, parameters_clause, named_clause, ReadsClauses, last_clause, next_clause}
use Rattle.edb_grammar.specs.Forms.{ReadsForm, names, exports, defines, a_module, an_export, a_function, ReadsEntries, ReadsEntriesOrNone, last_entry, next_entry, no_entries, some_entries}
use Rattle.edb_grammar.specs.Files.{ReadsForms, no_forms, export_form, skipped_form, function_form, ReadsFile, a_file}
use Rattle.edb_verdict.specs.Verdicts.{IsModule, IsAccepted}
use Rattle.edb_verdict.specs.Bounds.{IsShort, IsBoundedExport, IsBoundedFunction, IsBounded}
use Rattle.edb_verdict.proofs.TokenBounds.{AreFitTokens, AreFitForms, AreFit, tokens_fit, forms_fit, places_fit, front_fit, functions_all}

-- the name before the parameters of a function's clauses
abbrev IsShortHead : Head → Type 0
IsShortHead one_pattern = Unit {0}
IsShortHead guard_alone = Unit {0}
IsShortHead (parameters n) = Unit {0}
IsShortHead (named f n) = IsShort f

clause_short : {m : ℕ} {h : Head} {ts : List Tok} {c : ClauseTree} → ReadsClause m h ts c → AreFit ts → IsShortHead h
clause_short (pattern_clause p r) fit = tt
clause_short (guard_clause w g b) fit = tt
clause_short (parameters_clause o c p r) fit = tt
clause_short (named_clause s r) fit = fit.0

clauses_short : {m : ℕ} {h : Head} {ts : List Tok} {cs : Clauses} → ReadsClauses m h ts cs → AreFit ts → IsShortHead h
clauses_short (last_clause r) fit = clause_short r fit
clauses_short (next_clause {ts} {us} s r rs) fit = clause_short r (front_fit ts (word s mark.Semicolon ∷ us) fit)

entries_bounded : {ts : List Tok} {xs : List Export} → ReadsEntries ts xs → AreFit ts → All IsBoundedExport xs
entries_bounded (last_entry {n} {f} s d a few) fit =
    All-cons IsBoundedExport (record { name = f; arity = n; line = s.line }) [] (fit.0, few) (All-nil IsBoundedExport)
entries_bounded (next_entry {n} {f} {ts} {xs} s d a c few r) fit =
    All-cons IsBoundedExport (record { name = f; arity = n; line = s.line }) xs (fit.0, few) (entries_bounded r fit.1.1.1.1)

entries_or_none_bounded : {ts : List Tok} {xs : List Export} → ReadsEntriesOrNone ts xs → AreFit ts → All IsBoundedExport xs
entries_or_none_bounded no_entries fit = All-nil IsBoundedExport
entries_or_none_bounded (some_entries r) fit = entries_bounded r fit

-- the forms of a file
name_short : {ts : List Tok} {l : ℕ} {m : List ℕ} → ReadsForm ts (names l m) → AreFit ts → IsShort m
name_short (a_module h a o s c d) fit = fit.1.1.1.0

export_bounded : {ts : List Tok} {xs : List Export} → ReadsForm ts (exports xs) → AreFit ts → All IsBoundedExport xs
export_bounded (an_export {ts} h a o p q c d r) fit =
    entries_or_none_bounded r (front_fit ts (word q mark.BracketClose ∷ word c mark.ParenClose ∷ tok d Dot ∷ []) fit.1.1.1.1)

function_bounded : (ts : List Tok) (f : FunctionTree) → ReadsForm ts (defines f) → AreFit ts → IsBoundedFunction f
function_bounded _ _ (a_function {ts} d r few deep) fit = (clauses_short r (front_fit ts (tok d Dot ∷ []) fit), few)

exports_bounded : {n : ℕ} {forms : List (List Placed)} {xs : List Export} {fs : List FunctionTree} → ReadsForms n forms xs fs
    → AreFitForms forms → All IsBoundedExport xs
exports_bounded no_forms fit = All-nil IsBoundedExport
exports_bounded (export_form {n} {form} {xs} {ys} r rs) fit =
    All-append IsBoundedExport xs ys (export_bounded r (places_fit n form fit.0)) (exports_bounded rs fit.1)
exports_bounded (skipped_form r rs) fit = exports_bounded rs fit.1
exports_bounded (function_form r rs) fit = exports_bounded rs fit.1

file_bounded : {tokens : List Placed} {m : ModuleTree} → ReadsFile tokens m → AreFitTokens tokens → IsBounded m
file_bounded (a_file {tokens} {form} e r rs) fit =
    let all = subst AreFitForms e (forms_fit tokens fit) in
    (name_short r (places_fit 0 form all.0), exports_bounded rs all.1, functions_all IsBoundedFunction function_bounded rs all.1)

-- a module by the grammar, whether it has faults or not
pub module_bounded : (text : List ℕ) (m : ModuleTree) → IsModule text m → IsBounded m
module_bounded text m is = file_bounded is.2 (tokens_fit text is.0 is.1)

pub accepted_bounded : (text : List ℕ) (m : ModuleTree) → IsAccepted text m → IsBounded m
accepted_bounded text m is = module_bounded text m is.0
