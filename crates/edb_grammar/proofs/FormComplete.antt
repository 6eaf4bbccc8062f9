-- Each form by the grammar is read; so tokens are one form at most.

use Rattle.std.proofs.Common.{◌≡◌, ℕ, ◌≤◌, Bool, true, false, ◌&&◌, ◌||◌, not, if◌then◌else◌, nat_le, List, [], ◌∷◌, ◌++◌, length, Some, None, refl, sym, ◌∙◌, ap, codes, arith}
use Rattle.std.specs.Option.{option_map}
use Rattle.std.proofs.lemmas.Bool.{false≢true}
use Rattle.edb_scan.specs.declared.lexeme.Mark.TheVariants as mark
use Rattle.edb_scan.specs.declared.lexeme.Token.TheVariants.{Int, Atom, Dot}
use Rattle.edb_lang.specs.TermText.{same_name}
use Rattle.edb_syntax.specs.Depths.{clauses_depth}
use Rattle.edb_syntax.specs.declared.modules.Export.{Export}
use Rattle.edb_syntax.specs.Syntax.{ClauseTree, Clauses, FunctionTree}
use Rattle.edb_grammar.specs.Toks.{Place, Tok, tok, word, line_at, most_open}
use Rattle.edb_grammar.specs.Expressions.{ReadsClause, ReadsClauses, named, named_clause, last_clause, next_clause, most_parameters}
use Rattle.edb_grammar.specs.Forms.{FormTree, ReadsForm, names, exports, skipped, defines, a_module, an_export, an_attribute, a_function, ReadsEntries, ReadsEntriesOrNone, last_entry, next_entry, no_entries, some_entries, is_passed_over, deepest, most_brackets}
use Rattle.edb_grammar.specs.Reading.{Read, behind, closed, items, made, fork}
use Rattle.edb_grammar.specs.ExpressionReading.{read_clauses, first_arity, read_expression}
use Rattle.edb_grammar.specs.FormReading.{read_named_clause, part_of_form, function_at, ended, entry_of, read_entry, read_entries, read_export, read_naming, read_form}
use Rattle.edb_grammar.proofs.Parts.{some_is, none_no}
use Rattle.edb_grammar.proofs.Follow.{Whole}
use Rattle.edb_grammar.proofs.FormSound.{ReadsEntry, an_entry, most_open_dot, dot_last}
use Rattle.edb_grammar.proofs.PatternComplete.{le_is, pat_complete}
use Rattle.edb_grammar.proofs.ListComplete.{WholeBy, Listed, last_listed, next_listed, listed_whole, Closes}
use Rattle.edb_grammar.proofs.ExpressionComplete.{part_whole, expression_complete}
use Rattle.edb_grammar.proofs.ClauseComplete.{named_clauses_complete, first_has, is_fun_complete}

-- entries of an export
entry_whole : WholeBy ReadsEntry (λ rest. Unit {0}) read_entry
entry_whole ts x (an_entry {n} {f} s d a l) rest u = ap (λ b. made (entry_of s.line f) (if b then Some (n, rest) else None)) (le_is n most_parameters l)

entry_length : (ts : List Tok) (x : Export) → ReadsEntry ts x → 1 ≤ length ts
entry_length ts x (an_entry s d a l) = omega arith

entries_listed : {ts : List Tok} {xs : List Export} → ReadsEntries ts xs → Listed ReadsEntry ◌∷◌ [] mark.Comma ts xs
entries_listed (last_entry s d a l) = last_listed _ _ (an_entry s d a l)
entries_listed (next_entry {n} {f} {ts} {xs} s d a c l r) =
    next_listed c (tok s (Atom f) ∷ word d mark.Slash ∷ tok a (Int n) ∷ []) ts (entry_of s.line f n) xs (an_entry s d a l) (entries_listed r)

entries_begin : {ts : List Tok} {xs : List Export} → ReadsEntries ts xs → (rest : List Tok) → behind mark.BracketClose (ts ++ rest) ≡ None
entries_begin (last_entry s d a l) rest = refl
entries_begin (next_entry s d a c l r) rest = refl

entries_whole : {ts : List Tok} {xs : List Export} → ReadsEntriesOrNone ts xs → (q : Place) (rest : List Tok)
    → read_entries (ts ++ word q mark.BracketClose ∷ rest) ≡ Some (xs, rest)
entries_whole no_entries q rest = refl
entries_whole (some_entries {ts} {xs} r) q rest =
    ap (λ o. fork o (λ us. Some ([], us)) (λ us. closed mark.BracketClose (items ◌∷◌ [] mark.Comma read_entry (length us) us)) (ts ++ closing))
    (entries_begin r closing)
    ∙ ap (closed mark.BracketClose)
    (listed_whole ReadsEntry (λ v. Unit {0}) ◌∷◌ [] mark.Comma read_entry entry_length entry_whole (λ s us. tt) ts xs (entries_listed r) closing tt refl)
  where
    closing : List Tok
    closing = word q mark.BracketClose ∷ rest

-- an attribute that is passed over has none of the names that are not
neither : (b c d : Bool) → not (b || (c || d)) ≡ true → (b ≡ false) × (c ≡ false)
neither false false d h = (refl, refl)
neither true c d h = absurd (false≢true h)
neither false true d h = absurd (false≢true h)

not_known : (a : List ℕ) → is_passed_over a ≡ true → (same_name a (codes "module") ≡ false) × (same_name a (codes "export") ≡ false)
not_known a h = neither (same_name a (codes "module")) (same_name a (codes "export")) _ h

attribute_whole : (a : List ℕ) (ts : List Tok) (h s d : Place) → is_passed_over a ≡ true → most_open 0 ts ≤ most_brackets
    → read_form (word h mark.Minus ∷ tok s (Atom a) ∷ (ts ++ tok d Dot ∷ [])) ≡ Some skipped
attribute_whole a ts h s d p l =
    let e = not_known a p in
    (λ i. if e.0 i then option_map (names h.line) (read_naming behind_it)
    else if e.1 i then option_map exports (read_export behind_it)
    else if p i && (dot_last ts d i && passes i) then Some skipped else None)
  where
    behind_it : List Tok
    behind_it = ts ++ tok d Dot ∷ []

    passes : nat_le (most_open 0 behind_it) most_brackets ≡ true
    passes = ap (λ n. nat_le n most_brackets) (most_open_dot 0 ts d) ∙ le_is (most_open 0 ts) most_brackets l

-- the clauses of a function begin with its name
clause_begins : {m n : ℕ} {f : List ℕ} {ts : List Tok} {c : ClauseTree} → ReadsClause m (named f n) ts c
    → (s : Place) × (us : List Tok) × (ts ≡ tok s (Atom f) ∷ us)
clause_begins (named_clause {ts} s r) = (s, ts, refl)

clauses_begin : {m n : ℕ} {f : List ℕ} {ts : List Tok} {cs : Clauses} → ReadsClauses m (named f n) ts cs
    → (s : Place) × (us : List Tok) × (ts ≡ tok s (Atom f) ∷ us)
clauses_begin (last_clause r) = clause_begins r
clauses_begin (next_clause {us} s r rs) =
    let b = clause_begins r in (b.0, b.1 ++ word s mark.Semicolon ∷ us, ap (λ v. v ++ word s mark.Semicolon ∷ us) b.2)

dot_closes : (d : Place) → Closes (tok d Dot ∷ [])
dot_closes d = record {
  ends = record {
    calm = record {
      call = record { no_text = refl; no_arguments = refl; no_name = refl };
      no_match = refl;
      looser = λ o e. absurd (none_no o e);
    };
    no_comma = refl;
  };
  no_semicolon = refl;
}

-- the parts of a function are read whole
parts_whole : Whole most_brackets deepest part_of_form
parts_whole = part_whole deepest (read_expression deepest) (expression_complete deepest) most_brackets

function_whole : (f : List ℕ) (n : ℕ) (ts : List Tok) (cs : Clauses) (d : Place) → ReadsClauses most_brackets (named f n) ts cs
    → n ≤ most_parameters → clauses_depth cs ≤ deepest
    → read_form (ts ++ tok d Dot ∷ []) ≡ Some (defines (record { name = f; arity = n; line = line_at ts; clauses = cs }))
function_whole f n ts cs d r l h =
    let b = clauses_begin r in
    ap (λ v. read_form (v ++ dot)) b.2
    ∙ (ap (λ v. option_map defines (function_at b.0.line f v)) (ap (λ v. clauses_of (v ++ dot)) (sym b.2) ∙ read)
    ∙ (ap (λ t. option_map defines (if (t && true) && nat_le (clauses_depth cs) deepest then Some (tree (first_arity cs) b.0.line) else None))
    (is_fun_complete r l)
    ∙ (ap (λ t. option_map defines (if t then Some (tree (first_arity cs) b.0.line) else None)) (le_is (clauses_depth cs) deepest h)
    ∙ (λ i. Some (defines (tree (first_has r i) (line_at (sym b.2 i))))))))
  where
    dot : List Tok
    dot = tok d Dot ∷ []

    tree : ℕ → ℕ → FunctionTree
    tree j k = record { name = f; arity = j; line = k; clauses = cs }

    clauses_of : Read Clauses
    clauses_of = read_clauses (read_named_clause f deepest part_of_form)

    read : clauses_of (ts ++ dot) ≡ Some (cs, dot)
    read = named_clauses_complete most_brackets deepest n f part_of_form parts_whole (pat_complete deepest) ts cs (r, h) dot (dot_closes d)

pub form_complete : (ts : List Tok) (f : FormTree) → ReadsForm ts f → read_form ts ≡ Some f
form_complete ts f (a_module h a o s c d) = refl
form_complete ts f (an_export {xs} h a o p q c d r) =
    ap (λ v. option_map exports (ended (closed mark.ParenClose v))) (entries_whole r q (word c mark.ParenClose ∷ tok d Dot ∷ []))
form_complete ts f (an_attribute {a} us h s d p l) = attribute_whole a us h s d p l
form_complete ts f (a_function {n} {f = name} {ts = us} {cs} d r l h) = function_whole name n us cs d r l h

-- tokens are one form at most
pub one_form : (ts : List Tok) (f g : FormTree) → ReadsForm ts f → ReadsForm ts g → f ≡ g
one_form ts f g r s = some_is f g (sym (form_complete ts f r) ∙ form_complete ts g s)
