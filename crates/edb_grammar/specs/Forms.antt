-- The grammar of forms: which tokens, the dot at the end included, are which form.

use Rattle.std.specs.Prelude.{◌≡◌, ℕ, ◌≤◌, Bool, true, not, List, [], ◌∷◌, ◌++◌, codes}
use Rattle.std.specs.List.{list_any}
use Rattle.edb_scan.specs.declared.lexeme.Mark.TheVariants as mark
use Rattle.edb_scan.specs.declared.lexeme.Token.TheVariants.{Int, Atom, Dot}
use Rattle.edb_lang.specs.TermText.{same_name}
use Rattle.edb_syntax.specs.Depths.{clauses_depth}
use Rattle.edb_syntax.specs.declared.modules.Export.{Export}
use Rattle.edb_syntax.specs.Syntax.{FunctionTree, Clauses}
use Rattle.edb_grammar.specs.Toks.{Place, Tok, tok, word, line_at, most_open}
use Rattle.edb_grammar.specs.Expressions.{ReadsClauses, named, most_parameters}

-- what a form is: the module form with its line, which names the module; an export; an attribute that is passed
-- over; or a function
pub data FormTree : Type 0 where
  names : ℕ → List ℕ → FormTree
  exports : List Export → FormTree
  skipped : FormTree
  defines : FunctionTree → FormTree

-- how deep a function may be, and how many round brackets may be open at once in a form
abbrev pub deepest : ℕ
deepest = 200

abbrev pub most_brackets : ℕ
most_brackets = 500

-- the attributes that are not passed over
abbrev pub known_attributes : List (List ℕ)
known_attributes =
    codes "module" ∷ codes "export" ∷ codes "import" ∷ codes "include" ∷ codes "include_lib" ∷ codes "define"
    ∷ codes "undef" ∷ codes "ifdef" ∷ codes "ifndef" ∷ codes "if" ∷ codes "else" ∷ codes "elif" ∷ codes "endif"
    ∷ codes "record" ∷ []

abbrev pub is_passed_over : List ℕ → Bool
is_passed_over name = not (list_any (same_name name) known_attributes)

-- entries of an export, `f/2`, with commas between them, one at least; an entry has the line of its name
pub data ReadsEntries : List Tok → List Export → Type 0 where
  last_entry : {n : ℕ} {f : List ℕ} (s d a : Place) → n ≤ most_parameters
      → ReadsEntries (tok s (Atom f) ∷ word d mark.Slash ∷ tok a (Int n) ∷ []) (record { name = f; arity = n; line = s.line } ∷ [])
  next_entry : {n : ℕ} {f : List ℕ} {ts : List Tok} {xs : List Export} (s d a c : Place) → n ≤ most_parameters → ReadsEntries ts xs
      → ReadsEntries (tok s (Atom f) ∷ word d mark.Slash ∷ tok a (Int n) ∷ word c mark.Comma ∷ ts)
      (record { name = f; arity = n; line = s.line } ∷ xs)

-- entries, or none
pub data ReadsEntriesOrNone : List Tok → List Export → Type 0 where
  no_entries : ReadsEntriesOrNone [] []
  some_entries : {ts : List Tok} {xs : List Export} → ReadsEntries ts xs → ReadsEntriesOrNone ts xs

pub data ReadsForm : List Tok → FormTree → Type 0 where
  -- `-module(m).`
  a_module : {m : List ℕ} (h a o s c d : Place)
      → ReadsForm (word h mark.Minus ∷ tok a (Atom (codes "module")) ∷ word o mark.ParenOpen ∷ tok s (Atom m) ∷ word c mark.ParenClose ∷ tok d Dot ∷ [])
      (names h.line m)
  -- `-export([f/1, g/2]).`
  an_export : {ts : List Tok} {xs : List Export} (h a o p q c d : Place) → ReadsEntriesOrNone ts xs
      → ReadsForm (word h mark.Minus ∷ tok a (Atom (codes "export")) ∷ word o mark.ParenOpen ∷ word p mark.BracketOpen
      ∷ (ts ++ word q mark.BracketClose ∷ word c mark.ParenClose ∷ tok d Dot ∷ []))
      (exports xs)
  -- an attribute that is passed over: its tokens are unread, but their round brackets count
  an_attribute : {a : List ℕ} (ts : List Tok) (h s d : Place) → is_passed_over a ≡ true → most_open 0 ts ≤ most_brackets
      → ReadsForm (word h mark.Minus ∷ tok s (Atom a) ∷ (ts ++ tok d Dot ∷ [])) skipped
  -- a function
  a_function : {n : ℕ} {f : List ℕ} {ts : List Tok} {cs : Clauses} (d : Place) → ReadsClauses most_brackets (named f n) ts cs
      → n ≤ most_parameters → clauses_depth cs ≤ deepest
      → ReadsForm (ts ++ tok d Dot ∷ []) (defines (record { name = f; arity = n; line = line_at ts; clauses = cs }))
