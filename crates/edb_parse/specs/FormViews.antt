-- Forms of the code, as the grammar has them.

use Rattle.std.specs.Prelude.{◌≡◌, ℕ, List, [], ◌∷◌, length, Option, None, Some, Result, Ok, Err, codes}
use Rattle.edb_scan.specs.declared.lexeme.Mark.TheVariants as mark
use Rattle.edb_scan.specs.declared.lexeme.Token.{Token}
use Rattle.edb_syntax.specs.declared.modules.Export.{Export}
use Rattle.edb_grammar.specs.Toks.{tok, open_behind}
use Rattle.edb_grammar.specs.Reading.{Read, items}
use Rattle.edb_grammar.specs.FormReading.{read_entry}
use Rattle.edb_grammar.specs.Forms.{FormTree, names, exports, skipped, defines}
use Rattle.edb_parse.specs.declared.forms.Form.{Form}
use Rattle.edb_parse.specs.declared.forms.Form.TheVariants as form
use Rattle.edb_parse.specs.declared.unread.Unread.{Unread}
use Rattle.edb_parse.specs.declared.unread.Unread.TheVariants.{Memory, Refused}

abbrev pub form_of : Form → FormTree
form_of (form.Names l m) = names l m
form_of (form.Exports xs) = exports xs.items
form_of form.Skipped = skipped
form_of (form.Defines f) = defines f

-- The answer, seen by `view`, is what a whole list of tokens is, or it is nothing. Where memory was wanting it says
-- nothing.
abbrev pub Is : {X A : Type 0} → (X → A) → Result X Unread → Option A → Type 0
Is view (Ok x) read = read ≡ Some (view x)
Is view (Err Memory) read = Unit {0}
Is view (Err Refused) read = read ≡ None

abbrev pub GivesForm : Result Form Unread → Option FormTree → Type 0
GivesForm result read = Is form_of result read

-- the attributes of conditional compilation
abbrev pub conditional_attributes : List (List ℕ)
conditional_attributes =
    codes "ifdef" ∷ codes "ifndef" ∷ codes "if" ∷ codes "else" ∷ codes "elif" ∷ codes "endif" ∷ []

-- entries with commas between them
abbrev pub all_entries : Read (List Export)
all_entries ts = items ◌∷◌ [] mark.Comma read_entry (length ts) ts

-- how many round brackets are open behind a token, where so many are before it
abbrev pub open_with : ℕ → Token → ℕ
open_with n t = open_behind n (tok (record { line = 0; funs = 0 }) t)
