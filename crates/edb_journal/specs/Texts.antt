-- The text of a journal, first version: the line `edb 1`, and a line for each entry.

use Rattle.std.specs.Prelude.{◌≡◌, ℕ, List, [], ◌∷◌, ◌++◌, codes, refl}
use Rattle.std.specs.Fmt.{digits}
use Rattle.std.specs.List.{flat_map}
use Rattle.edb_lang.specs.Terms.{nil}
use Rattle.edb_lang.specs.TermText.{plain_text, text, tuple_text, items_text}
use Rattle.edb_lang.specs.declared.act.ActKind.TheVariants as kind
use Rattle.edb_event.specs.declared.entry.Entry.{Entry}
use Rattle.edb_event.specs.declared.entry.Entry.TheVariants as entry
use Rattle.edb_fields.specs.Separators.{fields}
use Rattle.edb_journal.specs.Lines.{line}

abbrev pub first_line : List ℕ
first_line = codes "edb 1\n"

abbrev pub journal_text : List Entry → List ℕ
journal_text es = first_line ++ flat_map line es

-- a session whose only process displays 5 and ends
displayed : journal_text (entry.Start 1 1 (codes "shop") (codes "main") nil ∷ entry.Lease 1 100 ∷ entry.Ran 1 16 0 ∷ entry.Did 1 kind.Print (codes "true") (codes "5\n")
    ∷ entry.Lease 1 100 ∷ entry.Ran 1 1 0 ∷ entry.Did 1 kind.End (codes "normal") [] ∷ [])
    ≡ codes "edb 1\nstart 1 1 shop main []\nlease 1 100\nran 1 16 0\ndid 1 print 74727565 350a\nlease 1 100\nran 1 1 0\ndid 1 end 6e6f726d616c -\n"
unfolding line fields digits plain_text text tuple_text items_text
displayed = refl
