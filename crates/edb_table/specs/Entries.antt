-- The entries of a journal's text: the word that begins an entry's line, and the number of fields after it.
use Rattle.std.specs.Prelude.{List, [], ◌∷◌, codes}
use Rattle.edb_table.specs.Keys.{Key}

-- Each word with each number of fields that may follow it, in the order of the table. A line whose last fields are a
-- list, or a command and its reply, has no fixed number of them: its word has 0.
unfoldable pub entry_keys : List Key
entry_keys =
    (codes "advance", 1) ∷ (codes "ask", 2) ∷ (codes "did", 4) ∷ (codes "enter", 4) ∷
    (codes "expire", 2) ∷ (codes "forward", 1) ∷ (codes "kill", 2) ∷ (codes "lease", 2) ∷
    (codes "leave", 1) ∷ (codes "load", 3) ∷ (codes "ran", 3) ∷ (codes "served", 0) ∷
    (codes "signal", 1) ∷ (codes "signal", 2) ∷ (codes "skip", 2) ∷ (codes "start", 0) ∷
    (codes "stop", 5) ∷ (codes "stop", 6) ∷ (codes "took", 1) ∷ (codes "trigger", 6) ∷ []
