-- What the entries of a journal weigh.

use Rattle.std.specs.Prelude.{ℕ, ◌+◌, max, List, [], ◌∷◌}
use Rattle.edb_event.specs.declared.entry.Entry.{Entry}
use Rattle.edb_event.specs.declared.entry.Entry.TheVariants.{Ran}

-- A Ran weighs its moves and condition moves, at least 1; any other entry weighs 1.
abbrev pub weight_of : Entry → ℕ
weight_of (Ran p n c) = max 1 (n + c)
weight_of _ = 1

-- the weight of a journal
abbrev pub weight : List Entry → ℕ
weight [] = 0
weight (e ∷ es) = weight_of e + weight es
