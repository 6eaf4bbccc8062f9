-- Pairs that are kept in the order in which they were bound, as pairs of which the newest is first.

use Rattle.std.specs.Prelude.{List, [], ◌∷◌}
use Rattle.edb_lang.specs.declared.term.Captured.{Captured}
use Rattle.edb_lang.specs.Pairs.{Pairs}

-- the pairs, the newest first, in front of others
abbrev pub newest_first : List Captured → Pairs → Pairs
newest_first [] bs = bs
newest_first (c ∷ cs) bs = newest_first cs ((c.name, c.value) ∷ bs)
