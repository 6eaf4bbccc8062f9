-- The processes that the plain run of a journal starts.

use Rattle.std.specs.Prelude.{◌≡◌, ◌⊎◌, ℕ, List, [], ◌∷◌}
use Rattle.edb_lang.specs.Terms.{Datum}
use Rattle.edb_model.specs.Labels.{Label, start}
use Rattle.edb_event.specs.declared.entry.Entry.{Entry}
use Rattle.edb_rules.specs.Erasure.{erase}

-- the starts of a run, in their order
abbrev pub starts_in : List Label → List Label
starts_in [] = []
starts_in (start m n args ∷ labels) = start m n args ∷ starts_in labels
starts_in (label ∷ labels) = starts_in labels

-- A journal starts no process yet, or one: with the call of function n of module m with these arguments.
abbrev pub StartsOnce : List ℕ → List ℕ → Datum → List Entry → Type 0
StartsOnce m n args journal = (starts_in (erase journal) ≡ []) ⊎ (starts_in (erase journal) ≡ start m n args ∷ [])
