-- The rows of variables, from the variables as they are copied.

use Rattle.std.proofs.Common.{◌≡◌, ℕ, List, [], ◌∷◌, ◌++◌, map, refl, ap}
use Rattle.std.specs.Prelude.{codes}
use Rattle.edb_lang.specs.declared.term.Captured.{Captured}
use Rattle.edb_lang.specs.TermText.{term_text}
use Rattle.edb_lang.specs.TermViews.{pairs_of}
use Rattle.edb_rules.specs.ServerRows.{binding_rows}

abbrev pub row_of : Captured → List ℕ
row_of c = (c.name ++ codes " = ") ++ term_text c.value

pub rows_of : (cs : List Captured) → binding_rows (pairs_of cs) ≡ map row_of cs
rows_of [] = refl
rows_of (c ∷ cs) = ap (λ (rows : List (List ℕ)). row_of c ∷ rows) (rows_of cs)
