-- The exceptions that moves raise.

use Rattle.std.specs.Prelude.{ℕ, List, codes}
use Rattle.edb_lang.specs.declared.small.Class.TheVariants.{Error}
use Rattle.edb_lang.specs.Terms.{Datum, atom, nil, framed}
use Rattle.edb_lang.specs.ListTerms.{list_of}
use Rattle.edb_pure.specs.Lists.{pair}
use Rattle.edb_moves.specs.Going.{Effect, raises}

-- an error whose reason is this atom
abbrev pub fails : {X : Type 0} → List ℕ → Effect X
fails reason = raises Error (atom reason)

-- An error whose reason is this atom with a term, in a tuple. Where the tuple would pass a limit, the atom `system_limit`
-- stands in the term's place.
abbrev pub fails_with : {X : Type 0} → List ℕ → Datum → Effect X
fails_with reason v = raises Error (framed (pair (atom reason)) v)

-- a fun that is called with a wrong number of arguments: it stands beside them in the reason
abbrev pub fails_by_arity : {X : Type 0} → Datum → List Datum → Effect X
fails_by_arity f vs = fails_with (codes "badarity") (pair f (list_of vs nil))
