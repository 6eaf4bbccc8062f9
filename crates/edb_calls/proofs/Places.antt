-- There is just one place where a call stands.

use Rattle.std.proofs.Common.{◌≡◌, sym}
use Rattle.edb_moves.specs.Going.{Place}
use Rattle.edb_calls.specs.Sites.{Stands, spot}
use Rattle.edb_calls.specs.declared.site.Site.{Site}

pub one_place : (s : Site) (p : Place) → Stands s p → spot s ≡ p
one_place s p st =
    λ i. record { me = sym st.process i; level = sym st.level i; bindings = sym st.bindings i; is_tail = sym st.tail i; bodies = sym st.bodies i }
