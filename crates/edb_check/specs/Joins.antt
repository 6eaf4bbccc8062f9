-- What several ways bind, found one way after the other.

use Rattle.std.specs.Prelude.{[], Option, None, Some}
use Rattle.edb_check.specs.Scopes.{Scope, meet}

abbrev pub with_way : Option Scope → Scope → Option Scope
with_way None w = Some w
with_way (Some s) w = Some (meet s w)

-- nothing, where there was no way
abbrev pub or_none : Option Scope → Scope
or_none None = []
or_none (Some s) = s
