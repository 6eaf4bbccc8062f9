-- The code's types, as contracts see them.

use Rattle.std.specs.Prelude.{map}
use Rattle.edb_options.specs.Options.{Wanted}
use Rattle.edb_options.specs.declared.request.Request.{Request}

-- what is asked for, with the names as texts
abbrev pub wanted_of : Request → Wanted
wanted_of r = record { options = r.options; names = map (λ name. name.now) r.names.items }
