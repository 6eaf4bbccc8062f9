-- What a Body that a caller sees says, as running expressions name it.

use Rattle.edb_model.specs.Running.{Info}
use Rattle.edb_eval.specs.declared.body.Body.{Body}

abbrev pub body_info : Body → Info
body_info b =
    record { home = b.«module».now; version = b.version; name = b.name.now; arity = b.arity; level = b.level; bindings = b.bindings.now }
