-- The reason with which a process ends, whose expression is a value or an exception.

use Rattle.std.specs.Prelude.{codes}
use Rattle.edb_lang.specs.declared.small.Class.TheVariants.{Error, Exit, Throw}
use Rattle.edb_lang.specs.Terms.{Datum, atom, nil, framed}
use Rattle.edb_pure.specs.Lists.{pair}
use Rattle.edb_moves.specs.Running.{Run, raised}

-- the tuple of an error's reason with its stack, which is always `[]`
abbrev pub error_exit : Datum → Datum
error_exit r = pair r nil

-- the tuple of what was thrown, and not caught
abbrev pub throw_exit : Datum → Datum
throw_exit v = error_exit (pair (atom (codes "nocatch")) v)

-- An exit's own reason, and the tuples above for an error and for a throw, with the atom `system_limit` in the place of what
-- would pass a limit; `normal` for a value.
abbrev pub exit_reason : Run → Datum
exit_reason (raised Error r) = framed error_exit r
exit_reason (raised Exit r) = r
exit_reason (raised Throw v) = framed throw_exit v
exit_reason _ = atom (codes "normal")
