-- What contracts see of a test's value, and of what is bound for a guard.

use Rattle.std.specs.Prelude.{[]}
use Rattle.edb_lang.specs.Pairs.{Pairs}
use Rattle.edb_lang.specs.Terms.{Datum}
use Rattle.edb_match.specs.Newest.{newest_first}
use Rattle.edb_guards.specs.declared.value.Value.{Value}
use Rattle.edb_guards.specs.declared.value.Value.TheVariants.{Lent, Made}
use Rattle.edb_guards.specs.declared.scope.Scope.{Scope}
use Rattle.edb_guards.specs.declared.scope.Scope.TheVariants.{Sorted, Stacks}

-- the value, whether it is lent or was made
abbrev pub value_of : Value → Datum
value_of (Lent t) = t.now
value_of (Made t) = t

-- what is bound: of three stacks the newest pairs first
unfoldable pub scope_pairs : Scope → Pairs
scope_pairs (Sorted bs) = bs.now
scope_pairs (Stacks new sees hidden) = newest_first new.now (newest_first sees.now (newest_first hidden.now []))
