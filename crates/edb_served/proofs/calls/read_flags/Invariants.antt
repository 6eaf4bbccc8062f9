use Rattle.std.proofs.Common.{◌≡◌, ◌+◌, [], length}
use Rattle.edb_served.specs.Calls.{flags_at}
use Rattle.edb_served.proofs.calls.read_flags.Given as goal

-- what the turns that are left give is what all give
abbrev pub invariant-loop-turns : goal.invariant-loop-turns
invariant-loop-turns l = record {
  read : flags_at l.turns l.found.items l.rest ≡ flags_at l.fn.most [] l.fn.bytes;
  few : length l.found.items + l.turns ≡ l.fn.most;
}

abbrev pub decreases-loop-turns : goal.decreases-loop-turns
decreases-loop-turns l = l.turns
