use Rattle.edb_rules.proofs.Standings.{status_is, inside_is, halted_is}
use Rattle.edb_rules.proofs.Awaits.{enabled_is, waiting_is, await_met, await_unmet}
use Rattle.edb_rules.proofs.laws.statuses_are_told_by_entries.Goals as goal

pub returns : goal.returns
returns c = record {
  status = status_is;
  interpreted = inside_is;
  stopped = halted_is;
  enabled = enabled_is;
  waiting = waiting_is;
  met = await_met;
  unmet = await_unmet;
}
