use Rattle.edb_rules.proofs.Triggers.{trigger_follows}
use Rattle.edb_rules.proofs.laws.a_stop_is_followed_by_its_trigger.Goals as goal

pub returns : goal.returns
returns c = trigger_follows
