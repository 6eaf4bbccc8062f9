use Rattle.edb_rules.proofs.Commanded.{reply_is}
use Rattle.edb_rules.proofs.laws.replies_are_the_servers.Goals as goal

pub returns : goal.returns
returns c = reply_is
