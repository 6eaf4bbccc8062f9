use Rattle.std.proofs.Common.{rules}
use Rattle.edb_iserver.proofs.Placing.{started_none, started_before}
use Rattle.edb_iserver.proofs.server.Server.start.Goals as goal

pub returns-then-pid-eq0-clause-ok : goal.returns-then-pid-eq0-clause-ok
returns-then-pid-eq0-clause-ok c = started_none c.args.self.now c.args.pid (search rules)

pub returns-then-is_some-clause-ok : goal.returns-then-is_some-clause-ok
returns-then-is_some-clause-ok c = started_before c.args.self.now c.args.pid (search rules)
