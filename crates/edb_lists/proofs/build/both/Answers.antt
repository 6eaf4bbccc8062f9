use Rattle.std.proofs.Common.{arith}
use Rattle.edb_lists.proofs.Walks.{no_pair}
use Rattle.edb_lists.proofs.build.both.Goals as goal

pub returns-then-items-ne2 : goal.returns-then-items-ne2
returns-then-items-ne2 c = no_pair c.args.items.now (λ e. omega arith)
