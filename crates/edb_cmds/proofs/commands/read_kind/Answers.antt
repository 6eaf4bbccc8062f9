use Rattle.edb_cmds.proofs.commands.read_kind.Goals as goal

pub returns-in-Start : goal.returns-in-Start
returns-in-Start c = rw c.in-Start.is (c.start_command.ensures c.args.rest.now)

pub returns-in-Ii : goal.returns-in-Ii
returns-in-Ii c = rw c.in-Ii.is (c.ii_command.ensures c.args.line.now)

pub returns-in-Ib : goal.returns-in-Ib
returns-in-Ib c = rw c.in-Ib.is (c.ib_command.ensures c.args.line.now)

pub returns-in-Await : goal.returns-in-Await
returns-in-Await c = rw c.in-Await.is (c.await_command.ensures c.args.line.now)

pub returns-in-Ia : goal.returns-in-Ia
returns-in-Ia c = rw c.in-Ia.is (c.ia_command.ensures c.args.line.now)

pub returns-in-Bindings : goal.returns-in-Bindings
returns-in-Bindings c = rw c.in-Bindings.is (c.bindings_command.ensures c.args.line.now)

pub returns-in-Continue : goal.returns-in-Continue
returns-in-Continue c = rw c.in-Continue.is (c.continue_command.ensures c.args.line.now)
