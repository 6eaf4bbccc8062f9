use Rattle.std.proofs.Common.{◌≡◌, drop}
use Rattle.edb_rules.specs.Server.{console_of}
use Rattle.edb_iserver.proofs.server.Server.console_of.Given as goal

-- none of the pairs so far was of the process
abbrev pub invariant-loop-process : goal.invariant-loop-process
invariant-loop-process l = console_of l.pid (drop l.process-index l.process-items) ≡ console_of l.pid l.process-items
