use Rattle.edb_rules.proofs.ServerAgrees.{agrees_at}
use Rattle.edb_rules.proofs.ServerCounts.{code_is, current_is, made_is, made_listed, listed_made}
use Rattle.edb_rules.proofs.laws.the_server_agrees.Goals as goal

pub returns : goal.returns
returns c = record { code = code_is; versions = current_is; count = made_is; made = made_listed; only = listed_made; processes = agrees_at }
