use Rattle.edb_scan.proofs.NameLemmas.{variable_found}
use Rattle.edb_scan.proofs.words.variable.Goals as goal

pub returns : goal.returns
returns c = rw c.in_ok-name.ensures (variable_found c.args.bytes.now c.split_name.result.0.now c.split_name.result.1.now c.requires c.split_name.ensures)
