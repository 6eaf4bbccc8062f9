use Rattle.edb_session.proofs.Found.{found_same}
use Rattle.edb_session.proofs.top.find_module.Goals as goal

pub returns : goal.returns
returns c = found_same c.as_slice.result.now c.args.text.now c.read_module.result c.as_slice.ensures c.read_module.ensures.sound c.read_module.ensures.complete
