use Rattle.std.proofs.Common.{Some, inr, sym}
use Rattle.edb_tools.specs.Views.{seen}
use Rattle.edb_tools.specs.Ends.{joined}
use Rattle.edb_tools.proofs.top.serve.Goals as goal

pub returns-in-Ok-write_pieces-clause-written : goal.returns-in-Ok-write_pieces-clause-written
returns-in-Ok-write_pieces-clause-written g c =
    (joined c.in-Ok.pieces.items, c.in-Ok.ensures.ok, rw c.as_slice.ensures.value at c.in-Ok-write_pieces.ensures.ok)

pub returns-in-Ok-clause-written : goal.returns-in-Ok-clause-written
returns-in-Ok-clause-written g c =
    inr (joined c.in-Ok.pieces.items, c.in-Ok.ensures.ok, rw c.as_slice.ensures.value at c.in-Err-NoMemory.ensures.part)

pub returns-clause-written : goal.returns-clause-written
returns-clause-written g c =
    c.refuse.ensures.written (Some (seen c.args.asked.now)) _ _ (sym (rw c.as_slice-in-Err.ensures.value at c.name_of.ensures))
