use Rattle.std.proofs.Common.{arith}
use Rattle.std.specs.Vec.{vec_len}
use Rattle.edb_lang.proofs.CellLemmas.{long-limited}
use Rattle.edb_lang.proofs.term.Term.list.Goals as goal

-- src/cells.rt: too many elements
pub returns-then-len : goal.returns-then-len
returns-then-len c = long-limited c.args.items.items c.args.tail (omega (arith, c.if-len.true, c.len.ensures))
