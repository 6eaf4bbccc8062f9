use Rattle.std.proofs.Common.{ap, ◌∙◌}
use Rattle.edb_lang.specs.Terms.{Datum}
use Rattle.edb_lang.specs.declared.term.Cell.{Cell}
use Rattle.edb_lang.specs.ListTerms.{list_of}
use Rattle.edb_lang.proofs.CellLemmas.{one_cell}
use Rattle.edb_leaves.proofs.generators.gathered_list.Goals as goal

-- the last element goes into a cell
pub loop-head-preserved : goal.loop-head-preserved
loop-head-preserved c =
    ap (λ (v : Cell). list_of c.pop.new.self.items (Datum.cons v.head v.tail)) c.in_ok-cell.ensures.ok
    ∙ one_cell c.loop-head.left.items c.pop.new.self.items c.pop.result c.in-Some.head c.loop-head.list c.pop.ensures.items c.in-Some.is
    ∙ c.loop-head.invariant
