use Rattle.std.proofs.Common.{◌∙◌, sym, ap, map, arith}
use Rattle.std.proofs.lemmas.List.{take_all}
use Rattle.edb_rules.specs.ServerRows.{binding_rows}
use Rattle.edb_iserver.proofs.BindingRows.{row_of, rows_of}
use Rattle.edb_iserver.proofs.replies.binding_rows.Goals as goal

pub returns : goal.returns
returns c =
    c.loop-pair.invariant
    ∙ ap (map row_of) (take_all c.loop-pair.pair-index c.deref-pair-items.result.now (omega arith) ∙ c.deref-pair-items.ensures.value)
    ∙ sym (rows_of c.in_ok-pairs.pairs.items) ∙ ap binding_rows c.in_ok-pairs.ensures
