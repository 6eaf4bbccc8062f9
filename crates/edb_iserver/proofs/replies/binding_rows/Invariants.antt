use Rattle.std.proofs.Common.{◌≡◌, take, map}
use Rattle.edb_iserver.proofs.BindingRows.{row_of}
use Rattle.edb_iserver.proofs.replies.binding_rows.Given as goal

-- a row for each pair so far
abbrev pub invariant-loop-pair : goal.invariant-loop-pair
invariant-loop-pair l = l.rows ≡ map row_of (take l.pair-index l.pair-items)
