use Rattle.std.proofs.Common.{◌≡◌, ◌++◌, drop, codes}
use Rattle.std.specs.List.{flat_map}
use Rattle.edb_report.proofs.replies.put_each_row.Given as goal

-- what was put and what is left are all
abbrev pub invariant-loop-row : goal.invariant-loop-row
invariant-loop-row l =
    l.out.items ++ flat_map (λ row. codes "\n" ++ row) (drop l.row-index l.rows)
    ≡ l.fn.out.items ++ flat_map (λ row. codes "\n" ++ row) l.rows
