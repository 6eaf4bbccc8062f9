use Rattle.std.proofs.Common.{◌≡◌, Some, map, drop}
use Rattle.std.specs.List.{fold, reduce}
use Rattle.std.specs.Ordering.{ord_min}
use Rattle.edb_lang.specs.Order.{term_cmp}
use Rattle.edb_lists.proofs.search.least_of.Given as goal

-- this one and those that are left give the answer
abbrev pub invariant-loop-place : goal.invariant-loop-place
invariant-loop-place l = Some (fold (ord_min term_cmp) l.best (drop l.place (map (λ t. t.now) l.items))) ≡ reduce (ord_min term_cmp) (map (λ t. t.now) l.items)
