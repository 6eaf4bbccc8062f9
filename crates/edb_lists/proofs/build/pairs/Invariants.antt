use Rattle.std.proofs.Common.{◌≡◌, ◌++◌, map, drop, zip}
use Rattle.edb_pure.specs.Lists.{pair}
use Rattle.edb_lists.proofs.build.pairs.Given as goal

-- the pairs so far and those of what is left are all
abbrev pub invariant-loop-place : goal.invariant-loop-place
invariant-loop-place l =
    l.made.items ++ map (λ p. pair p.0 p.1) (zip (drop l.place (map (λ t. t.now) l.firsts)) (drop l.place (map (λ t. t.now) l.seconds))) ≡ map (λ p. pair p.0 p.1) (zip (map (λ t. t.now) l.firsts) (map (λ t. t.now) l.seconds))
