use Rattle.std.proofs.Common.{◌≡◌, ◌++◌, List, map, drop}
use Rattle.std.specs.Option.{option_map}
use Rattle.edb_lang.specs.Terms.{Datum}
use Rattle.edb_pure.specs.Lists.{each, pair_of}
use Rattle.edb_lists.proofs.build.split.Given as goal

-- the terms so far and those of the pairs that are left are all
abbrev pub invariant-loop-place : goal.invariant-loop-place
invariant-loop-place l =
    option_map {U = List Datum × List Datum} (λ ps. (map (λ t. t.now) l.firsts.items ++ map (λ p. p.0) ps, map (λ t. t.now) l.seconds.items ++ map (λ p. p.1) ps)) (each pair_of (drop l.place (map (λ t. t.now) l.items))) ≡ option_map {U = List Datum × List Datum} (λ ps. (map (λ p. p.0) ps, map (λ p. p.1) ps)) (each pair_of (map (λ t. t.now) l.items))
