use Rattle.std.proofs.Common.{◌≡◌, ◌++◌, map, drop}
use Rattle.std.specs.List.{flat_map}
use Rattle.std.specs.Option.{option_map}
use Rattle.edb_lang.specs.ListTerms.{elements_of}
use Rattle.edb_pure.specs.Lists.{each}
use Rattle.edb_lists.proofs.build.joined.Given as goal

-- the elements so far and those of the lists that are left are all
abbrev pub invariant-loop-place : goal.invariant-loop-place
invariant-loop-place l =
    option_map (λ uss. map (λ t. t.now) l.all.items ++ flat_map (λ us. us) uss) (each elements_of (drop l.place (map (λ t. t.now) l.lists))) ≡ option_map (flat_map (λ us. us)) (each elements_of (map (λ t. t.now) l.lists))
