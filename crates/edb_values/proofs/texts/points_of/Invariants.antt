use Rattle.std.proofs.Common.{◌≡◌, ◌++◌}
use Rattle.std.specs.Option.{option_map}
use Rattle.edb_lang.specs.ListTerms.{characters_of}
use Rattle.edb_values.proofs.texts.points_of.Given as goal

-- the characters so far and those of what is left are all
abbrev pub invariant-loop-rest : goal.invariant-loop-rest
invariant-loop-rest l = option_map (λ cs. l.points.items ++ cs) (characters_of l.rest) ≡ characters_of l.list
