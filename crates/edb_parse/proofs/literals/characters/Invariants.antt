use Rattle.std.proofs.Common.{◌≡◌, take, map, pos}
use Rattle.edb_lang.specs.Terms.{int}
use Rattle.edb_parse.proofs.literals.characters.Given as goal

abbrev pub invariant-loop-point : goal.invariant-loop-point
invariant-loop-point l = l.terms.items ≡ map (λ c. int (pos c)) (take l.point-index l.points)
