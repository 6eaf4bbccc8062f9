use Rattle.std.proofs.Common.{◌≡◌, pos, map}
use Rattle.edb_lang.specs.Terms.{int}
use Rattle.edb_values.proofs.texts.characters.Given as goal

-- the characters so far
abbrev pub invariant-loop-c : goal.invariant-loop-c
invariant-loop-c l = l.items.items ≡ map (λ c. int (pos c)) l.yielded
