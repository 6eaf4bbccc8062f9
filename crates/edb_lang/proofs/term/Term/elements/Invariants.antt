use Rattle.std.proofs.Common.{◌≡◌, ◌++◌, map}
use Rattle.std.specs.Option.{option_map}
use Rattle.edb_lang.specs.ListTerms.{elements_of}
use Rattle.edb_lang.proofs.term.Term.elements.Given as goal

-- the elements so far and those of what is left are all
abbrev pub invariant-loop-rest : goal.invariant-loop-rest
invariant-loop-rest l = option_map (λ ts. map (λ t. t.now) l.items.items ++ ts) (elements_of l.rest) ≡ elements_of l.fn.self
