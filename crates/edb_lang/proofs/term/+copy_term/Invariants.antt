use Rattle.std.proofs.Common.{◌≡◌, take}
use Rattle.edb_lang.proofs.term.+copy_term.Given as goal

abbrev pub invariant-copy_captured-loop-pair : goal.invariant-copy_captured-loop-pair
invariant-copy_captured-loop-pair l = l.copies.items ≡ take l.pair-index l.captured

abbrev pub invariant-copy_terms-loop-term : goal.invariant-copy_terms-loop-term
invariant-copy_terms-loop-term l = l.copies.items ≡ take l.term-index l.terms
