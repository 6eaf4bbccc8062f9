use Rattle.std.proofs.Common.{◌≡◌, drop}
use Rattle.edb_lang.specs.ListTerms.{string_of}
use Rattle.edb_pure.specs.Truths.{same_term}
use Rattle.edb_match.proofs.texts.is_string.Given as goal

abbrev pub invariant-loop-point : goal.invariant-loop-point
invariant-loop-point l = same_term (string_of (drop l.point-index l.points)) l.rest ≡ same_term (string_of l.points) l.fn.term
