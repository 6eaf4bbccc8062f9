use Rattle.std.proofs.Common.{[], ◌∷◌, Some}
use Rattle.std.proofs.lemmas.Bool.Decides.{Decides-eqb}
use Rattle.std.proofs.lemmas.Slice.Eq.{strip_prefix_is}
use Rattle.edb_scan.proofs.FloatLemmas.{fraction_with_power, fraction_without}
use Rattle.edb_scan.proofs.numerals.fraction.Goals as goal

pub returns-in-Some : goal.returns-in-Some
returns-in-Some c =
    fraction_with_power c.args.bytes.now c.in_ok-rest.rest.now c.in_ok-after.field-0-0.now c.in_ok-after.after.now c.in-Some.end.now
    (strip_prefix_is Decides-eqb c.args.bytes.now (46 ∷ []) (Some c.in_ok-rest.rest) c.in_ok-rest.ensures.cases) c.in_ok-after.ensures c.in-Some.ensures

pub returns-in-None : goal.returns-in-None
returns-in-None c =
    fraction_without c.args.bytes.now c.in_ok-rest.rest.now c.in_ok-after.field-0-0.now c.in_ok-after.after.now
    (strip_prefix_is Decides-eqb c.args.bytes.now (46 ∷ []) (Some c.in_ok-rest.rest) c.in_ok-rest.ensures.cases) c.in_ok-after.ensures c.in-None.ensures
