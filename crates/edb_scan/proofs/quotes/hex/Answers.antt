use Rattle.std.proofs.Common.{[], ◌∷◌, refl, ap, ◌∙◌, arith}
use Rattle.edb_scan.proofs.quotes.hex.Goals as goal

pub returns : goal.returns
returns c = (
  c.in_ok-high.high.now ∷ c.in_ok-low.low.now ∷ [],
  c.in_ok-high.ensures.cases.0 ∙ ap (λ t. c.in_ok-high.high.now ∷ t) c.in_ok-low.ensures.cases.0,
  record {
    high = c.in_ok-high.high.now;
    low = c.in_ok-low.low.now;
    cut = refl;
    high_digit = omega arith;
    low_digit = omega arith;
    value = omega arith;
  },
)
