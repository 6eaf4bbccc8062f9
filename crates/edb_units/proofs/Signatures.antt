-- Names and arities are in a total order.

use Rattle.std.specs.Cmp.{IsTotalOrder}
use Rattle.std.proofs.lemmas.Cmp.{then_total, on_total, nat_list_cmp_total, nat_cmp_total}
use Rattle.edb_units.specs.Keys.{Signature, signature_cmp}

pub signature_order : IsTotalOrder signature_cmp
signature_order = then_total (on_total (λ (s : Signature). s.0) nat_list_cmp_total) (on_total (λ (s : Signature). s.1) nat_cmp_total)
