use Rattle.std.proofs.Common.{inl, inr, ◌∙◌, sym, arith, length, nat_cmp}
use Rattle.std.specs.Iterator.Adapters.{zip_first, zip_second}
use Rattle.std.specs.Slice.Iter.{iter_rest}
use Rattle.edb_lang.proofs.Lists.{most-size_le-made}
use Rattle.edb_lang.proofs.OrderLaws.{captures_ended}
use Rattle.edb_lang.proofs.term.+compare.Goals as goal

pub FunValue::cmp-cmp_captured-requires : goal.FunValue::cmp-cmp_captured-requires
FunValue::cmp-cmp_captured-requires t c =
    (omega (arith, most-size_le-made c.in-Made-Made.is-0 c.deref.ensures.value), tt)

pub cmp_captured-returns : goal.cmp_captured-returns
cmp_captured-returns t c =
    let i = c.loop-x.invariant in
    let rest = captures_ended (iter_rest (zip_first c.loop-x.x-iterator)) (iter_rest (zip_second c.loop-x.x-iterator)) (length c.loop-x.yielded)
    (elim c.in-None.ensures.steps [ inl p ↦ inl p.1.0 | inr p ↦ inr p.1.0 ]) in
    c.cmp.ensures ∙ (λ k. nat_cmp (sym i.left k) (sym i.right k)) ∙ sym rest ∙ i.rest
