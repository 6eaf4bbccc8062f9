use Rattle.std.proofs.Common.{◌≡◌, ◌∙◌, Bor, Bool, true, false, cond, Some, None, is_some, refl, sym, ap, arith}
use Rattle.std.specs.Ordering.{is_eq}
use Rattle.edb_syntax.specs.declared.modules.Export.{Export}
use Rattle.edb_units.specs.Keys.{Signature, signature_cmp, export_key}
use Rattle.edb_units.proofs.Signatures.{signature_order}
use Rattle.edb_units.proofs.Looking.{none_there, read_there}
use Rattle.edb_units.proofs.search.holds_export.Goals as goal

pub returns-then-place-exports : goal.returns-then-place-exports
returns-then-place-exports c =
    ap is_some (none_there signature_cmp signature_order export_key (λ (x : Bor Export). x.now) (c.args.name.now, c.args.arity) c.args.exports.now c.requires c.export_place-place.result 0 c.export_place-place.result (omega arith) c.export_place-place.ensures.parted (omega arith))

pub returns : goal.returns
returns c =
    let k : Signature = (c.args.name.now, c.args.arity) in
    let there = read_there signature_cmp signature_order export_key (λ (x : Bor Export). x.now) k c.args.exports.now c.requires c.export_place-place.result 0 c.export_place-place.result (omega arith) c.export_place-place.ensures.parted c.index-exports-place.result (omega arith) c.index-exports-place.is c.is_eq.result (ap is_eq (sym c.compare.ensures) ∙ sym c.is_eq.ensures) in
    whether c.is_eq.result c.index-exports-place.result.now ∙ sym (ap is_some there)
  where
    whether : (b : Bool) (e : Export) → b ≡ is_some (cond b (Some e) None)
    whether true e = refl
    whether false e = refl
