use Rattle.std.proofs.Common.{◌∙◌, List, map, slice_get, is_some, ap, Bor}
use Rattle.std.specs.List.{filter}
use Rattle.edb_syntax.specs.Syntax.{ModuleTree}
use Rattle.edb_syntax.specs.declared.modules.Export.{Export}
use Rattle.edb_syntax.specs.Lookup.{exports as is_exported}
use Rattle.edb_units.specs.Keys.{Signature, signature_cmp, export_key}
use Rattle.edb_units.specs.Orders.{has}
use Rattle.edb_units.proofs.Lookups.{export_first}
use Rattle.edb_units.proofs.unit.Unit.exports.Goals as goal

pub returns : goal.returns
returns c =
    let k : Signature = (c.args.name.now, c.args.arity) in
    c.holds_export.ensures
    ∙ ap (λ (xs : List (Bor Export)). is_some (slice_get (filter (has signature_cmp export_key k) (map (λ (x : Bor Export). x.now) xs)) 0)) c.deref.ensures.value
    ∙ ap (λ xs. is_some (slice_get xs 0)) (c.self.invariant.exports_found.alike k)
    ∙ export_first _ c.args.name.now c.args.arity
    ∙ ap (λ (x : ModuleTree). is_exported x c.args.name.now c.args.arity) c.self.view_is
