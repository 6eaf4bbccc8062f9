use Rattle.std.proofs.Common.{◌∙◌, List, map, slice_get, ap, Bor}
use Rattle.std.specs.List.{filter}
use Rattle.edb_syntax.specs.Syntax.{ModuleTree}
use Rattle.edb_syntax.specs.declared.modules.Function.{Function}
use Rattle.edb_syntax.specs.Lookup.{function_in}
use Rattle.edb_units.specs.Keys.{Signature, signature_cmp, function_key}
use Rattle.edb_units.specs.Orders.{has}
use Rattle.edb_units.proofs.Lookups.{function_first}
use Rattle.edb_units.proofs.unit.Unit.function.Goals as goal

pub returns : goal.returns
returns c =
    let k : Signature = (c.args.name.now, c.args.arity) in
    c.find_function.ensures
    ∙ ap (λ (xs : List (Bor Function)). slice_get (filter (has signature_cmp function_key k) (map (λ (x : Bor Function). x.now) xs)) 0) c.deref.ensures.value
    ∙ ap (λ xs. slice_get xs 0) (c.self.invariant.functions_found.alike k)
    ∙ function_first _ c.args.name.now c.args.arity
    ∙ ap (λ (x : ModuleTree). function_in x.functions c.args.name.now c.args.arity) c.self.view_is
