use Rattle.std.proofs.Common.{◌∙◌, ℕ, List, map, slice_get, ap}
use Rattle.std.specs.List.{filter}
use Rattle.edb_syntax.specs.Syntax.{ModuleTree}
use Rattle.std.specs.Ordering.{nat_cmp}
use Rattle.edb_syntax.specs.FunForms.{place_of, form_at}
use Rattle.edb_units.specs.declared.form.Form.{Form}
use Rattle.edb_units.specs.Forms.{form_of}
use Rattle.edb_units.specs.Orders.{has}
use Rattle.edb_units.proofs.Lookups.{form_first}
use Rattle.edb_units.proofs.unit.Unit.form.Goals as goal

pub returns : goal.returns
returns c =
    let k : ℕ = c.args.index in
    c.find_form.ensures
    ∙ ap (λ (xs : List (Form)). slice_get (filter (has nat_cmp place_of k) (map form_of xs)) 0) c.deref.ensures.value
    ∙ ap (λ xs. slice_get xs 0) (c.self.invariant.forms_found.alike k)
    ∙ form_first _ c.args.index
    ∙ ap (λ (x : ModuleTree). form_at x c.args.index) c.self.view_is
