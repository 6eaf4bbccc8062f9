use Rattle.std.proofs.Common.{rules}
use Rattle.std.specs.Ordering.{is_lt, nat_cmp}
use Rattle.std.proofs.lemmas.Cmp.{nat_cmp_total}
use Rattle.std.proofs.lemmas.List.Sorted.{ranks_by, answers_always}
use Rattle.edb_syntax.specs.FunForms.{place_of}
use Rattle.edb_units.specs.declared.form.Form.{Form}
use Rattle.edb_units.specs.Forms.{form_of}
use Rattle.edb_units.proofs.Halving.{sorted_in_order}
use Rattle.edb_units.proofs.order.forms_in_order.Goals as goal

pub returns : goal.returns
returns c =
    let below = (λ (x y : Form). is_lt (nat_cmp (place_of (form_of x)) (place_of (form_of y)))) in
    let order = ranks_by nat_cmp_total (λ (x : Form). place_of (form_of x)) in
    let says = answers_always _ _ _ (λ f a r f' k. search rules) in
    sorted_in_order nat_cmp nat_cmp_total place_of form_of c.args.forms.items c.sort_by.new.self.items (c.in_ok-sort_by.ensures.sorted below order says) (c.in_ok-sort_by.ensures.stable below order says)
