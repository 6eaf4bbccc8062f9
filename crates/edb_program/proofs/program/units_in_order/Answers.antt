use Rattle.std.proofs.Common.{◌∙◌, List, map, ap, subst, rules, arith}
use Rattle.std.specs.Ordering.{is_lt}
use Rattle.std.proofs.lemmas.Cmp.{nat_list_cmp_total}
use Rattle.std.proofs.lemmas.List.{take_all}
use Rattle.std.proofs.lemmas.List.Sorted.{ranks_by, answers_always}
use Rattle.edb_check.specs.declared.checked.Checked.{Checked}
use Rattle.edb_syntax.specs.Syntax.{ModuleTree}
use Rattle.edb_program.specs.Names.{name_cmp, module_name}
use Rattle.edb_units.specs.Orders.{IsInOrder}
use Rattle.edb_units.proofs.Halving.{sorted_itself}
use Rattle.edb_program.proofs.program.units_in_order.Goals as goal

pub returns : goal.returns
returns c =
    let below = (λ (x y : ModuleTree). is_lt (name_cmp (module_name x) (module_name y))) in
    let order = ranks_by nat_list_cmp_total module_name in
    let says = answers_always _ _ _ (λ f a r f' k. search rules) in
    let made = sorted_itself name_cmp nat_list_cmp_total module_name c.loop-checked.ordered.items c.sort_by.new.self.items (c.in_ok-sort_by.ensures.sorted below order says) (c.in_ok-sort_by.ensures.stable below order says) in
    subst (λ xs. IsInOrder name_cmp module_name xs c.sort_by.new.self.items)
    (c.loop-checked.invariant ∙ ap (λ (xs : List Checked). map (λ x. x.«module») xs) (take_all _ _ (omega arith)) ∙ c.modules-checked-items.ensures) made
