use Rattle.std.proofs.Common.{◌≡◌, ◌∙◌, sym, ap}
use Rattle.std.proofs.lemmas.Result.{IfOk-weaker}
use Rattle.edb_model.specs.Move.{redex, next}
use Rattle.edb_eval.specs.declared.machine.State.TheVariants as state
use Rattle.edb_eval.specs.Stands.{state_tree}
use Rattle.edb_eval.specs.Glances.{Displays}
use Rattle.edb_eval.proofs.Stays.{opening_displays, no_print_move, no_print_value, no_print_raised}
use Rattle.edb_eval.proofs.machine.Machine.operand.Goals as goal

pub unreachable-requires : goal.unreachable-requires
unreachable-requires c =
    let o = c.in-Opening in
    no_print_move o.«module» o.name o.args (rw (← c.as_slice.ensures) c.in-None.ensures) (sym (ap (λ s. next (state_tree s)) o.is) ∙ c.requires)

pub unreachable-requires-in-Value : goal.unreachable-requires-in-Value
unreachable-requires-in-Value c =
    no_print_value c.in-Value.field-0 (sym (ap (λ s. next (state_tree s)) c.in-Value.is) ∙ c.requires)

pub unreachable-requires-in-Raised : goal.unreachable-requires-in-Raised
unreachable-requires-in-Raised c =
    no_print_raised c.in-Raised.class c.in-Raised.reason (sym (ap (λ s. next (state_tree s)) c.in-Raised.is) ∙ c.requires)

pub returns-in-Some : goal.returns-in-Some
returns-in-Some c =
    let o = c.in-Opening in
    let v = c.in-Some.value.now in
    rw o.is
    (IfOk-weaker c.copy.result (λ w. w ≡ v) (λ w. Displays (redex (state_tree (state.Opening o.«module» o.name o.args))).1 w)
    (λ w e. rw e (opening_displays o.«module» o.name o.args v (sym c.as_slice.ensures ∙ c.in-Some.ensures.0) (rw (← c.as_slice.ensures) c.in-Some.ensures.1))) c.copy.ensures)
