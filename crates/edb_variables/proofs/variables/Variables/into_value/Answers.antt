use Rattle.std.proofs.Common.{ap, sym, ◌∙◌, arith}
use Rattle.edb_variables.specs.PairStacks.{PairStack, value_at}
use Rattle.edb_variables.proofs.Stacks.{value_there, value_nowhere}
use Rattle.edb_variables.proofs.variables.Variables.into_value.Goals as goal

pub returns-then-place-len : goal.returns-then-place-len
returns-then-place-len c =
    let h = c.if-place-len.true in
    sym (value_nowhere c.args.place c.self.inside.items.items (omega (arith, h, c.self.inside.items.ok.0))) ∙ ap (λ (s : PairStack). value_at c.args.place s.pairs) c.self.view_is

pub returns : goal.returns
returns c =
    sym (value_there c.args.place c.self.inside.items.items c.swap_remove-pair.result (omega (arith, c.if-place-len.false, c.self.inside.items.ok.0)) c.swap_remove-pair.ensures.value) ∙ ap (λ (s : PairStack). value_at c.args.place s.pairs) c.self.view_is
