use Rattle.std.proofs.Common.{◌≡◌, ◌<◌, ◌≤◌, List, length, get_or, ap, sym, subst, ◌∙◌}
use Rattle.edb_lang.specs.declared.term.Captured.{Captured}
use Rattle.edb_variables.specs.PairStacks.{PairStack, value_at}
use Rattle.edb_variables.proofs.Stacks.{value_there, value_nowhere}
use Rattle.edb_variables.proofs.variables.Variables.get.Goals as goal

pub returns-in-Some : goal.returns-in-Some
returns-in-Some c =
    let h = c.in-Some.ensures.lookup in
    sym (value_there c.args.place c.self.inside.items.items c.in-Some.pair.now (subst (λ (cs : List Captured). c.args.place < length cs) c.deref.ensures.value h.3.0) (subst (λ (cs : List Captured). c.in-Some.pair.now ≡ get_or cs c.args.place c.in-Some.pair.now) c.deref.ensures.value h.1)) ∙ ap (λ (s : PairStack). value_at c.args.place s.pairs) c.self.view_is

pub returns-in-None : goal.returns-in-None
returns-in-None c =
    let h = c.in-None.ensures.lookup in
    sym (value_nowhere c.args.place c.self.inside.items.items (subst (λ (cs : List Captured). length cs ≤ c.args.place) c.deref.ensures.value h.3)) ∙ ap (λ (s : PairStack). value_at c.args.place s.pairs) c.self.view_is
