use Rattle.std.proofs.Common.{◌≡◌, [], IfOk, map, ap, subst, ◌∙◌}
use Rattle.edb_path.specs.Plans.{effect}
use Rattle.edb_syntax.specs.Syntax.{clauses_of}
use Rattle.edb_variables.specs.PairStacks.{newest_first}
use Rattle.edb_calls.specs.Sites.{spot}
use Rattle.edb_calls.proofs.CallLaws.{entered_same}
use Rattle.edb_calls.proofs.calls.enter_function.Goals as goal

pub returns-clause-effect : goal.returns-clause-effect
returns-clause-effect c v =
    let place = spot c.args.site.now in
    let function = c.args.function.now in
    let vs = map (λ t. t.now) c.args.args.now in
    let inside = c.function.inside in
    subst (λ e. IfOk c.enter.result (λ plan. effect place v plan ≡ e))
    (entered_same place c.args.unit.now c.args.version inside.name function.name inside.arity function.arity (clauses_of c.deref.result.now) function.clauses (newest_first c.new.result.items) [] vs
    (ap (λ g. g.name) c.function.view_is) (ap (λ g. g.arity) c.function.view_is) (ap clauses_of c.deref.ensures.value ∙ ap (λ g. g.clauses) c.function.view_is) (ap newest_first c.new.ensures.items))
    (c.enter.ensures.effect v)
