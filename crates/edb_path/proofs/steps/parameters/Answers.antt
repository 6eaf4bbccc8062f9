use Rattle.std.proofs.Common.{rules, ◌≡◌, Some, length, ap, ◌∙◌}
use Rattle.edb_syntax.specs.Syntax.{clauses_of}
use Rattle.edb_moves.specs.Running.{arity_of}
use Rattle.edb_path.proofs.StepLaws.{parameters_counted}
use Rattle.edb_path.proofs.steps.parameters.Goals as goal

pub returns-in-Ok : goal.returns-in-Ok
returns-in-Ok c =
    let counted : length c.clause.inside.patterns.items ≡ arity_of (clauses_of c.args.clauses.now) =
    parameters_counted c.args.clauses.now c.clause.inside.patterns.items c.clause.inside.guard c.clause.inside.body (ap Some c.clause.view_is ∙ c.in-Some.ensures.value) in
    let count : c.in-Ok.count ≡ length c.clause.inside.patterns.items = search rules in
    count ∙ counted
