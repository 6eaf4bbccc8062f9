use Rattle.std.proofs.Common.{rules, ◌≡◌, ◌++◌, [], ◌∷◌, true}
use Rattle.edb_small.specs.Conditions.{is_among, name_of}
use Rattle.edb_small.proofs.Names.{bound_clash}
use Rattle.edb_small.proofs.conditions.parameter_scope.Goals as goal

pub returns-then-has : goal.returns-then-has
returns-then-has c =
    let parts : c.loop-last.rest.now ≡ c.in-Some.front.now ++ (c.in-Some.last.now ∷ []) = search rules in
    let taken : is_among (name_of c.in-Some.last.now) c.loop-last.scope ≡ true = cc in
    bound_clash c.args.parameters.now c.loop-last.rest.now c.in-Some.front.now c.in-Some.last.now c.loop-last.scope c.loop-last.invariant parts taken
