use Rattle.std.proofs.Common.{rules, arith, ◌<◌, length}
use Rattle.std.proofs.lemmas.Bool.Decides.{nat_tests}
use Rattle.edb_guards.specs.Views.{scope_pairs}
use Rattle.edb_guards.proofs.Lists.{holds-some}
use Rattle.edb_guards.proofs.guards.holds.Goals as goal

pub returns : goal.returns
returns c =
    let alternatives = c.guard.inside.alternatives.items in
    let filled : 0 < length alternatives = grind (arith, nat_tests, c.deref.ensures.value, c.deref.ensures.len, c.if-is_empty.ensures) in
    let some = holds-some c.args.me (scope_pairs c.args.scope.now) alternatives filled in
    search (rules, some)
