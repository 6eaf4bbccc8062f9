use Rattle.std.proofs.Common.{ap, ◌∙◌, ◌++◌, arith}
use Rattle.edb_variables.specs.PairStacks.{PairStack, newest_first}
use Rattle.edb_variables.proofs.Stacks.{appended}
use Rattle.edb_variables.proofs.variables.Variables.push_all.Goals as goal

pub returns-clause-pairs : goal.returns-clause-pairs
returns-clause-pairs c =
    let r = c.requires.room in
    let room = ap (λ (s : PairStack). s.room) c.self.view_is in
    let n = c.args.pairs.ok in
    appended c.append-never_refused.result c.self.inside.items.items c.args.pairs.items c.append-never_refused.new.self.items c.append-never_refused.ensures.items (c.append-never_refused.ensures.succeeds (omega (arith, r, room, n.0)))
    ∙ ap (λ (s : PairStack). newest_first c.args.pairs.items ++ s.pairs) c.self.view_is
