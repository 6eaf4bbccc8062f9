use Rattle.std.proofs.Common.{rules, map}
use Rattle.edb_lang.specs.Terms.{tuple, of_list}
use Rattle.edb_guards.proofs.answers.tuple_value.Goals as goal

pub returns : goal.returns
returns c =
    let made = c.within.ensures (tuple (of_list (map (λ t. t.now) c.args.operands.now))) (search rules) in
    search (rules, made)
