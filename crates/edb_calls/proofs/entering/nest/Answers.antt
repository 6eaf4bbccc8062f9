use Rattle.std.proofs.Common.{◌≡◌, ◌≤◌, IfOk, subst}
use Rattle.edb_moves.specs.Calls.{most_nested}
use Rattle.edb_moves.specs.Running.{body, leaf, unbegun}
use Rattle.edb_path.specs.Plans.{effect}
use Rattle.edb_stack.specs.Views.{info_of}
use Rattle.edb_calls.specs.Sites.{spot}
use Rattle.edb_calls.proofs.EnteringLaws.{nested_refused}
use Rattle.edb_calls.proofs.entering.nest.Goals as goal

pub returns-clause-effect : goal.returns-clause-effect
returns-clause-effect c v =
    let place = spot c.args.site.now in
    let entered = body (info_of c.args.body) (leaf (unbegun c.args.sequence.now)) in
    let deep = subst (λ n. most_nested ≤ n) c.requires c.if-site-lt-MOST_NESTED.false in
    subst (λ e. IfOk c.fails.result (λ plan. effect place v plan ≡ e)) (nested_refused place entered c.if-site.false deep) (c.fails.ensures.effect place v)
