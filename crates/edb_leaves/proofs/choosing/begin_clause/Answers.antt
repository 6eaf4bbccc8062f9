use Rattle.std.proofs.Common.{ap, sym, ◌∙◌}
use Rattle.edb_match.specs.Newest as match
use Rattle.edb_moves.specs.Going.{turns}
use Rattle.edb_moves.specs.Running.{leaf, unbegun}
use Rattle.edb_path.proofs.Newest.{newest_first_same}
use Rattle.edb_stack.specs.declared.redex.Leaf.TheVariants.{Unbegun}
use Rattle.edb_stack.specs.declared.redex.Redex.TheVariants as redex
use Rattle.edb_syntax.specs.Syntax.{sequence, exps_of}
use Rattle.edb_leaves.proofs.Leading.{bare_turns, bare_newer}
use Rattle.edb_leaves.proofs.choosing.begin_clause.Goals as goal

pub returns-clause-effect : goal.returns-clause-effect
returns-clause-effect c = λ p v.
    let first = ap (λ e. sequence e (exps_of c.deref-2.result.now)) c.deref.ensures in
    let rest = ap (λ es. sequence c.body.inside.first.value (exps_of es)) c.deref-2.ensures.value in
    bare_turns p v c.args.choice.pairs (record { layers = c.new-layers.result; redex = redex.Leaf (Unbegun c.deref.result c.deref-2.result) }) c.new-layers.ensures.items
    ∙ ap (λ bs. turns bs (leaf (unbegun (sequence c.deref.result.now (exps_of c.deref-2.result.now))))) (sym (newest_first_same c.args.choice.pairs.items p.bindings))
    ∙ ap (λ s. turns (match.newest_first c.args.choice.pairs.items p.bindings) (leaf (unbegun s))) (first ∙ rest ∙ c.body.view_is)

pub returns-clause-suits : goal.returns-clause-suits
returns-clause-suits c = λ n. record { fit = bare_newer n c.args.choice.pairs.items c.new-layers.result.items c.new-layers.ensures.items; below = tt; filled = tt }
