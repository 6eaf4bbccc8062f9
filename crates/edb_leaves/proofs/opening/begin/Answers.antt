use Rattle.edb_stack.proofs.Fits.{fit_frame}
use Rattle.edb_leaves.proofs.Leading.{none_new, pushed, no_layers}
use Rattle.edb_leaves.proofs.opening.begin.Goals as goal

pub returns-clause-suits : goal.returns-clause-suits
returns-clause-suits c = λ n.
    let fit = fit_frame n n _ _ (no_layers n c.new-layers.result.items c.new-layers.ensures.items) in
    none_new n c.new.result.items c.in_ok-path.path c.new.ensures.items (c.in_ok-path.ensures.leads n n (pushed n n c.new-layers.result.items c.push.new.self.items _ c.in_ok-push.ensures.items fit))
