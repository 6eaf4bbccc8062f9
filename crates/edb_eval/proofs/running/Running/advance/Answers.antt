use Rattle.edb_model.specs.Lookup.{first_versions}
use Rattle.edb_model.specs.Move.{rewrite}
use Rattle.edb_eval.specs.Tree.{info_of}
use Rattle.edb_eval.proofs.Moves.{redex_moves}
use Rattle.edb_eval.proofs.running.Running.advance.Goals as goal

pub returns-in-Redex-clause-ok : goal.returns-in-Redex-clause-ok
returns-in-Redex-clause-ok c =
    let s = c.reach.new.self in
    let code = c.args.code.now in
    rw (← c.reach.ensures.tree, ← c.in-Redex.ensures.value, redex_moves (rewrite code (first_versions code)) s.frames (info_of s.here) c.in-Redex.redex) c.fire.ensures.ok
