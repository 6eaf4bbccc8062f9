use Rattle.edb_eval.specs.Tree.{info_of}
use Rattle.edb_eval.proofs.InnermostLaws.{bodies-tree}
use Rattle.edb_eval.proofs.running.Running.is_inside.Goals as goal

pub returns-then-is_among : goal.returns-then-is_among
returns-then-is_among c =
    let r = c.args.self.now in
    rw (bodies-tree r.frames (info_of r.here) r.focus, ← c.is_among.ensures, c.if-is_among.true)

pub returns-else-is_among : goal.returns-else-is_among
returns-else-is_among c =
    let r = c.args.self.now in
    rw (bodies-tree r.frames (info_of r.here) r.focus, ← c.is_among.ensures, c.if-is_among.false) c.is_inside.ensures
