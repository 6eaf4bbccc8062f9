use Rattle.std.proofs.Common.{◌∙◌, sym, ap, Some}
use Rattle.edb_eval.specs.Tree.{info_of}
use Rattle.edb_eval.proofs.InnermostLaws.{innermost-tree}
use Rattle.edb_eval.proofs.running.Running.innermost.Goals as goal

pub returns : goal.returns
returns c =
    let r = c.args.self.now in
    ap Some c.seen.ensures ∙ sym (innermost-tree r.frames (info_of r.here) r.focus)
