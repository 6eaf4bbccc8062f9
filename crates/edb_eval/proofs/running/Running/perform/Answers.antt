use Rattle.std.proofs.Common.{◌∙◌}
use Rattle.edb_eval.specs.Tree.{info_of}
use Rattle.edb_eval.proofs.Moves.{gives_value, enters_body, fails_with}
use Rattle.edb_eval.proofs.running.Running.perform.Goals as goal

pub returns-in-Gives-clause-ok : goal.returns-in-Gives-clause-ok
returns-in-Gives-clause-ok c =
    let s = c.args.self.now in
    c.give.ensures ∙ gives_value s.frames (info_of s.here) c.args.applied c.in-Gives.value c.in-Gives.is

pub returns-in-Enters-clause-ok : goal.returns-in-Enters-clause-ok
returns-in-Enters-clause-ok c =
    let s = c.args.self.now in
    rw (enters_body s.frames (info_of s.here) c.args.applied c.in-Enters.entry c.in-Enters.is) c.enter.ensures.ok

pub returns-in-Fails-clause-ok : goal.returns-in-Fails-clause-ok
returns-in-Fails-clause-ok c =
    let s = c.args.self.now in
    fails_with s.frames (info_of s.here) c.args.applied c.in-Fails.reason c.in-Fails.is
