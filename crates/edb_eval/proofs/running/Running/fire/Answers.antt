use Rattle.std.proofs.Common.{◌∙◌, sym, ap}
use Rattle.edb_lang.specs.Syntax.{exps_of, line_of}
use Rattle.edb_eval.specs.Tree.{info_of}
use Rattle.edb_eval.proofs.Moves.{begins_at, goes_on, is_last, line_of-exp_of}
use Rattle.edb_eval.proofs.running.Running.fire.Goals as goal

pub returns-in-Begin-clause-ok : goal.returns-in-Begin-clause-ok
returns-in-Begin-clause-ok c =
    let s = c.args.self.now in
    rw (c.focus_on-in-Begin.ensures, c.in-Begin.is)
    (begins_at s.frames (info_of s.here) c.first.inside.line c.in-Begin.first.now (exps_of c.in-Begin.rest.now) (sym (line_of-exp_of c.first.inside.line c.first.inside.node) ∙ ap line_of c.first.view_is))

pub returns-in-None-clause-ok : goal.returns-in-None-clause-ok
returns-in-None-clause-ok c =
    let s = c.args.self.now in
    rw c.in-Follow.is
    (c.give.ensures ∙ is_last s.frames (info_of s.here) c.in-Follow.rest.now c.in-Follow.value c.in-None.ensures.cases)

pub returns-in-Some-clause-ok : goal.returns-in-Some-clause-ok
returns-in-Some-clause-ok c =
    let s = c.args.self.now in
    rw (c.in-Follow.is, c.focus_on-in-Some.ensures)
    (goes_on s.frames (info_of s.here) c.in-Some.first.now c.in-Some.rest.now c.in-Follow.rest.now c.in-Follow.value c.in-Some.ensures.cases.0)
