use Rattle.std.proofs.Common.{◌∙◌, sym, ap}
use Rattle.edb_lang.specs.Syntax.{line_of}
use Rattle.edb_model.specs.Move.{begins}
use Rattle.edb_eval.specs.Tree.{info_of, focus_tree}
use Rattle.edb_eval.proofs.Moves.{line_of-exp_of}
use Rattle.edb_eval.proofs.Nexts.{next-begun, next-pure, next-display, value_of-focus}
use Rattle.edb_eval.proofs.running.Running.kind.Goals as goal

pub returns-in-Some : goal.returns-in-Some
returns-in-Some c =
    let s = c.args.self.now in
    sym
    (next-begun s.frames (info_of s.here) s.focus c.in-Some.first.now (sym c.in-Some.ensures)
    ∙ ap (begins s.here.home) (sym (ap line_of c.first.view_is) ∙ line_of-exp_of c.first.inside.line c.first.inside.node))

pub returns-in-Pure : goal.returns-in-Pure
returns-in-Pure c =
    let s = c.args.self.now in
    sym (next-pure s.frames (info_of s.here) (focus_tree s.focus) (value_of-focus s.focus) c.in-Pure.ensures)

pub returns-in-Display : goal.returns-in-Display
returns-in-Display c =
    let s = c.args.self.now in
    sym (next-display s.frames (info_of s.here) (focus_tree s.focus) c.in-Display.field-0 (value_of-focus s.focus) c.in-Display.ensures)
