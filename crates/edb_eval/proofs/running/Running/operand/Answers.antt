use Rattle.std.proofs.Common.{◌≡◌}
use Rattle.std.proofs.lemmas.Result.{IfOk-weaker}
use Rattle.edb_model.specs.Running.{value}
use Rattle.edb_model.specs.Move.{redex, next, pure}
use Rattle.edb_eval.specs.Tree.{info_of, focus_tree, tree}
use Rattle.edb_eval.specs.Glances.{known_tree, Displays}
use Rattle.edb_eval.proofs.Nexts.{next-pure, print_no_begin, displays_at, value_of-focus}
use Rattle.edb_eval.proofs.running.Running.operand.Goals as goal

pub glance-requires : goal.glance-requires
glance-requires c =
    let s = c.args.self.now in
    print_no_begin s.frames (info_of s.here) s.focus c.requires

pub unreachable-requires : goal.unreachable-requires
unreachable-requires c =
    let s = c.args.self.now in
    let none : next (tree s) ≡ pure = next-pure s.frames (info_of s.here) (focus_tree s.focus) (value_of-focus s.focus) c.in-Pure.ensures in
    cc c.requires

pub returns : goal.returns
returns c =
    let s = c.args.self.now in
    IfOk-weaker c.copy.result (λ v. known_tree c.in-Display.known ≡ value v) (λ v. Displays (redex (tree s)).1 v) (λ v e. displays_at s.frames (info_of s.here) (focus_tree s.focus) c.in-Display.known v (value_of-focus s.focus) c.in-Display.ensures e) c.copy.ensures
