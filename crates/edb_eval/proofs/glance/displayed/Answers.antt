use Rattle.std.proofs.Common.{◌∙◌, sym}
use Rattle.edb_eval.specs.Glances.{known_tree, cursor_runs}
use Rattle.edb_eval.proofs.GlanceLaws.{not_three, not_erlang, not_display}
use Rattle.edb_eval.proofs.glance.displayed.Goals as goal

pub returns-in-None : goal.returns-in-None
returns-in-None c = λ vs e. rw c.in-Remote.is (not_three (cursor_runs c.args.operands) vs e c.in-None.ensures)

pub returns-then-not-is_named : goal.returns-then-not-is_named
returns-then-not-is_named c = λ vs e.
    let s = c.in-Some in
    rw c.in-Remote.is
    (not_erlang (cursor_runs c.args.operands) (known_tree s.«module») (known_tree s.name) (known_tree s.operand) vs s.ensures e (sym c.is_named.ensures ∙ c.if-not-is_named.true))

pub returns-then-not-is_named-2 : goal.returns-then-not-is_named-2
returns-then-not-is_named-2 c = λ vs e.
    let s = c.in-Some in
    rw c.in-Remote.is
    (not_display (cursor_runs c.args.operands) (known_tree s.«module») (known_tree s.name) (known_tree s.operand) vs s.ensures e (sym c.is_named-in-Some.ensures ∙ c.if-not-is_named-2.true))
