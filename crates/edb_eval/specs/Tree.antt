-- The tree that a machine stands for.

use Rattle.std.specs.Prelude.{ℕ, ◌+◌, ◌*◌, Bool, true, false, List, [], ◌∷◌, Option, None, Some}
use denote.Ref.{Bor}
use Rattle.edb_lang.specs.Terms.{Datum}
use Rattle.edb_lang.specs.Syntax.{Exp, Exps, exps_of, nodes, all_nodes}
use Rattle.edb_lang.specs.Syntax as syntax
use Rattle.edb_model.specs.Running as model
use Rattle.edb_model.specs.Running.{Run, Runs, Info, value, node, match, sequence, body, more, running, all_running, all_values, unbegun}
use Rattle.edb_model.specs.Move.{Effect, turns, raises}
use Rattle.edb_eval.specs.declared.frames.Operation.{Operation}
use Rattle.edb_eval.specs.declared.frames.Operation.TheVariants as operation
use Rattle.edb_eval.specs.declared.frames.Pending.{Pending}
use Rattle.edb_eval.specs.declared.frames.Holder.{Holder}
use Rattle.edb_eval.specs.declared.frames.Holder.TheVariants as holder
use Rattle.edb_eval.specs.declared.frames.Info as code
use Rattle.edb_eval.specs.declared.frames.Frame.{Frame}
use Rattle.edb_eval.specs.declared.frames.Frame.TheVariants as frame
use Rattle.edb_eval.specs.declared.focus.Redex.{Redex}
use Rattle.edb_eval.specs.declared.focus.Redex.TheVariants as redex
use Rattle.edb_eval.specs.declared.focus.Focus.{Focus}
use Rattle.edb_eval.specs.declared.focus.Focus.TheVariants as focus
use Rattle.edb_eval.specs.declared.running.Running.{Running}
use Rattle.edb_eval.specs.declared.running.Outcome.{Outcome}
use Rattle.edb_eval.specs.declared.running.Outcome.TheVariants as outcome

abbrev pub operation_of : Operation → model.Operation
operation_of (operation.Operate o) = model.operate o
operation_of (operation.Local f) = model.local_call f.now
operation_of operation.Remote = model.remote_call

abbrev pub info_of : code.Info → Info
info_of i = record { home = i.home; version = i.version; name = i.name; arity = i.arity; level = i.level; bindings = i.bindings }

-- the operands that are not begun
abbrev pub pending_exps : Pending → Exps
pending_exps p = behind p.first (exps_of p.rest.now)
  where
    behind : Option (Bor Exp) → Exps → Exps
    behind None es = es
    behind (Some e) es = syntax.more e.now es

-- values, and behind them other operands
abbrev pub operands : List Datum → Runs → Runs
operands [] ts = ts
operands (v ∷ vs) ts = more (value v) (operands vs ts)

-- a node with this in its hole
abbrev pub held : Holder → Run → Run
held (holder.Operands o done pending) t = node (operation_of o) (operands done (more t (all_running (pending_exps pending))))
held (holder.Match q) t = match q.now t
held (holder.Sequence l es) t = sequence true l t (exps_of es.now)

-- Frames, from the innermost one outward, round an expression in the Body i. A Body's frame has the Body
-- outside of it.
abbrev pub plug : List Frame → Info → Run → Run
plug [] i t = body i t
plug (frame.Holder h ∷ fs) i t = plug fs i (held h t)
plug (frame.Body outer ∷ fs) i t = plug fs (info_of outer) (body i t)

abbrev pub redex_tree : Redex → Run
redex_tree (redex.Look x) = model.variable x.now
redex_tree (redex.Apply o vs) = node (operation_of o) (all_values vs)
redex_tree (redex.Bind q v) = match q.now (value v)
redex_tree (redex.Begin e es) = unbegun e.now (exps_of es.now)
redex_tree (redex.Follow v l es) = sequence true l (value v) (exps_of es.now)

abbrev pub focus_tree : Focus → Run
focus_tree (focus.Code h e) = held h (running e.now)
focus_tree (focus.Given o done v pending) = held (holder.Operands o done pending) (value v)
focus_tree (focus.Redex r) = redex_tree r

abbrev pub tree : Running → Run
tree r = plug r.frames (info_of r.here) (focus_tree r.focus)

-- what an outcome leaves: the running expression, a value, or an exception
abbrev pub left : Running → Outcome → Effect Run
left r outcome.Stays = turns [] (tree r)
left r (outcome.Ends v) = turns [] (value v)
left r (outcome.Raises c v) = raises c v

-- whether what is evaluated next is a redex
abbrev pub at_redex : Focus → Bool
at_redex (focus.Redex r) = true
at_redex _ = false

-- how much syntax is between what is evaluated next and the redex
abbrev pub holder_nodes : Holder → ℕ
holder_nodes (holder.Operands o done pending) = all_nodes (pending_exps pending)
holder_nodes _ = 0

abbrev pub work : Focus → ℕ
work (focus.Code h e) = 2 * (nodes e.now + holder_nodes h)
work (focus.Given o done v pending) = 2 * all_nodes (pending_exps pending) + 1
work (focus.Redex r) = 0
