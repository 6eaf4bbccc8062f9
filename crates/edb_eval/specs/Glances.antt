-- What stands at the redex, and what the machine sees of it without going there.

use Rattle.std.specs.Prelude.{◌≡◌, ◌≢◌, ℕ, ◌+◌, Bool, true, false, List, [], ◌∷◌, Option, None, Some}
use Rattle.edb_lang.specs.Terms as term
use Rattle.edb_lang.specs.Terms.{Datum}
use Rattle.edb_lang.specs.Syntax.{Exp, nodes, all_nodes}
use Rattle.edb_lang.specs.TermText.{same_name}
use Rattle.edb_model.specs.Running.{Operation, remote_call, Run, Runs, value, variable, node, match, sequence, body, raised, none, more, running, all_running, value_of, values_of}
use Rattle.edb_model.specs.Move.{Place, Redex, look, apply, bind, begin, follow, finished, if_some, is_display, Next, begins, acts, pure, next_at}
use Rattle.edb_eval.specs.declared.focus.Focus.{Focus}
use Rattle.edb_eval.specs.declared.focus.Focus.TheVariants as focus
use Rattle.edb_eval.specs.declared.focus.Redex as declared
use Rattle.edb_eval.specs.declared.focus.Redex.TheVariants as redex
use Rattle.edb_eval.specs.declared.glance.Known.{Known}
use Rattle.edb_eval.specs.declared.glance.Known.TheVariants as known
use Rattle.edb_eval.specs.declared.glance.Cursor.{Cursor}
use Rattle.edb_eval.specs.declared.glance.Glance.{Glance}
use Rattle.edb_eval.specs.declared.glance.Glance.TheVariants as glance
use Rattle.edb_eval.specs.declared.glance.Kind.{Kind}
use Rattle.edb_eval.specs.declared.glance.Kind.TheVariants as kind
use Rattle.edb_eval.specs.Tree.{operands, pending_exps}

-- the redex of an expression, whatever its place
abbrev mutual
  pub leftmost : Run → Redex
  leftmost (value v) = finished
  leftmost (raised c v) = finished
  leftmost (variable x) = look x
  leftmost (node o ts) = if_some (values_of ts) (λ vs. apply o vs) (first_redex ts)
  leftmost (match q t) = if_some (value_of t) (λ v. bind q v) (leftmost t)
  leftmost (sequence false l t es) = begin l t es
  leftmost (sequence true l t es) = if_some (value_of t) (λ v. follow v es) (leftmost t)
  leftmost (body i t) = leftmost t

  -- that of the first operand that is no value
  pub first_redex : Runs → Redex
  first_redex none = finished
  first_redex (more t ts) = if_some (value_of t) (λ v. first_redex ts) (leftmost t)

-- an operand: a value, or code that is not begun
abbrev pub known_tree : Known → Run
known_tree (known.Held v) = value v.now
known_tree (known.Code e) = running e.now

abbrev pub known_nodes : Known → ℕ
known_nodes (known.Held v) = 0
known_nodes (known.Code e) = nodes e.now

-- operands from a cursor on: values, then one by itself, then those that are not begun
abbrev pub behind_known : Option Known → Runs → Runs
behind_known None ts = ts
behind_known (Some k) ts = more (known_tree k) ts

abbrev pub cursor_runs : Cursor → Runs
cursor_runs c = operands c.done.now (behind_known c.current (all_running (pending_exps c.pending)))

abbrev pub current_nodes : Option Known → ℕ
current_nodes None = 0
current_nodes (Some k) = known_nodes k

abbrev pub cursor_nodes : Cursor → ℕ
cursor_nodes c = current_nodes c.current + all_nodes (pending_exps c.pending)

abbrev pub count_runs : Runs → ℕ
count_runs none = 0
count_runs (more t ts) = count_runs ts + 1

-- whether this is the atom of these characters
abbrev pub is_named : Run → List ℕ → Bool
is_named (value (term.atom a)) name = same_name a name
is_named _ name = false

abbrev pub IsNotThree : Runs → Type 0
IsNotThree ts = (a b c : Run) → ts ≢ more a (more b (more c none))

-- the operand of a display that stands at the redex
pub record Displays (r : Redex) (v : Datum) : Type 0 where
  pub home : Datum
  pub name : Datum
  pub is : r ≡ apply remote_call (home ∷ (name ∷ (v ∷ [])))
  pub displays : is_display remote_call (home ∷ (name ∷ (v ∷ []))) ≡ true

abbrev pub DisplaysKnown : Known → Redex → Type 0
DisplaysKnown k r = (v : Datum) × (known_tree k ≡ value v) × Displays r v

-- what is seen of a redex
abbrev pub Shows : Glance → Redex → Type 0
Shows glance.Pure r = (p : Place) → next_at p r ≡ pure
Shows (glance.Display k) r = DisplaysKnown k r

-- the display among operations on values
abbrev pub Shown : Option Known → Operation → List Datum → Type 0
Shown None o vs = is_display o vs ≡ false
Shown (Some k) o vs = DisplaysKnown k (apply o vs)

-- what is next, as the definition of moves names it
abbrev pub kind_of : Kind → Next
kind_of (kind.Begin m l) = begins m.now l
kind_of kind.Pure = pure
kind_of (kind.Act k) = acts k

-- the expression that is begun next, where one is
abbrev pub begun_redex : declared.Redex → Option Exp
begun_redex (redex.Begin e es) = Some e.now
begun_redex _ = None

abbrev pub begun : Focus → Option Exp
begun (focus.Redex r) = begun_redex r
begun _ = None
