-- What a move leaves: each row of the table against what the machine does.

use Rattle.std.proofs.Common.{◌≡◌, ◌∙◌, ℕ, refl, ap, sym, true, arith, rules, List, [], ◌∷◌, length, None, Some}
use Rattle.edb_lang.specs.declared.small.Class.TheVariants.{Error}
use Rattle.edb_lang.specs.declared.syntax.ExprNode.{ExprNode}
use Rattle.edb_lang.specs.declared.syntax.ExprNode.TheVariants as syntax_node
use Rattle.edb_lang.specs.SyntaxViews.{exp_of}
use Rattle.edb_lang.specs.Terms.{Datum, framed}
use Rattle.edb_lang.specs.Pairs.{Pairs}
use Rattle.edb_lang.specs.Syntax.{Pat, Exp, Exps, exps_of, line_of}
use Rattle.edb_lang.specs.TermText.{same_name}
use Rattle.edb_model.specs.Running.{Info, value, value_of, values_of, all_values, unbegun, sequence, running}
use Rattle.edb_model.specs.Lookup.{version_beside}
use Rattle.edb_model.specs.Move as move
use Rattle.edb_model.specs.Move.{Place, Handler, Effect, turns, leaves, raises, if_some, badmatch, matched, home_of, go, outside}
use Rattle.edb_eval.specs.declared.frames.Holder.{Holder}
use Rattle.edb_eval.specs.declared.frames.Frame.{Frame}
use Rattle.edb_eval.specs.declared.frames.Frame.TheVariants as frame
use Rattle.edb_eval.specs.declared.frames.Info as code
use Rattle.edb_eval.specs.declared.focus.Focus.{Focus}
use Rattle.edb_eval.specs.declared.focus.Redex.{Redex}
use Rattle.edb_eval.specs.declared.focus.Redex.TheVariants as redex
use Rattle.edb_eval.specs.declared.calls.Entry.{Entry}
use Rattle.edb_eval.specs.declared.running.Applied.{Applied}
use Rattle.edb_eval.specs.declared.running.Applied.TheVariants as applied
use Rattle.edb_eval.specs.Bodies.{version_or_first}
use Rattle.edb_eval.specs.Tree.{info_of, held, plug, redex_tree, focus_tree}
use Rattle.edb_eval.specs.Places.{place, out, at_body}
use Rattle.edb_eval.specs.Calls.{entry_body, applied_effect, redex_of}
use Rattle.edb_eval.proofs.Heart.{value_of-held, heart, turned, ended, replaced, rebound, raised_out, place-bindings, place-bodies}

-- a value comes into the node round it
pub comes_into : {fs gs : List Frame} {f : Frame} (k : Holder) (i : Info) (v : Datum) (x : Focus) → fs ≡ f ∷ gs → f ≡ frame.Holder k → focus_tree x ≡ held k (value v) → turns [] (plug gs i (focus_tree x)) ≡ out fs i (turns i.bindings (value v))
comes_into {gs = gs} k i v x e is at =
    rw (e, is, at) (sym (turned gs i i.bindings (held k (value v)) (value_of-held k (value v))))

-- a Body ends with a value
pub ends_with : {fs gs : List Frame} {f : Frame} (outer : code.Info) (i : Info) (v : Datum) → fs ≡ f ∷ gs → f ≡ frame.Body outer → out gs (info_of outer) (turns outer.bindings (value v)) ≡ out fs i (turns i.bindings (value v))
ends_with {gs = gs} outer i v e is = rw (e, is) (sym (ended gs outer i i.bindings v))

-- a Body takes the place of the innermost one
pub body_replaced : (e : Entry) (fs : List Frame) (i : Info) → at_body fs ≡ true → turns [] (plug fs (info_of e.here) (unbegun e.first.now (exps_of e.rest.now))) ≡ out fs i (leaves (entry_body e))
body_replaced e fs i at =
    sym (replaced fs i (info_of e.here) (unbegun e.first.now (exps_of e.rest.now)) at)

same_name-refl : (x : List ℕ) → same_name x x ≡ true
same_name-refl x = search rules

-- a call inside of a module takes the version of the Body that makes it
pub version_here : (fs : List Frame) (i : Info) → version_or_first (version_beside i.home (place fs i).bodies) ≡ i.version
version_here fs i = rw (place-bodies fs i, same_name-refl i.home)

pub home_here : (fs : List Frame) (i : Info) → home_of (place fs i).bodies ≡ i.home
home_here fs i = ap home_of (place-bodies fs i)

-- what a redex comes to, carried out
pub gives_value : (fs : List Frame) (i : Info) (a : Applied) (v : Datum) → a ≡ applied.Gives v → out fs i (turns i.bindings (value v)) ≡ out fs i (applied_effect (place fs i) a)
gives_value fs i a v e = rw (e, place-bindings fs i)

pub enters_body : (fs : List Frame) (i : Info) (a : Applied) (e : Entry) → a ≡ applied.Enters e → out fs i (applied_effect (place fs i) a) ≡ turns [] (plug fs i (entry_body e))
enters_body fs i a e is = rw (is, place-bindings fs i) (turned fs i i.bindings (entry_body e) refl)

pub fails_with : (fs : List Frame) (i : Info) (a : Applied) (r : Datum) → a ≡ applied.Fails r → raises Error r ≡ out fs i (applied_effect (place fs i) a)
fails_with fs i a r e = rw e (sym (raised_out fs i Error r))

-- a match that binds, and one that fails
pub binds : (fs : List Frame) (i : Info) (q : Pat) (v : Datum) (cs : Pairs) → matched q v i.bindings ≡ Some cs → out fs (record i { bindings = cs }) (turns cs (value v)) ≡ out fs i (if_some (matched q v (place fs i).bindings) (λ bs. turns bs (value v)) (raises Error (framed badmatch v)))
binds fs i q v cs e = rw (place-bindings fs i, e) (rebound fs i cs cs (value v))

pub mismatches : (fs : List Frame) (i : Info) (q : Pat) (v r : Datum) → matched q v i.bindings ≡ None → r ≡ framed badmatch v → raises Error r ≡ out fs i (if_some (matched q v (place fs i).bindings) (λ bs. turns bs (value v)) (raises Error (framed badmatch v)))
mismatches fs i q v r e is = rw (place-bindings fs i, e, is) (sym (raised_out fs i Error (framed badmatch v)))

pub line_of-exp_of : (l : ℕ) (n : ExprNode) → line_of (exp_of l n) ≡ l
line_of-exp_of l (syntax_node.Int i) = refl
line_of-exp_of l (syntax_node.Atom a) = refl
line_of-exp_of l (syntax_node.Var x) = refl
line_of-exp_of l (syntax_node.Match p e) = refl
line_of-exp_of l (syntax_node.Binary o a b) = refl
line_of-exp_of l (syntax_node.Call f es) = refl
line_of-exp_of l (syntax_node.Remote m f es) = refl

-- a sequence is begun; the first expression of one is a value
pub begins_at : (fs : List Frame) (i : Info) (l : ℕ) (e : Exp) (es : Exps) → l ≡ line_of e → turns [] (plug fs i (sequence true l (running e) es)) ≡ out fs i (turns (place fs i).bindings (sequence true (line_of e) (running e) es))
begins_at fs i l e es at =
    rw (at, place-bindings fs i) (sym (turned fs i i.bindings (sequence true (line_of e) (running e) es) refl))

pub goes_on : (fs : List Frame) (i : Info) (e : Exp) (es : List Exp) (all : List Exp) (v : Datum) → all ≡ e ∷ es → turns [] (plug fs i (unbegun e (exps_of es))) ≡ out fs i (move.rewrite [] [] (place fs i) (move.follow v (exps_of all)))
goes_on fs i e es all v is =
    rw (is, place-bindings fs i) (sym (turned fs i i.bindings (unbegun e (exps_of es)) refl))

pub is_last : (fs : List Frame) (i : Info) (all : List Exp) (v : Datum) → length all ≡ 0 → out fs i (turns i.bindings (value v)) ≡ out fs i (move.rewrite [] [] (place fs i) (move.follow v (exps_of all)))
is_last fs i [] v e = rw (place-bindings fs i)
is_last fs i (x ∷ xs) v e = absurd (omega arith)

-- a redex is what the table of moves sees
pub values_of-all_values : (vs : List Datum) → values_of (all_values vs) ≡ Some vs
values_of-all_values [] = refl
values_of-all_values (v ∷ vs) = rw (values_of-all_values vs)

pub go-redex : (h : Handler) (p : Place) (r : Redex) → go h p (redex_tree r) ≡ h p (redex_of r)
unfolding go
go-redex h p (redex.Look x) = refl
go-redex h p (redex.Apply o vs) = rw (values_of-all_values vs)
go-redex h p (redex.Bind q v) = refl
go-redex h p (redex.Begin e es) = refl
go-redex h p (redex.Follow v l es) = refl

pub value_of-redex : (r : Redex) → value_of (redex_tree r) ≡ None
value_of-redex (redex.Look x) = refl
value_of-redex (redex.Apply o vs) = refl
value_of-redex (redex.Bind q v) = refl
value_of-redex (redex.Begin e es) = refl
value_of-redex (redex.Follow v l es) = refl

-- the whole tree moves as the redex does
pub redex_moves : (h : Handler) (fs : List Frame) (i : Info) (r : Redex) → go h outside (plug fs i (redex_tree r)) ≡ out fs i (h (place fs i) (redex_of r))
redex_moves h fs i r = heart h fs i (redex_tree r) (value_of-redex r) ∙ ap (out fs i) (go-redex h (place fs i) r)
