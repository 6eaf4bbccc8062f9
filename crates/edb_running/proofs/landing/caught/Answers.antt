use Rattle.std.proofs.Common.{◌≡◌, ◌∷◌, List, IfOk, MatchOption, Option, sym, subst}
use Rattle.edb_lang.specs.Terms.{Datum}
use Rattle.edb_moves.specs.Clauses.{handler}
use Rattle.edb_moves.specs.Running.{Info}
use Rattle.edb_pure.specs.declared.Raise.{Raise}
use Rattle.edb_syntax.specs.Syntax.{clauses_of, catches_of}
use Rattle.edb_variables.specs.PairStacks.{oldest}
use Rattle.edb_stack.specs.Landings.{deeper, landing}
use Rattle.edb_stack.specs.Trees.{outward}
use Rattle.edb_stack.specs.Views.{layer_of}
use Rattle.edb_running.specs.Landed.{mark_of, IsCaught, IsChosen}
use Rattle.edb_running.specs.declared.landing.Landed.{Landed}
use Rattle.edb_running.specs.declared.landing.Landed.TheVariants.{Value, After}
use Rattle.edb_running.proofs.LandedLaws.{catch_lands, after_lands, try_lands, layer_passes, ok_map}
use Rattle.edb_running.proofs.landing.caught.Goals as goal

pub returns-in_ok-caught_value-in-Caught : goal.returns-in_ok-caught_value-in-Caught
returns-in_ok-caught_value-in-Caught c ls i e =
    let r : Raise = c.args.raise.now in
    let w : Datum = c.in_ok-caught_value-in-Caught.field-0 in
    subst (λ l. IsCaught r i (mark_of (layer_of l)) (landing c.args.me (layer_of l ∷ ls) i r.class r.reason) (Value w)) (sym c.in-Caught.is)
    (catch_lands c.args.me r ls i c.in-Caught.field-0 w c.in_ok-caught_value-in-Caught.ensures)

pub returns-in-Tried : goal.returns-in-Tried
returns-in-Tried c ls i e =
    let r : Raise = c.args.raise.now in
    let me = c.args.me in
    let m = c.in-Tried.mark in
    let cs = clauses_of c.in-Tried.field-1.now in
    let hs = catches_of c.in-Tried.catches.now in
    subst
    (λ l. IfOk c.choose.result (λ found. MatchOption found (landing me (layer_of l ∷ ls) i r.class r.reason ≡ deeper (landing me ls (outward (layer_of l) i) r.class r.reason)) (IsCaught r i (mark_of (layer_of l)) (landing me (layer_of l ∷ ls) i r.class r.reason))))
    (sym c.in-Tried.is)
    (ok_map c.choose.result (subst (λ bs. IfOk c.choose.result (λ o. IsChosen o (oldest m bs) (handler me (oldest m bs) hs r.class r.reason))) (sym e) c.choose.ensures)
    (λ o chosen. try_lands me r ls i m cs hs o chosen))

pub returns-in-Waiting : goal.returns-in-Waiting
returns-in-Waiting c ls i e =
    let r : Raise = c.args.raise.now in
    subst (λ l. IsCaught r i (mark_of (layer_of l)) (landing c.args.me (layer_of l ∷ ls) i r.class r.reason) (After c.in-Waiting.after)) (sym c.in-Waiting.is)
    (after_lands c.args.me r ls i c.in-Waiting.field-0 c.in-Waiting.after)

pub returns-in_default : goal.returns-in_default
returns-in_default c ls i e = layer_passes c.args.me c.args.raise.now ls i c.args.layer.now c.in_default.not-Caught c.in_default.not-Tried c.in_default.not-Waiting
