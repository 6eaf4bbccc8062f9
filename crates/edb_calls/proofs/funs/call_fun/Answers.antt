use Rattle.std.proofs.Common.{◌≡◌, IfOk, length, map, sym, ap, subst, ◌∙◌}
use Rattle.std.proofs.lemmas.List.{length-map}
use Rattle.edb_moves.specs.Calls.{form_call}
use Rattle.edb_path.specs.Plans.{effect}
use Rattle.edb_lang.specs.TermViews.{captures_in, fun_of}
use Rattle.edb_units.specs.Forms.{form_of}
use Rattle.edb_calls.specs.Sites.{spot}
use Rattle.edb_calls.proofs.FunLaws.{made_otherwise, named_otherwise, made_called}
use Rattle.edb_calls.proofs.funs.call_fun.Goals as goal

pub returns-then-arity-args-clause-effect : goal.returns-then-arity-args-clause-effect
returns-then-arity-args-clause-effect c v =
    let place = spot c.args.site.now in
    let vs = map (λ t. t.now) c.args.args.now in
    let made = c.in-Made in
    subst (λ e. IfOk c.fails_by_arity.result (λ plan. effect place v plan ≡ e))
    (made_otherwise c.args.program.now place made.«module» made.version made.index made.arity (length c.args.args.now) (captures_in made.captured.items) c.args.fun.now vs
    (c.requires.fun ∙ ap fun_of made.is) (sym (length-map c.args.args.now (λ t. t.now))) c.if-arity-args.true)
    (c.fails_by_arity.ensures.effect place v)

pub returns-then-arity-args-2-clause-effect : goal.returns-then-arity-args-2-clause-effect
returns-then-arity-args-2-clause-effect c v =
    let place = spot c.args.site.now in
    let vs = map (λ t. t.now) c.args.args.now in
    let named = c.in-Named in
    subst (λ e. IfOk c.fails_by_arity-then-arity-args-2.result (λ plan. effect place v plan ≡ e))
    (named_otherwise c.args.program.now place named.«module» named.name named.arity (length c.args.args.now) c.args.fun.now vs
    (c.requires.fun ∙ ap fun_of named.is) (sym (length-map c.args.args.now (λ t. t.now))) c.if-arity-args-2.true)
    (c.fails_by_arity-then-arity-args-2.ensures.effect place v)

pub returns-in-Some-form-clause-effect : goal.returns-in-Some-form-clause-effect
returns-in-Some-form-clause-effect c v =
    let place = spot c.args.site.now in
    let vs = map (λ t. t.now) c.args.args.now in
    let made = c.in-Made in
    subst (λ e. IfOk c.call_form.result (λ plan. effect place v plan ≡ e))
    (ap (λ cs. form_call place c.in-Some.unit.now made.version made.arity (captures_in cs) (form_of c.in-Some-form.form) vs) c.deref.ensures.value
    ∙ made_called c.args.program.now place made.«module» made.version made.index made.arity (length c.args.args.now) (captures_in made.captured.items) c.args.fun.now vs c.in-Some.unit.now (form_of c.in-Some-form.form)
    (c.requires.fun ∙ ap fun_of made.is) (sym (length-map c.args.args.now (λ t. t.now))) c.if-arity-args.false (sym c.in-Some.ensures) (sym c.in-Some-form.ensures))
    (c.call_form.ensures.effect v)
