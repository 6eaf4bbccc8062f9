use Rattle.std.proofs.Common.{◌≡◌, ◌∙◌, sym, ap, []}
use Rattle.edb_model.specs.Move.{all_matched}
use Rattle.edb_eval.proofs.CallLaws.{answers_true, answers_false, call_undef, call_refused, call_enters}
use Rattle.edb_eval.proofs.calls.call.Goals as goal

pub returns-in-None : goal.returns-in-None
returns-in-None c = λ p level version.
    let a = c.args in
    call_undef a.code.now p a.site.inside a.site.«module».now a.name.now a.args.now a.site.version c.in_ok-failure-in-None.field-0 version (sym c.in-None.ensures) c.in_ok-failure-in-None.ensures

pub returns-then-branch : goal.returns-then-branch
returns-then-branch c = λ p level version.
    let a = c.args in
    let g = c.in-Some.function.now in
    let same : all_matched g.parameters a.args.now [] ≡ all_matched c.deref.result.now a.args.now c.new-bindings.result = cc (ap (λ f. f.parameters) c.function-in-Some.view_is) in
    call_enters a.code.now p a.site.inside a.site.«module».now a.name.now a.args.now a.site.version a.site.level g c.match_all.new.bindings c.in_ok-enter-in-Some.field-0 version level (sym c.in-Some.ensures) (same ∙ answers_true _ _ _ c.in_ok-match_all-in-Some.ensures c.if-branch.true) c.in_ok-enter-in-Some.ensures

pub returns : goal.returns
returns c = λ p level version.
    let a = c.args in
    let g = c.in-Some.function.now in
    let same : all_matched g.parameters a.args.now [] ≡ all_matched c.deref.result.now a.args.now c.new-bindings.result = cc (ap (λ f. f.parameters) c.function-in-Some.view_is) in
    call_refused a.code.now p a.site.inside a.site.«module».now a.name.now a.args.now a.site.version g c.in_ok-failure-in-Some.field-0 version (sym c.in-Some.ensures) (same ∙ answers_false _ c.match_all.new.bindings _ c.in_ok-match_all-in-Some.ensures c.if-branch.false) c.in_ok-failure-in-Some.ensures
