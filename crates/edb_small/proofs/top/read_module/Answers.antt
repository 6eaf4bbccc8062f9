use Rattle.std.proofs.Common.{◌≡◌, true, sym, ◌∙◌, subst}
use Rattle.edb_scan.specs.Parting.{AreTokens}
use Rattle.edb_small.specs.SmallModule.{is_plain}
use Rattle.edb_small.proofs.Whole.{is_module, unread, failed}
use Rattle.edb_small.proofs.top.read_module.Goals as goal

pub returns-in_default-2-clause-complete : goal.returns-in_default-2-clause-complete
returns-in_default-2-clause-complete c =
    unread c.one_answer.ensures.tokens c.args.bytes.now c.as_slice.result.now
    (subst (λ ts. AreTokens c.args.bytes.now ts) (sym c.as_slice.ensures) (rw c.in-Ok.is at c.in_ok-tokens.ensures))
    (rw c.in_default-2.is at c.in_ok-module.ensures)

pub returns-then-branch-clause-sound : goal.returns-then-branch-clause-sound
returns-then-branch-clause-sound c =
    let plain : is_plain c.args.bytes.now ≡ true = cc in
    is_module c.args.bytes.now c.as_slice.result.now c.in-Some.module plain
    (subst (λ ts. AreTokens c.args.bytes.now ts) (sym c.as_slice.ensures) (rw c.in-Ok.is at c.in_ok-tokens.ensures))
    (rw c.in-Some.is at c.in_ok-module.ensures) (sym c.in_ok-module_passes.ensures ∙ c.if-branch.true)

pub returns-clause-complete : goal.returns-clause-complete
returns-clause-complete c =
    failed c.one_answer.ensures.tokens c.args.bytes.now c.as_slice.result.now c.in-Some.module
    (subst (λ ts. AreTokens c.args.bytes.now ts) (sym c.as_slice.ensures) (rw c.in-Ok.is at c.in_ok-tokens.ensures))
    (rw c.in-Some.is at c.in_ok-module.ensures) (sym c.in_ok-module_passes.ensures ∙ c.if-branch.false)
