use Rattle.std.proofs.Common.{◌≡◌, slice_get, ap, sym, subst, ◌∙◌}
use Rattle.edb_table.specs.BuiltIns.{built_ins}
use Rattle.edb_table.specs.Marking as marking
use Rattle.edb_calls.specs.Listed.{key_of, IsListed}
use Rattle.edb_calls.proofs.BuiltInLaws.{said_there, auto_apply_fun, auto_apply_name}
use Rattle.edb_calls.proofs.built_ins.BuiltIn.is_auto.Goals as goal

pub returns-in-ApplyFun : goal.returns-in-ApplyFun
returns-in-ApplyFun c = sym (ap (λ b. marking.is_auto (key_of b)) c.in-ApplyFun.is ∙ auto_apply_fun)

pub returns-in-ApplyName : goal.returns-in-ApplyName
returns-in-ApplyName c = sym (ap (λ b. marking.is_auto (key_of b)) c.in-ApplyName.is ∙ auto_apply_name)

pub returns-in-Computes : goal.returns-in-Computes
returns-in-Computes c =
    let listed = subst IsListed c.in-Computes.is c.requires in
    said_there (λ b. c.marks.result.auto ≡ marking.is_auto b) (slice_get built_ins c.in-Computes.index) listed.1 c.marks.ensures.auto
    ∙ sym (ap (λ b. marking.is_auto (key_of b)) c.in-Computes.is)
