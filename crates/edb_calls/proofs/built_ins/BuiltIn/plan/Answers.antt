use Rattle.std.proofs.Common.{◌≡◌, slice_get, map, ap, sym, subst, ◌∙◌}
use Rattle.edb_table.specs.BuiltIns.{built_ins}
use Rattle.edb_pure.specs.Table.{pure}
use Rattle.edb_moves.specs.Calls.{answered, built_in}
use Rattle.edb_calls.specs.declared.built_ins.BuiltIn.TheVariants.{Computes}
use Rattle.edb_calls.specs.Listed.{key_of, IsListed}
use Rattle.edb_calls.proofs.BuiltInLaws.{said_there, pure_move}
use Rattle.edb_calls.proofs.built_ins.BuiltIn.plan.Goals as goal

pub returns-in_ok-call_refs-in-Computes-clause-effect : goal.returns-in_ok-call_refs-in-Computes-clause-effect
returns-in_ok-call_refs-in-Computes-clause-effect c p v same =
    let key = key_of (Computes c.in-Computes.index) in
    let vs = map (λ t. t.now) c.args.args.now in
    let answer = c.in_ok-call_refs-in-Computes.field-0 in
    let listed = subst IsListed c.in-Computes.is c.requires.listed in
    let made = said_there (λ b. answer ≡ pure b c.args.me vs) (slice_get built_ins c.in-Computes.index) listed.1 c.in_ok-call_refs-in-Computes.ensures in
    c.answered.ensures.effect p v
    ∙ ap (answered p) (made ∙ ap (λ n. pure key n vs) (sym same))
    ∙ sym (pure_move p key vs listed.1)
    ∙ ap (λ b. built_in p (key_of b) vs) (sym c.in-Computes.is)
