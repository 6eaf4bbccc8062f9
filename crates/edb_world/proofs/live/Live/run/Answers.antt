use Rattle.std.proofs.Common.{◌∙◌, subst, rules}
use Rattle.std.proofs.lemmas.Option.{same_Some}
use Rattle.edb_model.specs.Running.{Run}
use Rattle.edb_world.specs.Turns.{MakesSlice}
use Rattle.edb_world.proofs.SliceLaws.{ok_weaker}
use Rattle.edb_world.proofs.live.Live.run.Goals as goal

-- src/slices.rt: what was made is a slice of the process that is there
pub returns-clause-slice : goal.returns-clause-slice
returns-clause-slice c =
    ok_weaker c.make_slice.result _ _
    (λ s made p t is. subst (λ (x : Run). MakesSlice c.args.code.now c.args.handout.now p x s)
    (same_Some c.in-Some.process t ((search rules) ∙ is)) (made p))
    c.make_slice.ensures.slice
