use Rattle.std.proofs.Common.{◌≡◌, reverse, ap, ◌∙◌, arith}
use Rattle.std.proofs.lemmas.List.{take_all}
use Rattle.edb_variables.specs.PairStacks.{newest_first}
use Rattle.edb_calls.proofs.FunLaws.{taken}
use Rattle.edb_calls.proofs.funs.taken_along.Goals as goal

pub returns : goal.returns
returns c =
    let all : c.loop-pair.pairs.items ≡ c.args.captured.now = c.loop-pair.invariant ∙ take_all c.loop-pair.pair-index c.args.captured.now (omega (arith, c.loop-pair-test.false)) in
    ap newest_first (c.reverse.ensures.items ∙ ap reverse all) ∙ taken c.args.captured.now
