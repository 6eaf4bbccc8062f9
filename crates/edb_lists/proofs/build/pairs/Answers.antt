use Rattle.std.proofs.Common.{◌∙◌, ◌++◌, ◌∷◌, [], map, ap, arith, Bor}
use Rattle.std.proofs.lemmas.List.{length-map}
use Rattle.edb_lang.specs.declared.term.Term.{Term}
use Rattle.edb_lists.proofs.Places.{read_value}
use Rattle.edb_lists.proofs.Walks.{paired_more}
use Rattle.edb_lists.proofs.build.pairs.Goals as goal

pub loop-place-preserved : goal.loop-place-preserved
loop-place-preserved c =
    let v = (λ (t : Bor Term). t.now) in
    let i = c.loop-place.place in
    paired_more (map v c.args.firsts.now) (map v c.args.seconds.now) i c.index-firsts-place.result.now c.index-seconds-place.result.now c.loop-place.made.items _ _
    (simp length-map (omega arith)) (simp length-map (omega arith))
    (read_value v c.args.firsts.now i c.index-firsts-place.result (omega arith) c.index-firsts-place.is) (read_value v c.args.seconds.now i c.index-seconds-place.result (omega arith) c.index-seconds-place.is)
    (c.in_ok-push.ensures.items ∙ ap (λ t. c.loop-place.made.items ++ t ∷ []) c.in_ok-pair.ensures) c.loop-place.invariant
