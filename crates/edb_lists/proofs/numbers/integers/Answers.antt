use Rattle.std.proofs.Common.{◌≡◌, ◌+◌, ◌∙◌, map, ap, subst, IfOk, arith, pos, ◌+ℤ◌, ◌-ℤ◌, unsigned_abs, to_z, of_z}
use Rattle.std.specs.Int.{w128}
use Rattle.std.specs.List.{range_with_len}
use Rattle.std.proofs.lemmas.Int.{ints, to_z-of_z}
use Rattle.edb_lang.specs.Terms.{int}
use Rattle.edb_pure.specs.Answers.{Answer, list_answer}
use Rattle.edb_lists.proofs.Counts.{seq_up}
use Rattle.edb_lists.proofs.numbers.integers.Goals as goal

pub returns : goal.returns
returns c =
    let i = c.args.from in
    let j = c.args.to in
    let d = c.abs_diff-distance.result in
    let from : to_z w128 (of_z w128 i) ≡ i = to_z-of_z w128 i c.ranges.from in
    let to : to_z w128 (of_z w128 j) ≡ j = to_z-of_z w128 j c.ranges.to in
    let apart : d ≡ unsigned_abs (j -ℤ i) = c.abs_diff-distance.ensures ∙ (λ k. unsigned_abs (to k -ℤ from k)) in
    let up = seq_up i j d apart (omega (arith, ints)) (omega arith) in
    subst (λ (a : Answer). IfOk c.list-2.result (λ r. r ≡ a)) (ap list_answer (c.in_ok-run.ensures ∙ ap (λ z. map (λ n. int (z +ℤ pos n)) (range_with_len 0 (d + 1))) from) ∙ up) c.list-2.ensures
