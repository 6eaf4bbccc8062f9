use Rattle.std.proofs.Common.{◌≡◌, ap, sym, ◌∙◌, arith}
use Rattle.std.specs.Ordering.{nat_cmp}
use Rattle.std.specs.Cmp.Lexicographic.{slice_cmp}
use Rattle.edb_lang.specs.declared.term.Captured.{Captured}
use Rattle.edb_variables.proofs.Stacks.{place_here, place_further, is_equal, is_other}
use Rattle.edb_variables.proofs.variables.newest_place.Goals as goal

pub returns-then-is_eq : goal.returns-then-is_eq
returns-then-is_eq c =
    let i = c.loop-place.invariant in
    sym (place_here c.args.name.now c.loop-place.place c.index-pairs-place.result c.args.pairs.now (omega (arith, c.loop-place-test.true)) i.0 c.index-pairs-place.is (let order : c.cmp.result ≡ slice_cmp nat_cmp c.args.name.now c.index-pairs-place.result.name = c.cmp.ensures ∙ ap (λ (p : Captured). slice_cmp nat_cmp c.args.name.now p.name) (sym c.index-pairs-place.is) in sym order ∙ is_equal c.cmp.result c.if-is_eq.ensures)) ∙ i.1

pub loop-place-preserved : goal.loop-place-preserved
loop-place-preserved c =
    let i = c.loop-place.invariant in
    (omega (arith, i.0), sym (place_further c.args.name.now c.loop-place.place c.index-pairs-place.result c.args.pairs.now (omega (arith, c.loop-place-test.true)) i.0 c.index-pairs-place.is (let order : c.cmp.result ≡ slice_cmp nat_cmp c.args.name.now c.index-pairs-place.result.name = c.cmp.ensures ∙ ap (λ (p : Captured). slice_cmp nat_cmp c.args.name.now p.name) (sym c.index-pairs-place.is) in λ e. is_other c.cmp.result c.if-is_eq.ensures (order ∙ e))) ∙ i.1)
