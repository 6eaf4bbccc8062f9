use Rattle.std.proofs.Common.{◌≡◌, sym, arith, length}
use Rattle.edb_lang.proofs.PairsLaws.{put_at, put_last, put_below, put_nowhere, put_later}
use Rattle.edb_lang.proofs.bindings.place_of.Goals as goal

pub returns-in-Less : goal.returns-in-Less
returns-in-Less c = (
  omega arith,
  put_at c.args.name.now c.args.pairs.now c.loop-place.place
      (put_below c.args.name.now c.args.pairs.now c.loop-place.place c.index-pairs-place.result c.loop-place-test.true c.index-pairs-place.is (sym c.in-Less.ensures))
      c.loop-place.invariant,
)

pub returns-in-Equal : goal.returns-in-Equal
returns-in-Equal c =
    put_nowhere c.args.name.now c.args.pairs.now c.loop-place.place c.index-pairs-place.result c.loop-place-test.true c.index-pairs-place.is (sym c.in-Equal.ensures)
    c.loop-place.invariant

pub loop-place-preserved : goal.loop-place-preserved
loop-place-preserved c =
    put_later c.args.name.now c.args.pairs.now c.loop-place.place c.index-pairs-place.result c.loop-place-test.true c.index-pairs-place.is (sym c.in-Greater.ensures)
    c.loop-place.invariant

pub returns : goal.returns
returns c =
    let place : length c.args.pairs.now ≡ c.loop-place.place = omega arith in
    rw place (
      omega arith,
      put_at c.args.name.now c.args.pairs.now c.loop-place.place
          (put_last c.args.name.now c.args.pairs.now c.loop-place.place (omega arith))
          c.loop-place.invariant,
    )
