use Rattle.std.proofs.Common.{◌≡◌, Some, sym, arith}
use Rattle.edb_cmds.specs.Steps.{behind}
use Rattle.edb_cmds.proofs.ListLaws.{few, token_more, token_off, token_end, token_stop}
use Rattle.edb_cmds.proofs.list.integers_of.Goals as goal

pub returns-in-None : goal.returns-in-None
returns-in-None c =
    token_off c.args.tokens.now c.loop-placed.placed-index c.placed-item.result c.loop-placed.place.stage c.loop-placed.place.brackets c.loop-placed.integers.items
    c.loop-placed-test.true c.placed-item.is (sym c.in-None.ensures) c.loop-placed.invariant.rest

pub loop-placed-preserved : goal.loop-placed-preserved
loop-placed-preserved c =
    let leads : behind c.placed-item.result.token c.loop-placed.place.stage c.loop-placed.place.brackets ≡ Some c.in-Some.next = sym c.in-Some.ensures in
    record {
      few = omega (arith, few c.placed-item.result.token c.loop-placed.place.stage c.loop-placed.place.brackets c.in-Some.next leads, c.loop-placed.invariant.few);
      rest = token_more c.args.tokens.now c.loop-placed.placed-index c.placed-item.result c.loop-placed.place.stage c.loop-placed.place.brackets c.in-Some.next c.loop-placed.integers.items c.put.new.integers.items
          c.loop-placed-test.true c.placed-item.is leads c.in_ok-put-in-Some.ensures c.loop-placed.invariant.rest;
    }

pub returns-then-is_end : goal.returns-then-is_end
returns-then-is_end c =
    token_end c.args.tokens.now c.loop-placed.placed-index c.loop-placed.place.stage c.loop-placed.place.brackets c.loop-placed.integers.items
    c.loop-placed-test.false (sym c.if-is_end.ensures) c.loop-placed.invariant.rest

pub returns-else-is_end : goal.returns-else-is_end
returns-else-is_end c =
    token_stop c.args.tokens.now c.loop-placed.placed-index c.loop-placed.place.stage c.loop-placed.place.brackets c.loop-placed.integers.items
    c.loop-placed-test.false (sym c.if-is_end.ensures) c.loop-placed.invariant.rest
