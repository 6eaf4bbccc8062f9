use Rattle.std.proofs.Common.{◌≡◌, ◌∙◌, sym, rules, nat_eq, false}
use Rattle.edb_served.specs.Words.{begins_with}
use Rattle.edb_served.proofs.Loops.{flag_on}
use Rattle.edb_served.proofs.calls.read_flags.Goals as goal

pub loop-turns-preserved : goal.loop-turns-preserved
loop-turns-preserved c =
    let goes : begins_with (nat_eq 61) c.loop-turns.rest.now ≡ false = search rules in record {
      read =
          sym (flag_on c.loop-turns.turns c.loop-turns.found.items c.push.new.self.items c.loop-turns.rest.now c.in_ok-flag.flag c.in_ok-flag.after.now
          c.loop-turns-test.true goes c.in_ok-push.ensures.items c.in_ok-flag.ensures.read)
          ∙ c.loop-turns.invariant.read;
      few = search rules;
    }
