use Rattle.std.proofs.Common.{◌+◌, sym, ap, arith, drop, length}
use Rattle.std.proofs.lemmas.List.{drop-append-le, length-append}
use Rattle.edb_check.specs.Parts.{pattern_part, patterns_part}
use Rattle.edb_check.specs.Walking.{Walks, followed_by}
use Rattle.edb_check.proofs.Going.{goes_on}
use Rattle.edb_check.proofs.walk.Walk.+pattern.Goals as goal

pub patterns-loop-pattern-preserved : goal.patterns-loop-pattern-preserved
patterns-loop-pattern-preserved t c =
    let m = c.args.mark in
    let now = c.loop-pattern.self in
    let next = c.pattern.new.self in
    let one = pattern_part (drop m now.scope) c.pattern-item.result in
    let w : Walks now next one = c.in_ok-pattern.ensures in
    let rest = drop (c.loop-pattern.pattern-index + 1) c.args.patterns.now in
    let seen = sym (drop-append-le m now.scope one.binds c.loop-pattern.invariant.within) in
    record {
      within = omega (arith, ap length w.scope, length-append now.scope one.binds, c.loop-pattern.invariant.within);
      goes = goes_on (λ bs ps. patterns_part (drop m bs) ps) one c.args.patterns.now c.loop-pattern.pattern-index c.pattern-item.result
          c.pattern-item.is (omega arith) w (ap (λ s. followed_by one (patterns_part s rest)) seen) c.loop-pattern.invariant.goes;
    }
