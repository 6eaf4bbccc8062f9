use Rattle.std.proofs.Common.{◌≡◌, [], Some, None, IfOk, codes, ap, sym, subst, ◌∙◌}
use Rattle.std.specs.Option.{option_map}
use Rattle.edb_match.specs.Newest as match
use Rattle.edb_moves.specs.Going.{turns, if_some}
use Rattle.edb_moves.specs.Matching.{matched}
use Rattle.edb_moves.specs.Raises.{fails_with}
use Rattle.edb_moves.specs.Running.{value}
use Rattle.edb_path.specs.Plans.{effect}
use Rattle.edb_path.proofs.Newest.{newest_first_same}
use Rattle.edb_leaves.proofs.ClauseLaws.{in_front_of_none}
use Rattle.edb_fill.proofs.sequences.match_value.Goals as goal

pub returns-in-Some-clause-effect : goal.returns-in-Some-clause-effect
returns-in-Some-clause-effect c = λ p e.
    let q = c.args.pattern.now in
    let v = c.args.value.now in
    let seen = c.pairs.result.now in
    let same = in_front_of_none seen c.args.variables.now.pairs c.pairs.ensures ∙ sym e in
    let found = sym (ap (option_map (λ new. match.newest_first new.items (match.newest_first seen []))) c.in-Some.is) ∙ c.in_ok-new.ensures in
    let here = subst (λ bs. Some (match.newest_first c.in-Some.new.items bs) ≡ matched q v bs) same found in
    ap (λ bs. turns bs (value v)) (sym (newest_first_same c.in-Some.new.items p.bindings))
    ∙ ap (λ o. if_some o (λ bs. turns bs (value v)) (fails_with (codes "badmatch") v)) here

pub returns-in-None-clause-effect : goal.returns-in-None-clause-effect
returns-in-None-clause-effect c = λ p e.
    let q = c.args.pattern.now in
    let v = c.args.value.now in
    let seen = c.pairs.result.now in
    let same = in_front_of_none seen c.args.variables.now.pairs c.pairs.ensures ∙ sym e in
    let found = sym (ap (option_map (λ new. match.newest_first new.items (match.newest_first seen []))) c.in-None.is) ∙ c.in_ok-new.ensures in
    let here = subst (λ bs. None ≡ matched q v bs) same found in
    let row = ap (λ o. if_some o (λ bs. turns bs (value v)) (fails_with (codes "badmatch") v)) here in
    subst (λ x. IfOk c.failing_with.result (λ plan. effect p v plan ≡ x)) row (c.failing_with.ensures.effect p v)
