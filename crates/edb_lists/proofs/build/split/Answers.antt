use Rattle.std.proofs.Common.{◌∙◌, ◌++◌, List, map, ap, sym, arith, Bor, Some}
use Rattle.std.specs.Option.{option_map}
use Rattle.std.proofs.lemmas.List.{length-map, append-nil}
use Rattle.edb_lang.specs.Terms.{Datum}
use Rattle.edb_lang.specs.declared.term.Term.{Term}
use Rattle.edb_pure.specs.Lists.{pair_of}
use Rattle.edb_lists.proofs.Places.{read_value}
use Rattle.edb_lists.proofs.Walks.{each_none, each_more, each_all, one_behind}
use Rattle.edb_lists.proofs.build.split.Goals as goal

pub returns-in_default : goal.returns-in_default
returns-in_default c =
    let v = (λ (t : Bor Term). t.now) in
    let fs = c.loop-place.firsts.items in
    let ss = c.loop-place.seconds.items in
    each_none pair_of (map v c.args.items.now) c.loop-place.place (λ (ps : List (Datum × Datum)). (map v fs ++ map (λ p. p.0) ps, map v ss ++ map (λ p. p.1) ps)) _ c.loop-place.invariant
    c.index-items-place.result.now (simp length-map (omega arith)) (read_value v c.args.items.now c.loop-place.place c.index-items-place.result (omega arith) c.index-items-place.is)
    (ap (option_map {U = Datum × Datum} (λ p. (p.0.now, p.1.now))) (sym c.in_default.is) ∙ c.parts.ensures)

pub loop-place-preserved : goal.loop-place-preserved
loop-place-preserved c =
    let v = (λ (t : Bor Term). t.now) in
    let fs = c.loop-place.firsts.items in
    let ss = c.loop-place.seconds.items in
    let x = c.in-Some.first in
    let y = c.in-Some.second in
    each_more pair_of (map v c.args.items.now) c.loop-place.place (λ (ps : List (Datum × Datum)). (map v fs ++ map (λ p. p.0) ps, map v ss ++ map (λ p. p.1) ps)) _ c.loop-place.invariant
    c.index-items-place.result.now (simp length-map (omega arith)) (read_value v c.args.items.now c.loop-place.place c.index-items-place.result (omega arith) c.index-items-place.is)
    (x.now, y.now) (λ (ps : List (Datum × Datum)). (map v c.push.new.self.items ++ map (λ p. p.0) ps, map v c.push-in-loop-place.new.self.items ++ map (λ p. p.1) ps))
    (ap (option_map {U = Datum × Datum} (λ p. (p.0.now, p.1.now))) (sym c.in-Some.is) ∙ c.parts.ensures)
    (λ rest. λ k. (one_behind v fs c.push.new.self.items x (map (λ p. p.0) rest) c.in_ok-push.ensures.items k, one_behind v ss c.push-in-loop-place.new.self.items y (map (λ p. p.1) rest) c.in_ok-push-2.ensures.items k))

pub returns : goal.returns
returns c =
    let v = (λ (t : Bor Term). t.now) in
    let fs = c.loop-place.firsts.items in
    let ss = c.loop-place.seconds.items in
    (λ k. Some (sym (append-nil (map v fs)) k, sym (append-nil (map v ss)) k))
    ∙ each_all pair_of (map v c.args.items.now) c.loop-place.place (λ (ps : List (Datum × Datum)). (map v fs ++ map (λ p. p.0) ps, map v ss ++ map (λ p. p.1) ps)) _ c.loop-place.invariant (simp length-map (omega arith))
