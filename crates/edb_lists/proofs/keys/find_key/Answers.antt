use Rattle.std.proofs.Common.{map, sym, ◌∙◌, arith}
use Rattle.std.proofs.lemmas.List.{length-map}
use Rattle.edb_pure.specs.Keys.{has_key}
use Rattle.edb_lang.specs.declared.term.Term.{Term}
use Rattle.std.proofs.Common.{Bor}
use Rattle.edb_lists.proofs.Places.{read_value, place_here, place_later, place_nowhere}
use Rattle.edb_lists.proofs.keys.find_key.Goals as goal

-- src/keys.rt: this element is the one
pub returns-then-has_key-clause-found : goal.returns-then-has_key-clause-found
returns-then-has_key-clause-found c =
    let v = (λ (t : Bor Term). t.now) in
    let xs = c.args.items.now in
    place_here (has_key c.args.key.now c.args.place) (map v xs) c.loop-at.at c.index-items-at.result.now
    (simp length-map (omega arith)) (read_value v xs c.loop-at.at c.index-items-at.result (omega arith) c.index-items-at.is)
    (sym c.has_key.ensures ∙ c.if-has_key.true) c.loop-at.invariant

-- it isn't
pub loop-at-preserved : goal.loop-at-preserved
loop-at-preserved c =
    let v = (λ (t : Bor Term). t.now) in
    let xs = c.args.items.now in
    place_later (has_key c.args.key.now c.args.place) (map v xs) c.loop-at.at c.index-items-at.result.now
    (simp length-map (omega arith)) (read_value v xs c.loop-at.at c.index-items-at.result (omega arith) c.index-items-at.is)
    (sym c.has_key.ensures ∙ c.if-has_key.false) c.loop-at.invariant

-- all were read
pub returns-clause-found : goal.returns-clause-found
returns-clause-found c =
    let v = (λ (t : Bor Term). t.now) in
    place_nowhere (has_key c.args.key.now c.args.place) (map v c.args.items.now) c.loop-at.at (simp length-map (omega arith)) c.loop-at.invariant
