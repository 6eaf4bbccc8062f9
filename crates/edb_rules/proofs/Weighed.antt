-- The weight that the facts have is the journal's.

use Rattle.std.proofs.Common.{◌≡◌, ◌+◌, List, [], ◌∷◌, arith}
use Rattle.edb_event.specs.declared.entry.Entry.{Entry}
use Rattle.edb_event.specs.Weights.{weight_of, weight}
use Rattle.edb_rules.specs.Plans.{Plan}
use Rattle.edb_rules.specs.Facts.{Facts, at_first}
use Rattle.edb_rules.specs.Notes.{note, after, facts}

weight_from : (plan : Plan) (f : Facts) (es : List Entry) → (after plan f es).weight ≡ f.weight + weight es
weight_from plan f [] = omega arith
weight_from plan f (e ∷ es) =
    let rest : (after plan f (e ∷ es)).weight ≡ (f.weight + weight_of e) + weight es = weight_from plan (note plan f e) es in
    omega arith

pub weight_is : (plan : Plan) (journal : List Entry) → (facts plan journal).weight ≡ weight journal
weight_is plan journal = let from : (facts plan journal).weight ≡ 0 + weight journal = weight_from plan (at_first plan) journal in omega arith
