use Rattle.std.proofs.Common.{◌≡◌, ◌≢◌, ◌∷◌, [], rules}
use Rattle.edb_lang.specs.Terms.{atom}
use Rattle.edb_values.proofs.FoundLemmas.{longer}
use Rattle.edb_values.proofs.bindings.name_and_value.Goals as goal

-- src/bindings.rt: more than two elements
pub returns-else-is_empty : goal.returns-else-is_empty
returns-else-is_empty c =
    let items : c.args.items.now ≡ c.in_ok-name.name.now ∷ c.in_ok-value.value.now ∷ c.in_ok-value.others.now = search rules in
    let is : c.in_ok-name.name.now ≡ atom c.in-Atom.name = cc in
    let some : c.in_ok-value.others.now ≢ [] = λ none. absurd (search (rules, none)) in
    rw (items, is) (longer c.in-Atom.name c.in_ok-value.value.now c.in_ok-value.others.now some)
