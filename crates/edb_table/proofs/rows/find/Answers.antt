use Rattle.std.proofs.Common.{rules}
use Rattle.std.proofs.lemmas.Fn.{always_returns_same}
use Rattle.edb_table.specs.Keys.{Key, key_of, key_cmp}
use Rattle.edb_table.proofs.Halving.{searched}
use Rattle.edb_table.proofs.rows.find.Goals as goal

-- the closure compares a row's name and arity with those asked for, and leaves itself as it was
pub returns : goal.returns
returns c =
    let key : Key = (c.args.name.now, c.args.arity) in
    let by_order = c.binary_search_by.ensures.position (λ row. key_cmp (key_of row) key) (always_returns_same _ _ _ (λ a r f called. (search rules, search rules))) in
    let facts = searched c.args.rows.now c.requires key c.binary_search_by.result c.binary_search_by.ensures.bound by_order in
    rw c.ok.ensures.value record { first = facts.first; found = facts.here; only = facts.only; within = facts.within; none = facts.nowhere }
