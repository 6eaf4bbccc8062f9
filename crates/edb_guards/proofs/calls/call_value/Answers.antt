use Rattle.std.proofs.Common.{◌≡◌, None, ap, sym, subst, ◌∙◌, arith, length, map}
use Rattle.edb_moves.specs.Guards.{value_in}
use Rattle.edb_table.specs.BuiltIns.{index_of}
use Rattle.edb_guards.proofs.BuiltInLaws.{pure-no_index, pure-many}
use Rattle.edb_guards.proofs.calls.call_value.Goals as goal

-- no built-in takes so many
pub returns-in_default : goal.returns-in_default
returns-in_default c =
    sym (ap value_in (pure-many c.args.home.now c.args.name.now (length c.args.args.now) c.args.me (map (λ t. t.now) c.args.args.now) (omega (arith, c.in_default.ensures))))

-- there is none of this name
pub returns-in_default-find_built_in : goal.returns-in_default-find_built_in
returns-in_default-find_built_in c =
    let home = c.args.home.now in
    let name = c.args.name.now in
    let arity = length c.args.args.now in
    let none = subst (λ n. index_of (home, (name, n)) ≡ None) c.in-Ok.ensures.1 (sym c.find_built_in.ensures.index ∙ c.in_default-find_built_in.is) in
    sym (ap value_in (pure-no_index (home, (name, arity)) c.args.me (map (λ t. t.now) c.args.args.now) none))
