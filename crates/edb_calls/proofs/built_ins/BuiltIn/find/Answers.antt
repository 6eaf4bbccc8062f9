use Rattle.std.proofs.Common.{◌≡◌, None, Some, IfSome, slice_get, sym, subst, ◌∙◌, arith}
use Rattle.edb_table.specs.BuiltIns.{index_of, built_ins}
use Rattle.edb_pure.specs.Table.{is_pure}
use Rattle.edb_calls.proofs.BuiltInLaws.{shared_many, shared_nowhere, shared_there, apply_fun_there, apply_name_there}
use Rattle.edb_calls.proofs.built_ins.BuiltIn.find.Goals as goal

-- no built-in takes so many
pub returns-in_default-clause-found : goal.returns-in_default-clause-found
returns-in_default-clause-found c = shared_many (c.args.home.now, (c.args.name.now, c.args.arity)) (omega (arith, c.in_default.ensures))

-- there is none
pub returns-in_default-find_built_in-clause-found : goal.returns-in_default-find_built_in-clause-found
returns-in_default-find_built_in-clause-found c =
    let home = c.args.home.now in
    let name = c.args.name.now in
    shared_nowhere (home, (name, c.args.arity))
    (subst (λ n. index_of (home, (name, n)) ≡ None) c.in-Ok.ensures.1 (sym c.find_built_in.ensures.index ∙ c.in_default-find_built_in.is))

pub returns-then-index-eq2-clause-found : goal.returns-then-index-eq2-clause-found
returns-then-index-eq2-clause-found c =
    let home = c.args.home.now in
    let name = c.args.name.now in
    let there = subst (λ n. slice_get built_ins c.in-Some.index ≡ Some (home, (name, n))) c.in-Ok.ensures.1 c.in-Some.ensures.found in
    apply_fun_there (home, (name, c.args.arity)) (subst (λ i. slice_get built_ins i ≡ Some (home, (name, c.args.arity))) c.if-index-eq2.true there)

pub returns-then-index-eq3-clause-found : goal.returns-then-index-eq3-clause-found
returns-then-index-eq3-clause-found c =
    let home = c.args.home.now in
    let name = c.args.name.now in
    let there = subst (λ n. slice_get built_ins c.in-Some.index ≡ Some (home, (name, n))) c.in-Ok.ensures.1 c.in-Some.ensures.found in
    apply_name_there (home, (name, c.args.arity)) (subst (λ i. slice_get built_ins i ≡ Some (home, (name, c.args.arity))) c.if-index-eq3.true there)

-- neither pure nor `apply`
pub returns-clause-found : goal.returns-clause-found
returns-clause-found c =
    let home = c.args.home.now in
    let name = c.args.name.now in
    let there = subst (λ n. slice_get built_ins c.in-Some.index ≡ Some (home, (name, n))) c.in-Ok.ensures.1 c.in-Some.ensures.found in
    let place = subst (λ n. Some c.in-Some.index ≡ index_of (home, (name, n))) c.in-Ok.ensures.1 c.in-Some.ensures.index in
    let told = subst (λ o. IfSome o (λ b. c.is_pure.result ≡ is_pure b)) there c.is_pure.ensures in
    shared_there (home, (name, c.args.arity)) c.in-Some.index (sym place) c.if-index-eq2.false c.if-index-eq3.false (sym told ∙ c.if-is_pure.false)
