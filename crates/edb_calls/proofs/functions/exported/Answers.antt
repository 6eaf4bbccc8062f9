use Rattle.std.proofs.Common.{ap, sym, ◌∙◌, Some}
use Rattle.edb_syntax.specs.Lookup.{function_in, exports}
use Rattle.edb_calls.proofs.FunctionLaws.{found_arity, if_exported, if_kept}
use Rattle.edb_calls.proofs.functions.exported.Goals as goal

pub returns-then-exports : goal.returns-then-exports
returns-then-exports c =
    let unit = c.args.unit.now in
    let name = c.args.name.now in
    let found = function_in unit.functions name c.args.arity in
    let arity = ap (λ g. g.arity) c.function.view_is ∙ found_arity unit.functions name c.args.arity c.in-Some.function.now c.in-Some.ensures in
    if_exported (exports unit name c.args.arity) found (Some c.in-Some.function.now)
    (ap (exports unit name) (sym arity) ∙ sym c.exports.ensures ∙ c.if-exports.true) c.in-Some.ensures

pub returns : goal.returns
returns c =
    let unit = c.args.unit.now in
    let name = c.args.name.now in
    let found = function_in unit.functions name c.args.arity in
    let arity = ap (λ g. g.arity) c.function.view_is ∙ found_arity unit.functions name c.args.arity c.in-Some.function.now c.in-Some.ensures in
    if_kept (exports unit name c.args.arity) found (ap (exports unit name) (sym arity) ∙ sym c.exports.ensures ∙ c.if-exports.false)
