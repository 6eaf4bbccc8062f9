use Rattle.std.proofs.Common.{◌∙◌}
use Rattle.edb_check.specs.Functions.{is_defined}
use Rattle.edb_check.proofs.known.Known.has.Goals as goal

pub returns : goal.returns
returns c =
    c.contains.ensures
    ∙ c.self.invariant (c.as_str.result, c.args.arity)
    ∙ (λ i. is_defined (c.self.view_is i) (c.as_str.ensures i, c.args.arity))
