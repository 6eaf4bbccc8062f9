use Rattle.std.proofs.Common.{◌∙◌, List, ap}
use Rattle.edb_syntax.specs.Lookup.{version_in}
use Rattle.edb_syntax.specs.Syntax.{ModuleTree}
use Rattle.edb_program.specs.Searched.{version_among}
use Rattle.edb_program.proofs.Versions.{version_found}
use Rattle.edb_program.proofs.program.Program.unit.Goals as goal

pub returns : goal.returns
returns c =
    c.find_unit.ensures
    ∙ ap (λ (xs : List ModuleTree). version_among xs c.args.module.now c.args.version) c.deref.ensures.value
    ∙ version_found _ _ c.self.invariant c.args.module.now c.args.version
    ∙ ap (λ (xs : List ModuleTree). version_in xs c.args.module.now c.args.version) c.self.view_is
