-- The answer is that of a test of the modules; contracts see their trees.
use Rattle.std.proofs.Common.{rules, tests, ap, sym, ◌∙◌}
use Rattle.std.specs.List.{list_any}
use Rattle.std.proofs.lemmas.Iterator.{YieldsList-from_slice}
use Rattle.std.proofs.lemmas.Iterator.Search.{any_from_yields_List}
use Rattle.edb_lang.specs.TermText.{same_name}
use Rattle.edb_syntax.specs.Syntax.{ModuleTree}
use Rattle.edb_check.proofs.Maps.{list_any-map}
use Rattle.edb_check.proofs.code.Code.holds.Goals as goal

pub returns : goal.returns
returns c =
    any_from_yields_List (λ x. same_name x.«module».name c.args.name.now) _ _ _ c.any.ensures.ran (YieldsList-from_slice c.self.inside.modules.items cc) (λ x b q k. search (rules, tests))
    ∙ sym (list_any-map (λ (x : ModuleTree). same_name x.name c.args.name.now) (λ x. x.«module») c.self.inside.modules.items)
    ∙ ap (list_any (λ x. same_name x.name c.args.name.now)) c.self.view_is
