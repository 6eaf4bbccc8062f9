use Rattle.std.proofs.Common.{◌∙◌, arith, length-drop, length-take}
use Rattle.edb_syntax.specs.Syntax.{Exp}
use Rattle.edb_check.proofs.NamedTests.{named_short, named_long}
use Rattle.edb_check.proofs.guards.is_named_test.Goals as goal

pub returns-in_default : goal.returns-in_default
returns-in_default c = named_short c.args.operands.now (omega arith)

pub returns-in-len2-up : goal.returns-in-len2-up
returns-in-len2-up c =
    c.name_test.ensures
    ∙ named_long c.args.operands.now c.home-item.result c.name-item.result _ (omega (arith, length-drop {A = Exp}, length-take {A = Exp})) c.home-item.is c.name-item.is
