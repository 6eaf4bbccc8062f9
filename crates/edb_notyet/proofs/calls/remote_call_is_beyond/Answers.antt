use Rattle.std.proofs.Common.{◌∙◌, arith, length-drop, length-take}
use Rattle.edb_syntax.specs.Syntax.{Exp}
use Rattle.edb_notyet.proofs.Operands.{call_short, call_long}
use Rattle.edb_notyet.proofs.calls.remote_call_is_beyond.Goals as goal

pub returns-in_default : goal.returns-in_default
returns-in_default c = call_short c.args.operands.now (omega arith)

pub returns-in-len2-up : goal.returns-in-len2-up
returns-in-len2-up c =
    c.call_is_beyond.ensures
    ∙ call_long c.args.operands.now c.home-item.result c.name-item.result _ (omega (arith, length-drop {A = Exp}, length-take {A = Exp})) c.home-item.is c.name-item.is
