use Rattle.edb_session.proofs.Answered.{if_ok_of_three}
use Rattle.edb_session.proofs.ModuleLists.{modules_bounded}
use Rattle.edb_session.proofs.Planned.{is_plan}
use Rattle.edb_session.proofs.top.prepare.Goals as goal

pub returns-clause-plan : goal.returns-clause-plan
returns-clause-plan g c =
    if_ok_of_three c.accept.result
    (λ a modules script ranges. is_plan c.args.request.now.options c.index-texts-0.result a.code a.commands.items c.requires.ranges (modules_bounded c.modules_are_bounded.ensures _ a.code modules) script ranges)
    c.accept.ensures.modules c.accept.ensures.script c.accept.ensures.ranges
