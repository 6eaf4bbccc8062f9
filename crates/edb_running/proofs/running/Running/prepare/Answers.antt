use Rattle.std.proofs.Common.{None, sym, subst}
use Rattle.edb_running.specs.Rising.{next_code}
use Rattle.edb_running.specs.Vacant.{HasWay, code_behind}
use Rattle.edb_running.proofs.WayLaws.{no_way}
use Rattle.edb_running.proofs.running.Running.prepare.Goals as goal

pub returns-in_ok-make_room-in-Gives-clause-next : goal.returns-in_ok-make_room-in-Gives-clause-next
returns-in_ok-make_room-in-Gives-clause-next c =
    subst (λ a. HasWay a c.in_ok-next-in-Gives.next (next_code (code_behind c.args.self.now.layers.0 c.args.self.now.redex))) (sym c.in-Gives.is) c.in_ok-next-in-Gives.ensures

pub returns-in_ok-make_room-in-Passes-clause-next : goal.returns-in_ok-make_room-in-Passes-clause-next
returns-in_ok-make_room-in-Passes-clause-next c =
    subst (λ a. HasWay a c.in_ok-next-in-Passes.next (next_code (code_behind c.args.self.now.layers.0 c.args.self.now.redex))) (sym c.in-Passes.is) c.in_ok-next-in-Passes.ensures

pub returns-in_ok-make_room-in-Turns-clause-next : goal.returns-in_ok-make_room-in-Turns-clause-next
returns-in_ok-make_room-in-Turns-clause-next c = subst (λ a. HasWay a None (next_code (code_behind c.args.self.now.layers.0 c.args.self.now.redex))) (sym c.in-Turns.is) tt

pub returns-in_ok-make_room-in_default-clause-next : goal.returns-in_ok-make_room-in_default-clause-next
returns-in_ok-make_room-in_default-clause-next c = no_way c.args.plan.now None (next_code (code_behind c.args.self.now.layers.0 c.args.self.now.redex)) c.in_default.not-Gives c.in_default.not-Passes
