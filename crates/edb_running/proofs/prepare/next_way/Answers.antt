use Rattle.std.proofs.Common.{◌≡◌, Some, drop, ap, sym, subst, ◌∙◌}
use Rattle.std.specs.Option.{option_map}
use Rattle.edb_running.specs.Rising.{next_code, IsNext}
use Rattle.edb_running.proofs.WayLaws.{next_is_open, serves}
use Rattle.edb_running.proofs.prepare.next_way.Goals as goal

pub way-requires : goal.way-requires
way-requires c =
    let next : next_code (drop c.args.depth c.args.layers.now.0) ≡ Some c.in-Some.code.now = sym c.next_code.ensures ∙ ap (option_map (λ e. e.now)) c.in-Some.is in
    next_is_open (drop c.args.depth c.args.layers.now.0) c.in-Some.code.now next

pub returns-in_ok-way-in-Some : goal.returns-in_ok-way-in-Some
returns-in_ok-way-in-Some c =
    let next : next_code (drop c.args.depth c.args.layers.now.0) ≡ Some c.in-Some.code.now = sym c.next_code.ensures ∙ ap (option_map (λ e. e.now)) c.in-Some.is in
    let w = serves c.in-Some.code.now c.in_ok-way-in-Some.field-0 c.new.result.items c.new.ensures.items c.in_ok-way-in-Some.ensures.tree c.in_ok-way-in-Some.ensures.outer c.in_ok-way-in-Some.ensures.leads in
    subst (IsNext (Some c.in_ok-way-in-Some.field-0)) (sym next) w
