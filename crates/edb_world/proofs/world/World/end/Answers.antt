use Rattle.std.proofs.Common.{◌≡◌, [], ◌∷◌, None, Some, sym, subst, arith, rules}
use Rattle.edb_rules.specs.Plans.{Plan}
use Rattle.edb_world.specs.declared.slices.SliceEnd.TheVariants as end
use Rattle.edb_world.specs.Turns.{stopped_by}
use Rattle.edb_world.specs.Plans.{IsPlan}
use Rattle.edb_world.proofs.Ending.{ending_at, ended_so, ended_two}
use Rattle.edb_world.proofs.world.World.end.Goals as goal

pub stop-requires-clause-plan : goal.stop-requires-clause-plan
stop-requires-clause-plan c =
    let w = c.args.self.now in
    let p = c.args.pid in
    let by = c.in-Enters-Some.by in
    let is : c.args.end ≡ end.Enters (Some by) = search rules in
    let t = c.requires.ending.0 in
    let behind = c.in_ok-enter-in-Enters-Some.ensures t (stopped_by p by t ∷ []) (ending_at w p c.args.end (end.Enters (Some by)) c.requires.ending is) in
    subst (λ (x : Plan). IsPlan x) (sym behind.plan) c.requires.plan

pub stop-requires-clause-bound : goal.stop-requires-clause-bound
stop-requires-clause-bound c =
    let w = c.args.self.now in
    let p = c.args.pid in
    let by = c.in-Enters-Some.by in
    let is : c.args.end ≡ end.Enters (Some by) = search rules in
    let t = c.requires.ending.0 in
    let behind = c.in_ok-enter-in-Enters-Some.ensures t (stopped_by p by t ∷ []) (ending_at w p c.args.end (end.Enters (Some by)) c.requires.ending is) in
    omega (arith, behind.heavier, c.requires.bound)

pub stop-requires-clause-next : goal.stop-requires-clause-next
stop-requires-clause-next c =
    let w = c.args.self.now in
    let p = c.args.pid in
    let by = c.in-Enters-Some.by in
    let is : c.args.end ≡ end.Enters (Some by) = search rules in
    let t = c.requires.ending.0 in
    let behind = c.in_ok-enter-in-Enters-Some.ensures t (stopped_by p by t ∷ []) (ending_at w p c.args.end (end.Enters (Some by)) c.requires.ending is) in
    (t, [], behind.ending)

pub returns-in_ok-leave-in-Leaves : goal.returns-in_ok-leave-in-Leaves
returns-in_ok-leave-in-Leaves c =
    let w = c.args.self.now in
    let t = c.requires.ending.0 in
    ended_so w c.leave.new.self c.args.pid t
    (c.in_ok-leave-in-Leaves.ensures t [] (ending_at w c.args.pid c.args.end end.Leaves c.requires.ending (search rules)))

pub returns-in_ok-enter-in-Enters-None : goal.returns-in_ok-enter-in-Enters-None
returns-in_ok-enter-in-Enters-None c =
    let w = c.args.self.now in
    let t = c.requires.ending.0 in
    let is : c.args.end ≡ end.Enters None = search rules in
    ended_so w c.enter.new.self c.args.pid t
    (c.in_ok-enter-in-Enters-None.ensures t [] (ending_at w c.args.pid c.args.end (end.Enters None) c.requires.ending is))

pub returns-in_ok-stop-in-Enters-Some : goal.returns-in_ok-stop-in-Enters-Some
returns-in_ok-stop-in-Enters-Some c =
    let w = c.args.self.now in
    let p = c.args.pid in
    let by = c.in-Enters-Some.by in
    let is : c.args.end ≡ end.Enters (Some by) = search rules in
    let t = c.requires.ending.0 in
    let behind = c.in_ok-enter-in-Enters-Some.ensures t (stopped_by p by t ∷ []) (ending_at w p c.args.end (end.Enters (Some by)) c.requires.ending is) in
    ended_two w c.enter-in-Enters-Some.new.self c.stop.new.self p t (stopped_by p by t ∷ []) behind (c.in_ok-stop-in-Enters-Some.ensures t [] behind.ending)

pub returns-in_ok-stop-in-Stops : goal.returns-in_ok-stop-in-Stops
returns-in_ok-stop-in-Stops c =
    let w = c.args.self.now in
    let t = c.requires.ending.0 in
    let is : c.args.end ≡ end.Stops c.in-Stops.by = search rules in
    ended_so w c.stop-in-Stops.new.self c.args.pid t
    (c.in_ok-stop-in-Stops.ensures t [] (ending_at w c.args.pid c.args.end (end.Stops c.in-Stops.by) c.requires.ending is))
