use Rattle.std.proofs.Common.{List, ℕ, Bool, [], ◌∷◌, ◌+◌, length, sym, ap, subst, arith}
use Rattle.edb_event.specs.declared.call.Command.{Command}
use Rattle.edb_cmds.specs.Listing.{IsBad, IsScriptFault, starts}
use Rattle.edb_cmds.specs.Progress.{Counts, GoesOn, HasRead}
use Rattle.edb_cmds.proofs.ProgressLaws.{has_more, fault_here, fault_past, fault_end, read_all, begun_at, empty_is, some_is}
use Rattle.edb_cmds.proofs.RangeLaws.{script_range}
use Rattle.edb_cmds.proofs.listing.read_commands.Goals as goal

pub loop-rest-init : goal.loop-rest-init
loop-rest-init c =
    let P : List Command → Type 0 = λ cs. HasRead c.args.bytes.now c.args.bytes.now cs 1 in
    record { read = subst P (sym c.new-commands.ensures.items) (begun_at c.args.bytes.now); counted = ap starts c.new-commands.ensures.items }

pub returns-then-reaches_limit-clause-answer : goal.returns-then-reaches_limit-clause-answer
returns-then-reaches_limit-clause-answer c =
    let F : ℕ → Type 0 = λ n. IsScriptFault c.args.bytes.now n in
    subst F (sym c.refuse.ensures)
    (fault_past c.args.bytes.now c.loop-rest.rest.now c.loop-rest.commands.items c.loop-rest.line c.loop-rest.started c.loop-rest.invariant.read (some_is c.loop-rest.rest.now c.loop-rest-test.ensures) c.loop-rest.invariant.counted
    c.if-reaches_limit.ensures.0 (omega (arith, c.if-reaches_limit.ensures.1, ap length c.split_line.ensures.line)))

pub returns-in_default-clause-answer : goal.returns-in_default-clause-answer
returns-in_default-clause-answer c =
    let P : List ℕ → Type 0 = λ line. IsBad (starts c.loop-rest.commands.items) (line ∷ []) in
    let F : ℕ → Type 0 = λ n. IsScriptFault c.args.bytes.now n in
    subst F (sym c.refuse-in_default.ensures)
    (fault_here c.args.bytes.now c.loop-rest.rest.now c.loop-rest.commands.items c.loop-rest.line c.loop-rest.started c.loop-rest.invariant.read (some_is c.loop-rest.rest.now c.loop-rest-test.ensures) c.loop-rest.invariant.counted
    (subst P c.split_line.ensures.line (rw c.in_default.is at c.in_ok-now.ensures)))

pub loop-rest-preserved : goal.loop-rest-preserved
loop-rest-preserved c =
    let goes = rw c.in-Some.is at c.in_ok-now.ensures in
    let P : List ℕ → Type 0 = λ line. GoesOn c.loop-rest.commands.items line c.take_line.new.commands.items in
    let Q : List ℕ → Type 0 = λ rest. HasRead c.args.bytes.now rest c.take_line.new.commands.items (c.loop-rest.line + 1) in
    record {
      read = subst Q (sym c.split_line.ensures.others)
          (has_more c.args.bytes.now c.loop-rest.rest.now c.loop-rest.commands.items c.loop-rest.line c.take_line.new.commands.items c.loop-rest.invariant.read (some_is c.loop-rest.rest.now c.loop-rest-test.ensures)
          (subst P c.split_line.ensures.line goes.0) (λ long. omega (arith, c.if-reaches_limit.ensures long, ap length c.split_line.ensures.line)));
      counted = goes.1;
    }

pub returns-then-not-started-clause-answer : goal.returns-then-not-started-clause-answer
returns-then-not-started-clause-answer c =
    let P : Bool → Type 0 = λ b. Counts b c.loop-rest.commands.items in
    let F : ℕ → Type 0 = λ n. IsScriptFault c.args.bytes.now n in
    subst F (sym c.refuse-then-not-started.ensures)
    (fault_end c.args.bytes.now c.loop-rest.rest.now c.loop-rest.commands.items c.loop-rest.line c.loop-rest.invariant.read (empty_is c.loop-rest.rest.now c.loop-rest-test.ensures)
    (subst P c.if-not-started.true c.loop-rest.invariant.counted))

pub returns-clause-answer : goal.returns-clause-answer
returns-clause-answer c =
    let P : Bool → Type 0 = λ b. Counts b c.loop-rest.commands.items in
    read_all c.args.bytes.now c.loop-rest.rest.now c.loop-rest.commands.items c.loop-rest.line c.loop-rest.invariant.read (empty_is c.loop-rest.rest.now c.loop-rest-test.ensures)
    (subst P c.if-not-started.false c.loop-rest.invariant.counted)

pub returns-clause-ranges : goal.returns-clause-ranges
returns-clause-ranges c =
    let P : Bool → Type 0 = λ b. Counts b c.loop-rest.commands.items in
    script_range c.args.bytes.now c.loop-rest.commands.items
    (read_all c.args.bytes.now c.loop-rest.rest.now c.loop-rest.commands.items c.loop-rest.line c.loop-rest.invariant.read (empty_is c.loop-rest.rest.now c.loop-rest-test.ensures)
    (subst P c.if-not-started.false c.loop-rest.invariant.counted))
