-- Each entry of a turn may stand: a trigger's, a command's, and an act's.

use Rattle.std.proofs.Common.{◌≡◌, inl, inr, ℕ, zero, suc, ◌+◌, ◌<◌, ◌≤◌, Bool, true, false, if◌then◌else◌, nat_lt, List, [], ◌∷◌, length, Option, Some, slice_index_or, refl, sym, ◌∙◌, ap, subst, arith}
use Rattle.std.specs.Prelude.{IfSome}
use Rattle.std.specs.List.{All, slice_get}
use Rattle.std.proofs.lemmas.Bool.{both_ways}
use Rattle.std.proofs.lemmas.List.Elements.{All-nil, All-head, All-tail}
use Rattle.std.proofs.lemmas.Option.{slice_get_within, none-some, same_Some}
use Rattle.edb_lang.specs.declared.act.ActKind.{ActKind}
use Rattle.edb_lang.specs.Terms.{Datum, elements}
use Rattle.edb_model.specs.Running.{opening_call}
use Rattle.edb_model.specs.Plain as model
use Rattle.edb_model.specs.Procs.{most_processes}
use Rattle.edb_event.specs.declared.call.Command.{Command}
use Rattle.edb_event.specs.declared.call.Call.{Call}
use Rattle.edb_event.specs.declared.call.Call.TheVariants as command
use Rattle.edb_event.specs.declared.reply.Reply.{Reply}
use Rattle.edb_event.specs.declared.reply.Reply.TheVariants as reply
use Rattle.edb_event.specs.declared.entry.Entry.{Entry}
use Rattle.edb_event.specs.declared.entry.Entry.TheVariants as entry
use Rattle.edb_event.specs.Books.{commands_of}
use Rattle.edb_event.specs.Ranges.{MayAnswer}
use Rattle.edb_rules.specs.Plans.{Plan}
use Rattle.edb_rules.specs.Facts.{Facts, console_at}
use Rattle.edb_rules.specs.Replies.{about, process_of, next_call, is_served, is_enabled}
use Rattle.edb_rules.specs.Answers.{reply_of}
use Rattle.edb_rules.specs.Turns.{IsFirst}
use Rattle.edb_rules.specs.Ranks.{MayBegin, AtCommand, AtTurn, AtQuiet, IsNext}
use Rattle.edb_rules.specs.Legal.{May}
use Rattle.edb_rules.proofs.Commanded.{next_stands}
use Rattle.edb_rules.proofs.Rows.{AreOwed, owed_is}
use Rattle.edb_rules.proofs.ServerCounts.{made_is}
use Rattle.edb_world.specs.declared.world.World.{World}
use Rattle.edb_world.specs.Known.{Known, command_entry, trigger_entry}
use Rattle.edb_world.specs.Turns.{IsActing, IsLeastOwing, act_entry}
use Rattle.edb_world.specs.Plans.{AreServed}
use Rattle.edb_world.specs.Ranks.{IsAllAnswered, IsStill}
use Rattle.edb_world.specs.Worlds.{Keeps, IsGoing, Rests}
use Rattle.edb_world.proofs.Turning.{StandsAlone, calm_here, agrees}
use Rattle.edb_world.proofs.Rounds.{owed_within}
use Rattle.edb_world.proofs.Ranking.{at_quiet}
use Rattle.edb_world.proofs.Acting.{act_may}

pub trigger_stands : (w : World) (p : ℕ) (owes : IsLeastOwing w.state.facts p) → MayBegin w.state.plan w.state.facts
    → StandsAlone w (trigger_entry w.state.facts.server.table p owes.trigger)
trigger_stands w p owes begin = record {
  may = record { rule = record { begin = begin; owed = owes.owed; first = owes.first; done = refl }; plain = w.state.facts.plain; enabled = refl };
  alone = λ none. none;
  one = refl;
  whole = refl;
  other = tt;
}

pub act_stands : (w : World) (p : ℕ) (k : ActKind) (acting : IsActing w.state.facts p k) → AtTurn w.state.plan w.state.facts → IsFirst w.state.facts p
    → StandsAlone w (act_entry p acting.act)
act_stands w p k acting at first = record {
  may = act_may w.state.plan w.state.facts p k acting at first;
  alone = λ none. none;
  one = refl;
  whole = refl;
  other = tt;
}

-- there is a command left
pub few : (plan : Plan) (f : Facts) (x : Call) → next_call plan f 1 ≡ Some x → (console_at f 1).served < length (commands_of 1 plan.commands)
few plan f x next =
    let at = next_stands plan f 1 x next in slice_get_within (commands_of 1 plan.commands) (console_at f 1).served at.command at.stands

-- a command about another process is served where it is
about_served : (c : Call) (p : ℕ) → is_served (about c p) ≡ is_served c
about_served (command.Ia q) p = refl
about_served (command.Detach q) p = refl
about_served (command.Step q) p = refl
about_served (command.Next q) p = refl
about_served (command.Finish q) p = refl
about_served (command.Halt q) p = refl
about_served (command.Skip q) p = refl
about_served (command.Kill q) p = refl
about_served (command.Timeout q) p = refl
about_served (command.Continue q) p = refl
about_served (command.Bindings q) p = refl
about_served (command.Frames q) p = refl
about_served (command.Await q s) p = refl
about_served c p = refl

-- what is true of each is true of the one at a place
at_place : (cs : List Command) (k : ℕ) (c : Command) → AreServed cs → slice_get cs k ≡ Some c → is_served c.call ≡ true
at_place [] k c all e = absurd (none-some c e)
at_place (d ∷ ds) zero c all e = subst (λ (x : Command). is_served x.call ≡ true) (same_Some d c e) (All-head (λ (x : Command). is_served x.call ≡ true) d ds all)
at_place (d ∷ ds) (suc k) c all e = at_place ds k c (All-tail (λ (x : Command). is_served x.call ≡ true) d ds all) e

of_first : (scripts : List (List Command)) → All AreServed scripts → AreServed (slice_index_or scripts 0 [])
of_first [] all = All-nil (λ (x : Command). is_served x.call ≡ true)
of_first (cs ∷ rest) all = All-head AreServed cs rest all

pub next_known : (plan : Plan) (f : Facts) (x : Call) → All AreServed plan.commands → next_call plan f 1 ≡ Some x → is_served x ≡ true
next_known plan f x all next =
    let at = next_stands plan f 1 x next in
    subst (λ (y : Call). is_served y ≡ true) at.same
    (about_served at.command.call (process_of f 1 at.command.word) ∙ at_place (commands_of 1 plan.commands) (console_at f 1).served at.command (of_first plan.commands all) at.stands)

served_may : (plan : Plan) (f : Facts) (x : Call) (r : Reply) → AtCommand plan f → IsNext plan f 1 x → is_served x ≡ true
    → is_enabled f x ≡ true → r ≡ reply_of f.server 1 x → MayAnswer x r → May plan f (entry.Served 1 x r)
served_may plan f x r at next known enabled is may =
    record {
      rule = record { answer = inl (record { at = at; next = next; enabled = enabled; same = is }); known = known; served = may };
      plain = f.plain;
      enabled = refl;
    }

served_stands : (w : World) (x : Call) (r : Reply) → May w.state.plan w.state.facts (entry.Served 1 x r) → StandsAlone w (entry.Served 1 x r)
served_stands w x r may = record { may = may; alone = λ none. none; one = refl; whole = refl; other = tt }

abbrev Started : Known → List ℕ → List ℕ → Datum → Bool → Entry
Started k m n args b =
    if b then entry.Start 1 (length k.facts.plain.running + 1) m n args
    else entry.Served 1 (command.Start m n args) (reply_of k.facts.server 1 (command.Start m n args))

start_stands : (w : World) (m n : List ℕ) (args : Datum) (b : Bool) → w.state.facts.server.made ≡ length w.state.facts.plain.running
    → nat_lt w.state.facts.server.made most_processes ≡ b → AtCommand w.state.plan w.state.facts → IsNext w.state.plan w.state.facts 1 (command.Start m n args) → StandsAlone w (Started w.state m n args b)
start_stands w m n args true made room at next =
    let space : nat_lt (length w.state.facts.plain.running) most_processes ≡ true = ap (λ (k : ℕ). nat_lt k most_processes) (sym made) ∙ room in
    record {
      may = record {
        rule = record { at = at; next = next; number = refl; allowed = rw room refl };
        plain = model.with_newborn w.state.facts.plain (opening_call m n (elements args));
        enabled = rw space refl;
      };
      alone = λ none. none;
      one = refl;
      whole = refl;
      other = tt;
    }
start_stands w m n args false made full at next =
    served_stands w (command.Start m n args) _ (served_may w.state.plan w.state.facts (command.Start m n args) _ at next refl refl refl (rw full tt))

-- the server counts the processes that were made
pub made_so : (w : World) → Keeps w → w.state.facts.server.made ≡ length w.state.facts.plain.running
made_so w keeps = subst (λ (f : Facts). f.server.made ≡ length f.plain.running) keeps.kept.facts (made_is w.state.plan w.journal.entries keeps.kept.legal)

pub command_stands : (w : World) (x : Call) → Keeps w → AtCommand w.state.plan w.state.facts → IsNext w.state.plan w.state.facts 1 x → is_served x ≡ true
    → is_enabled w.state.facts x ≡ true → StandsAlone w (command_entry w.state x)
command_stands w (command.Start m n args) keeps at next known enabled = start_stands w m n args _ (made_so w keeps) refl at next
command_stands w (command.Ii m) keeps at next known enabled = served_stands w _ _ (served_may w.state.plan w.state.facts _ _ at next known enabled refl tt)
command_stands w (command.Ib m l) keeps at next known enabled = served_stands w _ _ (served_may w.state.plan w.state.facts _ _ at next known enabled refl tt)
command_stands w (command.Ia p) keeps at next known enabled = served_stands w _ _ (served_may w.state.plan w.state.facts _ _ at next known enabled refl tt)
command_stands w (command.Continue p) keeps at next known enabled = served_stands w _ _ (served_may w.state.plan w.state.facts _ _ at next known enabled refl tt)
command_stands w (command.Bindings p) keeps at next known enabled = served_stands w _ _ (served_may w.state.plan w.state.facts _ _ at next known enabled refl tt)
command_stands w (command.Await p s) keeps at next known enabled = served_stands w _ _ (served_may w.state.plan w.state.facts _ _ at next known enabled refl tt)
command_stands w _ keeps at next known enabled = absurd (both_ways false refl known)

-- a command that waits isn't enabled
disabled : (plan : Plan) (f : Facts) (x : Call) → AtTurn plan f → next_call plan f 1 ≡ Some x → is_enabled f x ≡ false
disabled plan f x at next = subst (λ (o : Option Call). IfSome o (λ y. is_enabled f y ≡ false)) next (at.at.no_command 1 (omega arith, omega arith))

quiet_may : (plan : Plan) (f : Facts) (x : Call) → AtQuiet plan f → next_call plan f 1 ≡ Some x → is_served x ≡ true → is_enabled f x ≡ false
    → May plan f (entry.Served 1 x reply.Quiet)
quiet_may plan f (command.Await p s) at next known off =
    record {
      rule = record {
        answer = inr (record { at = at; console = (omega arith, omega arith); call = next; first = λ d low less. absurd (omega (arith, low, less)); same = refl });
        known = known;
        served = tt;
      };
      plain = f.plain;
      enabled = refl;
    }
quiet_may plan f (command.AwaitAny s) at next known off = absurd (both_ways false refl known)
quiet_may plan f _ at next known off = absurd (both_ways true off refl)

pub quiet_stands : (w : World) (x : Call) → AtQuiet w.state.plan w.state.facts → next_call w.state.plan w.state.facts 1 ≡ Some x → is_served x ≡ true
    → StandsAlone w (entry.Served 1 x reply.Quiet)
quiet_stands w x at next known =
    served_stands w x reply.Quiet (quiet_may w.state.plan w.state.facts x at next known (disabled w.state.plan w.state.facts x at.at.at next))

-- a trigger that is owed has the action `enable`
pub owes_enable : (w : World) → Keeps w → AreOwed w.state.facts
owes_enable w keeps = subst AreOwed keeps.kept.facts (owed_is w.state.plan w.journal.entries keeps.kept.legal)

-- a process that owes a trigger was made
pub owing_made : (w : World) (p : ℕ) → Keeps w → IsLeastOwing w.state.facts p → p ≤ length w.state.facts.plain.running
owing_made w p keeps owes =
    let agree = agrees w.state.plan w.journal.entries w.state.facts keeps.kept in
    let here = owed_within w.state.facts.debuggees p owes.trigger owes.owed in
    omega (arith, agree, here)

-- where no command is left and no process is ready, nothing can come
pub rests : (w : World) → IsGoing w → AtTurn w.state.plan w.state.facts → IsAllAnswered w.state.plan w.state.facts → IsStill w.state.facts → Rests w w
rests w going at through still =
    record {
      going = going;
      plan = refl;
      done = inr (record {
        at = at_quiet w.state.plan w.state.facts (calm_here w going.keeps) at still (going.free at.at.at.begin.light);
        through = through;
      });
    }
