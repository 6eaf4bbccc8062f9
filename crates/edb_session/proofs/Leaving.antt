-- What a world leaves is a run of its plan.

use Rattle.std.proofs.Common.{sym, ◌∙◌}
use Rattle.edb_rules.specs.Plans.{Plan}
use Rattle.edb_rules.specs.Notes.{facts}
use Rattle.edb_rules.proofs.Journals.{erased}
use Rattle.edb_rules.proofs.Stops.{stop_due, stands_before, none_passed}
use Rattle.edb_rules.proofs.Fresh.{moved_since}
use Rattle.edb_rules.proofs.Overs.{done_through}
use Rattle.edb_rules.proofs.Commanded.{in_order, at_place, served_is, all_served, reply_is}
use Rattle.edb_world.specs.declared.world.Outcome.{Outcome}
use Rattle.edb_world.specs.Outcomes.{IsOutcome}
use Rattle.edb_session.specs.Runs.{IsRun}

-- a legal journal of one hand has all that a run is asked
pub is_run : (plan : Plan) (left : Outcome) → IsOutcome plan left → IsRun plan left.journal.entries left.tables
is_run plan left is = record {
  legal = is.legal;
  one_hand = is.one_hand;
  state = (facts plan left.journal.entries).plain;
  plain = erased plan left.journal.entries is.legal;
  tables = is.tables;
  stops = λ k p m l n by at. (
    stop_due plan left.journal.entries k p m l n by is.legal at,
    stands_before plan left.journal.entries k p m l n by is.legal at,
    moved_since plan left.journal.entries k p m l n by is.legal at,
  );
  passed = λ k p n c at. none_passed plan left.journal.entries k p n c is.legal at;
  commands = λ k e c x at command. (
    (in_order plan left.journal.entries k e c x is.legal at command).0,
    at_place plan left.journal.entries k e c x is.legal at command,
  );
  all = λ done c console. sym (served_is plan left.journal.entries c is.legal)
      ∙ all_served plan left.journal.entries c is.legal (done_through plan left.journal.entries is.legal done) console;
  replies = λ k c x r at. reply_is plan left.journal.entries k c x r is.legal at;
}
