-- What a world leaves.

use Rattle.std.specs.Prelude.{◌≡◌, Bool, true, false, List}
use Rattle.edb_event.specs.declared.entry.Entry.{Entry}
use Rattle.edb_model.specs.Plain.{tables_of}
use Rattle.edb_rules.specs.Plans.{Plan}
use Rattle.edb_rules.specs.Notes.{facts}
use Rattle.edb_rules.specs.Legal.{Legal, IsOneHanded, IsDone, IsLimit}
use Rattle.edb_world.specs.declared.world.Outcome.{Outcome}

-- why a journal is over
abbrev pub IsOverBy : Plan → Bool → List Entry → Type 0
IsOverBy plan true journal = IsLimit plan (facts plan journal)
IsOverBy plan false journal = IsDone plan (facts plan journal)

-- What a world leaves: a legal journal of one hand that is over, and its tables.
pub record IsOutcome (plan : Plan) (left : Outcome) : Type 0 where
  pub legal : Legal plan left.journal.entries
  pub one_hand : IsOneHanded plan left.journal.entries
  pub over : IsOverBy plan left.limit left.journal.entries
  pub tables : left.tables ≡ tables_of (facts plan left.journal.entries).plain
